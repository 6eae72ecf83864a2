use Rattle.std.proofs.Common.{◌≡◌, ◌-◌, Some, arith}
use Rattle.lexicon.specs.Rolls.{number_of}
use Rattle.lexicon.proofs.Numbers.{number_some}
use Rattle.plain_list.specs.Plain.{roll_of}
use Rattle.plain_list.proofs.Lists.{length_roll}
use Rattle.plain_list.proofs.list.PlainList.number_of.Goals as goal

pub map-requires : goal.map-requires
map-requires c n e _ _ =
    let s = c.args.self.now in
    let all : s.count - 0 ≡ s.count = omega arith in
    let found : number_of (roll_of s) c.args.word.now ≡ Some n = cc (c.number_in.ensures, c.as_slice.ensures.value, c.as_slice-2.ensures.value, e) in
    omega (arith, (number_some (roll_of s) c.args.word.now n found).1, length_roll s, s.few)
