use Rattle.std.proofs.Common.{◌≡◌, ℕ, ◌+◌, ◌-◌, ◌≤◌, List, length, get_or, take, drop, sym, ap, ◌∙◌, arith, rules}
use Rattle.std.specs.Str.{bytes_eq}
use Rattle.std.proofs.lemmas.List.{at_drop_all}
use Rattle.lexicon.specs.Rolls.{number_from}
use Rattle.plain_list.specs.Cuts.{cut}
use Rattle.plain_list.proofs.CutsLemmas.{next_inside}
use Rattle.plain_list.proofs.search.number_in.Goals as goal

pub slice_bounds-eq-end : goal.slice_bounds-eq-end
slice_bounds-eq-end c =
    let inside : c.loop-i.at + get_or c.args.lengths.now c.loop-i.i 0 ≤ length c.args.bytes.now = omega (arith, next_inside c.args.lengths.now c.loop-i.i c.loop-i-test.true) in
    search rules

-- what the comparison at this turn says of the word here
compared : (ns bs w : List ℕ) (i at : ℕ) → bytes_eq (take (at + get_or ns i 0 - at) (drop at bs)) w ≡ bytes_eq (take (get_or ns i 0) (drop at bs)) w
compared ns bs w i at = let n : at + get_or ns i 0 - at ≡ get_or ns i 0 = omega arith in ap (λ (m : ℕ). bytes_eq (take m (drop at bs)) w) n

pub returns : goal.returns
returns c =
    let l = c.loop-i in
    sym (at_drop_all (λ (ns : List ℕ). number_from (l.i + 1) (cut ns (drop l.at c.args.bytes.now)) c.args.word.now) c.args.lengths.now l.i c.loop-i-test.false)
    ∙ l.invariant.1
