use Rattle.std.proofs.Common.{◌≡◌, ◌+◌, ◌-◌, get_or, take, vec_items, sum, ap, arith}
use Rattle.plain_list.proofs.Lists.{counted_lengths, front_is, word_inside, word_reads}
use Rattle.plain_list.proofs.list.PlainList.word_at.Goals as goal

pub bytes_of-start-requires : goal.bytes_of-start-requires
bytes_of-start-requires c =
    let s = c.args.self.now in
    let all : c.args.index - 0 ≡ c.args.index = omega arith in
    let front = front_is s c.args.index c.requires in
    let given : take (c.args.index - 0) c.as_slice-lengths.result.now ≡ take c.args.index (counted_lengths s) = cc in
    omega (arith, ap sum given, word_inside s c.args.index c.requires)

pub returns : goal.returns
returns c =
    let s = c.args.self.now in
    let all : c.args.index - 0 ≡ c.args.index = omega arith in
    let front = front_is s c.args.index c.requires in
    let start : c.bytes_of-start.result ≡ sum (take c.args.index (counted_lengths s)) = cc c.bytes_of-start.ensures in
    let long : c.bytes_of-start.result + get_or c.as_slice-lengths.result.now c.args.index 0 - c.bytes_of-start.result ≡ get_or (vec_items s.lengths) c.args.index 0 =
    let read : get_or c.as_slice-lengths.result.now c.args.index 0 ≡ get_or (vec_items s.lengths) c.args.index 0 = cc in
    omega arith in
    let reads = word_reads s c.args.index c.requires in
    cc
