use Rattle.std.proofs.Common.{◌≡◌, ◌+◌, take, drop, sum}
use Rattle.lexicon.specs.Rolls.{number_from, number_of}
use Rattle.plain_list.specs.Cuts.{cut}
use Rattle.plain_list.proofs.search.number_in.Given as goal

abbrev pub invariant-loop-i : goal.invariant-loop-i
invariant-loop-i l =
    (l.at ≡ sum (take l.i l.lengths))
    × (number_from (l.i + 1) (cut (drop l.i l.lengths) (drop l.at l.bytes)) l.word ≡ number_of (cut l.lengths l.bytes) l.word)
