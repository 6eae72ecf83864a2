use Rattle.std.proofs.Common.{◌≡◌, length}
use Rattle.list_tests.proofs.both.spelled.Given as goal

abbrev pub invariant-loop-number : goal.invariant-loop-number
invariant-loop-number g l = length l.out ≡ 7
