use Rattle.std.proofs.Common.{◌≡◌, ℕ, ◌<◌, ltb, cond, length}
use Rattle.cells.specs.Cells.{at}
use Rattle.double_array.proofs.Turning.{reparented}
use Rattle.double_array.proofs.placing.repoint.Given as goal

abbrev pub invariant-loop-cell : goal.invariant-loop-cell
invariant-loop-cell l =
    (length l.cell-items ≡ length l.initial.cell-items)
    × ((k : ℕ) → k < length l.cell-items → at l.cell-items k ≡ cond (ltb k l.cell-index) (reparented l.from l.to (at l.initial.cell-items k)) (at l.initial.cell-items k))
