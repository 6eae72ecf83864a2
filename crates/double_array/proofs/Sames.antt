-- A double array whose cells and index are as they were is the very same.
use Rattle.std.proofs.Common.{◌≡◌, ℕ, List, IfNone, IfErr, Some, None, Ok, Err, vec_items, Option, Result}
use mathlib.Core.HLevel.{is_prop→PathP}
use denote.Struct.Props.{props}
use Rattle.cells.specs.contracts.Cell.{the_row as cell_row}
use Rattle.cells.specs.declared.Cell.{Cell}
use Rattle.cells.specs.Invariant.{Sound}
use Rattle.double_array.specs.declared.faults.PathFault.{PathFault}
use Rattle.double_array.specs.Entries.{EntersPath}
use Rattle.double_array.specs.Outcomes.{Taken}
use Rattle.double_array.specs.declared.array.DoubleArray.{DoubleArray}

-- two double arrays with the same nodes
pub same_array : (d e : DoubleArray) → d.nodes ≡ e.nodes → d ≡ e
same_array d e p = λ j. record {
  nodes = p j;
  sound = is_prop→PathP (λ k. Sound (vec_items (p k).cells) (vec_items (p k).index)) (λ k. hlevel (props, cell_row.coded)) d.sound e.sound j;
}

-- a refused entry leaves the cells and the index as they were
pub entry_same : (cs : List Cell) (is p : List ℕ) (u : ℕ) (r : Result (Unit {0}) PathFault) (xs : List Cell) (js : List ℕ) (Q : Type 0) → (xs ≡ cs → js ≡ is → Q) → EntersPath cs is p u r xs js → IfErr r (λ _. Q)
entry_same cs is p u (Ok _) xs js Q same done = tt
entry_same cs is p u (Err e) xs js Q same done = same done.1 done.2

-- and so does taking out a path that is not held
pub taken_same : (cs : List Cell) (is p : List ℕ) (r : Option ℕ) (xs : List Cell) (js : List ℕ) (Q : Type 0) → (xs ≡ cs → js ≡ is → Q) → Taken cs is p r xs js → IfNone r Q
taken_same cs is p None xs js Q same done = same done.1 done.2
taken_same cs is p (Some u) xs js Q same done = tt
