use Rattle.std.proofs.Common.{List, set, ap, ◌∙◌, arith, rules}
use Rattle.std.proofs.lemmas.List.{with_items_is, length-set}
use Rattle.cells.specs.declared.Cell.{Cell}
use Rattle.cells.specs.Cells.{at, free_cell}
use Rattle.cells.specs.Placing.{moved_list}
use Rattle.double_array.proofs.Moving.{moved_is}
use Rattle.double_array.proofs.nodes.Nodes.move_child.Goals as goal
use Rattle.double_array.proofs.nodes.Nodes.move_child.Goals.{then-cell-gt0, else-cell-gt0}

pub returns-clause-cells : goal.returns-clause-cells
returns-clause-cells c =
    let cs = c.as_mut_slice-cells.result.now in
    let ms = c.if-cell-gt0.cells in
    let from = c.args.from in
    let written : List Cell = set (set ms c.args.to (at cs from)) from free_cell in
    ap (λ v. v.items) c.note_leaf.ensures.cells
    ∙ with_items_is c.args.self.now.cells written (simp length-set (omega arith))
    ∙ moved_is cs ms from c.args.to (omega arith) (omega arith) (omega arith) (λ j h. elim c.if-cell-gt0.branch [ then-cell-gt0 w ↦ search rules | else-cell-gt0 w ↦ search rules ])
    ∙ ap (λ l. moved_list l from c.args.to) c.as_mut_slice-cells.ensures.value
