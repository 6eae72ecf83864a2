use Rattle.std.proofs.Common.{sym, refl, subst}
use Rattle.double_array.specs.Outcomes.{Taken}
use Rattle.double_array.proofs.Walks.{number_missing}
use Rattle.double_array.proofs.nodes.Nodes.take_out.Goals as goal

pub returns-in_err-t-clause-cells : goal.returns-in_err-t-clause-cells
returns-in_err-t-clause-cells c =
    let cs = c.args.self.now.cells.items in
    let is = c.args.self.now.index.items in
    let p = c.args.path.now in
    subst (λ o. Taken cs is p o cs is) (sym c.from_residual.ensures) (sym (number_missing cs p c.in_err-t.ensures.cell), refl, refl)
