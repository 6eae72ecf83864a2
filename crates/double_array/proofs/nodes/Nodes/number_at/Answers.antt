use Rattle.std.proofs.Common.{◌∙◌}
use Rattle.double_array.proofs.Walks.{number_missing}
use Rattle.double_array.proofs.nodes.Nodes.number_at.Goals as goal

pub returns-in_err-t : goal.returns-in_err-t
returns-in_err-t c = c.from_residual.ensures ∙ number_missing c.args.self.now.cells.items c.args.path.now c.in_err-t.ensures.cell
