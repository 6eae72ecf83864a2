use Rattle.subtrie.proofs.Absent.{filled_none, numbers_absent}
use Rattle.subtrie.proofs.write_from.Goals as goal

pub returns-in_default : goal.returns-in_default
returns-in_default c = filled_none _ _ (numbers_absent c.args.array.now.nodes.cells.items c.args.beginning.now c.in_default.ensures.cell)
