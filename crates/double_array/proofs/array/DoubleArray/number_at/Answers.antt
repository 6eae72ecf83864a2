use Rattle.cells.proofs.Climbs.{walks}
use Rattle.double_array.specs.Views.{cells_of}
use Rattle.double_array.proofs.array.DoubleArray.number_at.Goals as goal

pub returns-clause-paths : goal.returns-clause-paths
returns-clause-paths c = walks (cells_of c.args.self.now) c.args.path.now
