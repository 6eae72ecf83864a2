use Rattle.double_array.specs.Views.{cells_of, index_of}
use Rattle.double_array.proofs.Uses.{counted_of}
use Rattle.double_array.proofs.array.DoubleArray.in_use.Goals as goal

pub returns-clause-paths : goal.returns-clause-paths
returns-clause-paths c =
    let d = c.args.self.now in
    counted_of (cells_of d) (index_of d) d.sound c.in_use.result c.in_use.ensures
