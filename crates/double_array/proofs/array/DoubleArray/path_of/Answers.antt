use Rattle.double_array.specs.Views.{cells_of, index_of}
use Rattle.double_array.proofs.Spells.{upward_of, pointed_of, named_of}
use Rattle.double_array.proofs.array.DoubleArray.path_of.Goals as goal

pub path_of-requires : goal.path_of-requires
path_of-requires c =
    let d = c.args.self.now in
    record { upward = upward_of (cells_of d) (index_of d) d.sound; leaves = pointed_of (cells_of d) (index_of d) d.sound }

pub returns-clause-paths : goal.returns-clause-paths
returns-clause-paths c =
    let d = c.args.self.now in
    named_of (cells_of d) (index_of d) d.sound c.args.number
