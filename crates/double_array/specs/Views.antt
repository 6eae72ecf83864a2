-- What a double array holds.
use Rattle.std.specs.Prelude.{ℕ, List, vec_items}
use Rattle.cells.specs.declared.Cell.{Cell}
use Rattle.cells.specs.Placing.{Arrays}
use Rattle.double_array.specs.declared.nodes.Nodes.{Nodes}
use Rattle.double_array.specs.declared.array.DoubleArray.{DoubleArray}

-- its cells
abbrev pub cells_of : DoubleArray → List Cell
cells_of d = vec_items d.nodes.cells

-- its index
abbrev pub index_of : DoubleArray → List ℕ
index_of d = vec_items d.nodes.index

-- the cells and the index that nodes have
abbrev pub arrays_of : Nodes → Arrays
arrays_of n = record { cells = vec_items n.cells; index = vec_items n.index }
