-- What a change of nodes leaves as it is.
use Rattle.std.specs.Prelude.{vec_items}
use Rattle.std.specs.Vec.{SameBlock}
use Rattle.double_array.specs.declared.nodes.Nodes.{Nodes}
use Rattle.double_array.specs.Outcomes.{SameSizes}

-- the cells and the index stand where they stood, and are as many: no memory is asked for or given back
abbrev pub SameBuffers : Nodes → Nodes → Type 0
SameBuffers old new =
    SameBlock old.cells new.cells × SameBlock old.index new.index
    × SameSizes (vec_items old.cells) (vec_items old.index) (vec_items new.cells) (vec_items new.index)
