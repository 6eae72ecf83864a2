use Rattle.std.proofs.Common.{◌≡◌, drop}
use Rattle.cells.specs.Placing.{moves, index_moves}
use Rattle.double_array.specs.Buffers.{SameBuffers}
use Rattle.double_array.proofs.nodes.Nodes.relocate.Given as goal

abbrev pub invariant-loop-code : goal.invariant-loop-code
invariant-loop-code l =
    (moves l.old l.new l.self.cells.items (drop l.code-index l.codes) ≡ moves l.old l.new l.initial.self.cells.items l.codes)
    × (index_moves l.old l.new l.self.cells.items l.self.index.items (drop l.code-index l.codes) ≡ index_moves l.old l.new l.initial.self.cells.items l.initial.self.index.items l.codes)
    × SameBuffers l.initial.self l.self
