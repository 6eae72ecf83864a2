use Rattle.std.proofs.Common.{◌≡◌, ◌<◌, length, take, drop, pos, Some}
use Rattle.double_array.specs.Buffers.{SameBuffers}
use Rattle.double_array.proofs.Growing.{grow_on}
use Rattle.double_array.proofs.nodes.Nodes.extend.Given as goal

abbrev pub invariant-loop-i : goal.invariant-loop-i
invariant-loop-i l =
    (l.tip < length l.self.cells.items)
    × (grow_on (drop l.i l.codes) l.leaf (record { cells = l.self.cells.items; index = l.self.index.items; spot = l.tip })
    ≡ grow_on l.codes l.leaf (record { cells = l.initial.self.cells.items; index = l.initial.self.index.items; spot = l.s }))
    × (l.i < length l.codes
    → grow_on (take l.i l.codes) (pos 0) (record { cells = l.initial.self.cells.items; index = l.initial.self.index.items; spot = l.s })
    ≡ Some (record { cells = l.self.cells.items; index = l.self.index.items; spot = l.tip }))
    × SameBuffers l.initial.self l.self
