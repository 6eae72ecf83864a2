use Rattle.std.proofs.Common.{◌≡◌, ◌-◌, ◌<◌, length}
use Rattle.cells.specs.Placing.{freed_up}
use Rattle.double_array.specs.Buffers.{SameBuffers}
use Rattle.double_array.specs.Outcomes.{Parented}
use Rattle.double_array.proofs.nodes.Nodes.free_up.Given as goal

abbrev pub invariant-loop : goal.invariant-loop
invariant-loop l =
    (l.s < length l.self.cells.items)
    × Parented l.self.cells.items
    × (freed_up (l.n - l.counter) l.self.cells.items l.s ≡ freed_up l.n l.initial.self.cells.items l.t)
    × (l.self.index ≡ l.initial.self.index)
    × SameBuffers l.initial.self l.self
