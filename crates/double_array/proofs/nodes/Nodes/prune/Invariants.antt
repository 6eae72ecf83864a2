use Rattle.std.proofs.Common.{◌≡◌, ◌-◌, ◌<◌, length}
use Rattle.cells.specs.Pruning.{prune}
use Rattle.double_array.specs.Buffers.{SameBuffers}
use Rattle.double_array.specs.Outcomes.{Parented}
use Rattle.double_array.proofs.nodes.Nodes.prune.Given as goal

abbrev pub invariant-loop : goal.invariant-loop
invariant-loop l =
    (l.s < length l.self.cells.items)
    × Parented l.self.cells.items
    × (prune (l.n - l.counter) l.self.cells.items l.s ≡ prune l.n l.initial.self.cells.items l.t)
    × (l.self.index ≡ l.initial.self.index)
    × SameBuffers l.initial.self l.self
