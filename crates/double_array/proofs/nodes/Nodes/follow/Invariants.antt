use Rattle.std.proofs.Common.{◌≡◌, ◌<◌, length, drop}
use Rattle.double_array.specs.Entries.{follow}
use Rattle.double_array.proofs.nodes.Nodes.follow.Given as goal

abbrev pub invariant-loop-i : goal.invariant-loop-i
invariant-loop-i l = (l.s < length l.self.cells.items) × (follow l.self.cells.items l.s (drop l.i l.path) ≡ follow l.self.cells.items 1 l.path)
