use Rattle.std.proofs.Common.{◌≡◌, ◌+◌, ◌-◌, ◌<◌, [], length}
use Rattle.cells.specs.Cells.{parent}
use Rattle.cells.specs.Walking.{climb, path_to}
use Rattle.double_array.proofs.nodes.Nodes.path_length.Given as goal

abbrev pub invariant-loop-n : goal.invariant-loop-n
invariant-loop-n l = (0 < parent l.self.cells.items l.s) × (l.n + length (climb (length l.self.cells.items - l.n) l.self.cells.items l.s []) ≡ length (path_to l.self.cells.items l.t))
