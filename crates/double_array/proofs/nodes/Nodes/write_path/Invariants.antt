use Rattle.std.proofs.Common.{◌≡◌, ◌-◌, ◌<◌, length, drop}
use Rattle.cells.specs.Cells.{parent}
use Rattle.cells.specs.Walking.{climb, path_to}
use Rattle.double_array.proofs.nodes.Nodes.write_path.Given as goal

abbrev pub invariant-loop-i : goal.invariant-loop-i
invariant-loop-i l =
    (0 < parent l.self.cells.items l.s)
    × (climb (length l.self.cells.items - (length l.out - l.i)) l.self.cells.items l.s (drop l.i l.out) ≡ path_to l.self.cells.items l.t)
