use Rattle.std.proofs.Common.{◌≡◌, ◌+◌, ◌≤◌}
use Rattle.arrayvec.specs.ArrayVec.{array_vec_len}
use Rattle.cells.specs.Cells.{codes_below}
use Rattle.double_array.proofs.nodes.Nodes.child_codes.Given as goal

abbrev pub invariant-loop-code : goal.invariant-loop-code
invariant-loop-code l = (array_vec_len l.codes + 1 ≤ l.code) × (l.codes.items ≡ codes_below l.self.cells.items l.s l.code)
