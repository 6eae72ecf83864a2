use Rattle.std.proofs.Common.{◌+◌, ◌-◌, ◌*◌, length}
use Rattle.output.specs.Written.{written}
use Rattle.subtrie.specs.Below.{edge_numbers, numbers_below}
use Rattle.subtrie.proofs.Writes.{Wrote}
use Rattle.subtrie.proofs.writing.+write_below_write_edges.Given as goal

abbrev pub decreases-write_below : goal.decreases-write_below
decreases-write_below l = 2 * l.left

abbrev pub decreases-write_edges : goal.decreases-write_edges
decreases-write_edges l = 2 * l.left + 1

-- what is left to write ends and leaves the output as all of it does
abbrev pub invariant-write_edges-loop-code : goal.invariant-write_edges-loop-code
invariant-write_edges-loop-code l =
    Wrote l.out l.next (edge_numbers (numbers_below l.left l.array.nodes.cells.items) l.array.nodes.cells.items l.s (258 - l.code))
    (l.at + length (edge_numbers (numbers_below l.left l.array.nodes.cells.items) l.array.nodes.cells.items l.s 257))
    (written l.initial.out l.at (edge_numbers (numbers_below l.left l.array.nodes.cells.items) l.array.nodes.cells.items l.s 257))
