use Rattle.std.proofs.Common.{◌≡◌, ◌+◌, ◌-◌, ◌*◌}
use Rattle.subtrie.specs.Below.{edge_numbers, numbers_below, room_after}
use Rattle.subtrie.proofs.room.+room_below_room_edges.Given as goal

abbrev pub decreases-room_below : goal.decreases-room_below
decreases-room_below l = 2 * l.left

abbrev pub decreases-room_edges : goal.decreases-room_edges
decreases-room_edges l = 2 * l.left + 1

abbrev pub invariant-room_edges-loop-code : goal.invariant-room_edges-loop-code
invariant-room_edges-loop-code l =
    room_after l.rest (edge_numbers (numbers_below l.left l.array.nodes.cells.items) l.array.nodes.cells.items l.s (258 - l.code))
    ≡ room_after l.room (edge_numbers (numbers_below l.left l.array.nodes.cells.items) l.array.nodes.cells.items l.s 257)
