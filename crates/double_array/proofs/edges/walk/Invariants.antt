use Rattle.std.proofs.Common.{◌≡◌, ◌<◌, length, drop}
use Rattle.cells.specs.Walking.{walk}
use Rattle.double_array.proofs.edges.walk.Given as goal

abbrev pub invariant-loop-code : goal.invariant-loop-code
invariant-loop-code l = (l.s < length l.cells) × (walk l.cells l.s (drop l.code-index l.path) ≡ walk l.cells 1 l.path)
