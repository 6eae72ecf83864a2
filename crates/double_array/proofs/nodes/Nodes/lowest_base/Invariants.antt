use Rattle.cells.specs.Placing.{FreeUpTo, NoneBelow}
use Rattle.double_array.proofs.nodes.Nodes.lowest_base.Given as goal

abbrev pub invariant-loop-code : goal.invariant-loop-code
invariant-loop-code l = FreeUpTo l.self.cells.items l.codes l.base l.code-index

abbrev pub invariant-bases : goal.invariant-bases
invariant-bases l = NoneBelow l.self.cells.items l.codes l.base
