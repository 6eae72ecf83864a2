use Rattle.std.proofs.Common.{Some, None, arith}
use Rattle.cells.proofs.Lowests.{lowest_is}
use Rattle.double_array.proofs.nodes.Nodes.lowest_base.Goals as goal

-- each code has a free cell at this base, and none below it was so
pub returns-in-bases : goal.returns-in-bases
returns-in-bases c =
    let free = c.loop-code.invariant in
    lowest_is _ _ (Some c.bases.base) c.requires (c.bases.auto.base, (λ k h. free k (omega arith)), c.bases.invariant)

-- a base at which the first code has a cell was tried
pub returns : goal.returns
returns c = lowest_is _ _ None c.requires (λ b h all. c.bases.invariant b (omega (arith, (all 0 c.requires).0)) h all)
