use Rattle.std.proofs.Common.{◌≡◌, ◌*◌, ◌^◌, ◌≤◌}
use Rattle.listing.specs.Rows.{rows_below}
use Rattle.share.specs.Shares.{sum_at}
use Rattle.share.proofs.counts.total.Given as goal

-- the counts of the upper bytes so far were added
abbrev pub invariant-loop-upper : goal.invariant-loop-upper
invariant-loop-upper l = (l.sum ≡ sum_at l.records (rows_below l.table l.x l.relation (256 * l.upper))) × (l.sum ≤ 2 ^ 40 * l.upper)
