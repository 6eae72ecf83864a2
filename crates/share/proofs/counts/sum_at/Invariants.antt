use Rattle.std.proofs.Common.{◌≡◌, ◌*◌, ◌≤◌, take}
use Rattle.share.specs.Shares.{sum_at}
use Rattle.share.proofs.counts.sum_at.Given as goal

-- the counts of the rows so far were added
abbrev pub invariant-loop-row : goal.invariant-loop-row
invariant-loop-row l = (l.sum ≡ sum_at l.records (take l.row-index l.rows)) × (l.sum ≤ 4294967295 * l.row-index)
