use Rattle.std.proofs.Common.{◌*◌}
use Rattle.listing.specs.Rows.{rows_below}
use Rattle.listing.specs.Parts.{RowsWritten}
use Rattle.listing.proofs.writing.WordLinks.list_relation.Given as goal

-- the rows of the upper bytes so far were placed
abbrev pub invariant-loop-upper : goal.invariant-loop-upper
invariant-loop-upper l = RowsWritten l.initial.out l.at (rows_below l.self.table.now l.self.x l.relation (256 * l.upper)) l.next l.out
