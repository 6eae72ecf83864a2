use Rattle.listing.specs.Rows.{rows_to}
use Rattle.listing.specs.Parts.{RowsWritten}
use Rattle.listing.proofs.writing.WordLinks.list_all.Given as goal

-- the rows of the relations so far were placed
abbrev pub invariant-loop-before : goal.invariant-loop-before
invariant-loop-before l = RowsWritten l.initial.out 0 (rows_to l.self.table.now l.self.x l.before) l.next l.out
