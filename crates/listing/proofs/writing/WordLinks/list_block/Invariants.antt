use Rattle.std.proofs.Common.{◌*◌}
use Rattle.listing.specs.Parts.{rows_from, RowsWritten}
use Rattle.listing.proofs.writing.WordLinks.list_block.Given as goal

-- the rows of the lower bytes so far were placed
abbrev pub invariant-loop-lower : goal.invariant-loop-lower
invariant-loop-lower l = RowsWritten l.initial.out l.at (rows_from l.self.table.now l.self.x l.relation (256 * l.upper) l.lower) l.next l.out
