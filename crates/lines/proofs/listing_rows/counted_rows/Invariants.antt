use Rattle.std.proofs.Common.{◌≡◌, map, take}
use Rattle.line_text.specs.Texts.{printed_rows}
use Rattle.lines.specs.Lines.{row_of}
use Rattle.lines.proofs.listing_rows.counted_rows.Given as goal

abbrev pub invariant-loop-row : goal.invariant-loop-row
invariant-loop-row l = printed_rows l.counted ≡ map (row_of l.records) (take l.row-index l.rows)
