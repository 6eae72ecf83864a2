use Rattle.std.proofs.Common.{◌≡◌, ◌*◌, ◌≤◌, length, take}
use Rattle.std.specs.List.{flat_map}
use Rattle.output.specs.Written.{written}
use Rattle.line_text.specs.Texts.{row_text}
use Rattle.line_text.proofs.write_rows.Given as goal

-- the lines of the rows so far are written from the start on
abbrev pub invariant-loop-row : goal.invariant-loop-row
invariant-loop-row l =
    (l.at ≡ length (flat_map row_text (take l.row-index l.rows)))
    × (l.out ≡ written l.initial.out 0 (flat_map row_text (take l.row-index l.rows)))
    × (l.at ≤ 33 * l.row-index)
