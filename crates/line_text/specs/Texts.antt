-- The text of each answer; byte 9 is a tab and byte 10 a line feed.
use Rattle.std.specs.Prelude.{ℕ, List, [], ◌∷◌, ◌++◌, length, take, Ok, Err, codes, decimal, if◌then◌else◌, Result, nat_le, nat_lt}
use Rattle.std.specs.List.{flat_map}
use Rattle.output.specs.Written.{written}
use Rattle.refusal.specs.declared.Refusal.{Refusal}
use Rattle.refusal.specs.declared.Report.{Report}
use Rattle.refusal.specs.Reports.{report_of, layer_number, side_number}
use Rattle.line_text.specs.declared.rows.LineRow.{LineRow}
use Rattle.line_text.specs.declared.rows.LineRows.{LineRows}
use Rattle.line_text.specs.declared.LineAnswer.{LineAnswer}
use Rattle.line_text.specs.declared.LineAnswer.TheVariants.{Done, Found, Absent, Listing, Share}

-- the rows of a listing, in their order
abbrev pub printed_rows : LineRows → List LineRow
printed_rows rows = take rows.count rows.rows

-- rows with one more, of which 100 have a place
abbrev pub rows_with : List LineRow → LineRow → List LineRow
rows_with rows row = if nat_lt (length rows) 100 then rows ++ row ∷ [] else rows

-- an output with a text from its start on, if it has the 4,096 bytes that no text exceeds
abbrev pub with_text : List ℕ → List ℕ → List ℕ
with_text out text = if nat_le 4096 (length out) then written out 0 text else out

-- a number, and the byte that ends it
abbrev pub number_text : ℕ → ℕ → List ℕ
number_text n end = decimal n ++ end ∷ []

-- three numbers with tabs between them, as a line
abbrev pub three_text : ℕ → ℕ → ℕ → List ℕ
three_text a b c = number_text a 9 ++ (number_text b 9 ++ number_text c 10)

-- a row: relation, y and count
abbrev pub row_text : LineRow → List ℕ
row_text row = three_text row.relation row.y row.count

-- a listing: its rows, and how many there are
abbrev pub rows_text : List LineRow → List ℕ
rows_text rows = flat_map row_text rows ++ (codes "end\t" ++ number_text (length rows) 10)

-- a refusal: its number, its layer and its side
abbrev pub report_line : Report → List ℕ
report_line report = codes "no\t" ++ three_text report.number (layer_number report.layer) (side_number report.side)

-- what a command that is not refused answers
abbrev pub done_text : LineAnswer → List ℕ
done_text Done = codes "ok\n"
done_text (Found x y count) = three_text x y count
done_text Absent = codes "none\n"
done_text (Listing rows) = rows_text (printed_rows rows)
done_text (Share share) = number_text share 10

-- what is printed of an answer
abbrev pub answer_text : Result LineAnswer Refusal → List ℕ
answer_text (Ok answer) = done_text answer
answer_text (Err refusal) = report_line (report_of refusal)
