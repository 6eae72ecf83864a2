use Rattle.std.proofs.Common.{◌≡◌, ℕ, ◌+◌, ◌<◌, List, [], ◌++◌, length, get_or, take, sym, ap, ◌∙◌, arith, length-append}
use Rattle.std.specs.List.{flat_map}
use Rattle.std.proofs.lemmas.List.{flat_map_more, take_more}
use Rattle.output.specs.Written.{written}
use Rattle.output.proofs.Writes.{written_none}
use Rattle.line_text.specs.declared.rows.LineRow.{LineRow}
use Rattle.line_text.specs.Texts.{row_text}
use Rattle.line_text.proofs.Writing.{written_next}
use Rattle.line_text.proofs.write_rows.Goals as goal

-- the lines with one more row
rows_more : (rows : List LineRow) (i : ℕ) (d : LineRow) → i < length rows
    → flat_map row_text (take (i + 1) rows) ≡ flat_map row_text (take i rows) ++ row_text (get_or rows i d)
rows_more rows i d within =
    ap (flat_map row_text) (take_more rows i d within) ∙ sym (flat_map_more row_text [] (take i rows) (get_or rows i d))

blank : LineRow
blank = record { relation = 0; y = 0; count = 0 }

pub loop-row-init : goal.loop-row-init
loop-row-init c = (omega arith, sym (written_none c.args.out.now 0), omega arith)

pub loop-row-preserved : goal.loop-row-preserved
unfolding blank
loop-row-preserved c =
    let l = c.loop-row in
    let rows = c.args.rows.now in
    let before = flat_map row_text (take l.row-index rows) in
    let line = c.as_slice.result.now in
    let row = get_or rows l.row-index blank in
    let empty = ap length c.new-text.ensures in
    let is_row = c.as_slice.ensures.value ∙ c.put_three.ensures.wrote ∙ ap (λ z. z ++ row_text row) c.new-text.ensures in
    let all = rows_more rows l.row-index blank c.loop-row-test.true ∙ ap (λ z. before ++ z) (sym is_row) in (
      omega (arith, c.write_line-at.ensures.end, l.invariant.0, ap length all, length-append before line),
      c.write_line-at.ensures.after ∙ ap (λ z. written z l.at line) l.invariant.1
          ∙ written_next c.args.out.now before line l.at l.invariant.0
          (omega (arith, l.invariant.0, l.invariant.2, c.requires, c.loop-row-test.true))
          ∙ ap (written c.args.out.now 0) (sym all),
      omega (arith, c.write_line-at.ensures.end, l.invariant.2, c.put_three.ensures.short, ap length c.as_slice.ensures.value, empty),
    )
