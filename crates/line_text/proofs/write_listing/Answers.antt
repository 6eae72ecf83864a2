use Rattle.std.proofs.Common.{◌≤◌, ◌++◌, length, codes, ap, ◌∙◌, arith}
use Rattle.std.specs.List.{flat_map}
use Rattle.output.specs.Written.{written}
use Rattle.line_text.specs.Texts.{row_text, number_text}
use Rattle.line_text.proofs.Writing.{written_next}
use Rattle.line_text.proofs.write_listing.Goals as goal

pub returns-clause-after : goal.returns-clause-after
returns-clause-after c =
    let out = c.args.out.now in
    let rows = flat_map row_text c.args.rows.now in
    let line = c.as_slice.result.now in
    let at = c.write_rows-at.ensures in
    let room : length rows ≤ length out = omega (arith, at.end, at.short, c.requires.room, c.requires.few) in
    let line_is = c.as_slice.ensures.value ∙ c.put_field.ensures.wrote
    ∙ ap (λ z. z ++ number_text (length c.args.rows.now) 10) (c.put_text.ensures ∙ ap (λ z. z ++ codes "end\t") c.new-text.ensures) in
    c.write_line.ensures.after ∙ ap (λ z. written z c.write_rows-at.result line) at.after ∙ written_next out rows line c.write_rows-at.result at.end room
    ∙ ap (λ z. written out 0 (rows ++ z)) line_is
