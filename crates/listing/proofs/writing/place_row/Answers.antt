use Rattle.std.proofs.Common.{sym, ◌∙◌}
use Rattle.std.proofs.lemmas.List.{set_past}
use Rattle.listing.proofs.Places.{placed_one}
use Rattle.listing.proofs.writing.place_row.Goals as goal
use Rattle.listing.proofs.writing.place_row.Goals.{then-at-out, else-at-out}

pub returns : goal.returns
returns c =
    let out = c.args.out.now in
    placed_one out c.args.at c.args.line _
    (elim c.if-at-out.branch [
      | then-at-out w ↦ w.out-is
      | else-at-out w ↦ w.out-is ∙ sym (set_past out c.args.at c.args.line w.if-at-out.false)
    ])
