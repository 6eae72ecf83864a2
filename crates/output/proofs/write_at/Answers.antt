use Rattle.std.proofs.Common.{◌≡◌, ◌+◌, ◌≤◌, true, length, sym, ◌∙◌, arith}
use Rattle.std.proofs.lemmas.Bool.{le-leb, cond-true}
use Rattle.output.specs.Written.{fits}
use Rattle.output.proofs.Writes.{written_part}
use Rattle.output.proofs.write_at.Goals as goal

pub returns : goal.returns
returns g c =
    let out = c.args.out.now in
    let at = c.args.at in
    let items = c.args.items.now in
    let room : at + length items ≤ length out = omega arith in
    let fit : fits out at items ≡ true = le-leb _ _ room in
    record {
      end = sym (cond-true _ _ _ fit);
      after = written_part out at items _ c.copy_from_slice.ensures.after ∙ sym (cond-true _ _ _ fit);
    }
