use Rattle.std.proofs.Common.{◌+◌, ◌*◌, sym, refl, ap, arith}
use Rattle.link_table.specs.Tables.{found}
use Rattle.listing.specs.Rows.{row}
use Rattle.listing.specs.Parts.{rows_from}
use Rattle.listing.proofs.Parts.{from_none, from_more, from_few}
use Rattle.listing.proofs.Places.{placed_none, placed_as, placed_more}
use Rattle.listing.proofs.writing.WordLinks.list_block.Goals as goal
use Rattle.listing.proofs.writing.WordLinks.list_block.Goals.{in-Some, in_default}

pub loop-lower-init : goal.loop-lower-init
loop-lower-init c = placed_none c.args.out.now c.args.at _ _ _ (from_none c.args.self.now.table.now c.args.self.now.x c.args.relation (256 * c.args.upper)) refl refl

pub place_row-next-requires : goal.place_row-next-requires
place_row-next-requires c =
    let l = c.loop-lower in
    omega (arith, l.invariant.ends, c.requires, c.loop-lower-test.true, from_few c.args.self.now.table.now c.args.self.now.x c.args.relation (256 * c.args.upper) l.lower)

pub loop-lower-preserved : goal.loop-lower-preserved
loop-lower-preserved c =
    let t = c.args.self.now.table.now in
    let x = c.args.self.now.x in
    let k = c.args.relation in
    let b = 256 * c.args.upper in
    let l = c.loop-lower in
    let y = b + l.lower in
    let one = row (found t (record { x = x; relation = k; y = y })) k y in
    let m = c.match-link_number in
    placed_more c.args.out.now c.args.at (rows_from t x k b l.lower) one _ l.next m.next l.out m.out (from_more t x k b l.lower) l.invariant
    (elim m.branch [
      | in-Some w ↦ placed_as l.out l.next _ one _ _ _ _ (sym (ap (λ o. row o k y) w.in-Some.ensures.number)) w.next-is w.out-is w.place_row-next.ensures
      | in_default w ↦ placed_none l.out l.next one _ _ (sym (ap (λ o. row o k y) w.in_default.ensures.number)) w.next-is w.out-is
    ])
