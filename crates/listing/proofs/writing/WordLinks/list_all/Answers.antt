use Rattle.std.proofs.Common.{refl, arith}
use Rattle.listing.specs.Rows.{rows_to}
use Rattle.listing.proofs.Parts.{to_none, to_more, to_few}
use Rattle.listing.proofs.Places.{placed_none, placed_more}
use Rattle.listing.proofs.writing.WordLinks.list_all.Goals as goal

pub loop-before-init : goal.loop-before-init
loop-before-init c = placed_none c.args.out.now 0 _ _ _ (to_none c.args.self.now.table.now c.args.self.now.x) refl refl

pub list_relation-next-requires : goal.list_relation-next-requires
list_relation-next-requires c =
    let l = c.loop-before in
    omega (arith, l.invariant.ends, c.loop-before-test.true, to_few c.args.self.now.table.now c.args.self.now.x l.before)

pub loop-before-preserved : goal.loop-before-preserved
loop-before-preserved c =
    let t = c.args.self.now.table.now in
    let x = c.args.self.now.x in
    let l = c.loop-before in
    placed_more c.args.out.now 0 (rows_to t x l.before) _ _ l.next _ l.out _ (to_more t x l.before) l.invariant c.list_relation-next.ensures
