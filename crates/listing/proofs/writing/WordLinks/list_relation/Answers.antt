use Rattle.std.proofs.Common.{◌≡◌, ℕ, ◌+◌, ◌*◌, [], ◌∷◌, get_or, refl, subst, arith}
use Rattle.listing.specs.Rows.{rows_below}
use Rattle.listing.specs.Parts.{rows_from, RowsWritten}
use Rattle.listing.proofs.Absent.{relation_absent, block_absent}
use Rattle.listing.proofs.Parts.{below_none, below_next, below_few}
use Rattle.listing.proofs.Places.{placed_none, placed_as, placed_more}
use Rattle.listing.proofs.writing.WordLinks.list_relation.Goals as goal
use Rattle.listing.proofs.writing.WordLinks.list_relation.Goals.{Joined-leads, then-leads, else-leads}

pub returns-then-not-leads : goal.returns-then-not-leads
returns-then-not-leads c =
    let absent = relation_absent c.args.self.now.table.now c.args.self.now.x c.args.relation _ (λ j. get_or (c.beginning.ensures j) 0 0 ∷ get_or (c.beginning.ensures j) 1 0 ∷ get_or (c.beginning.ensures j) 2 0 ∷ []) c.if-not-leads.ensures in
    placed_none c.args.out.now c.args.at _ _ _ (absent 65536) refl refl

pub loop-upper-init : goal.loop-upper-init
loop-upper-init c = placed_none c.args.out.now c.args.at _ _ _ (below_none c.args.self.now.table.now c.args.self.now.x c.args.relation) refl refl

pub list_block-next-requires : goal.list_block-next-requires
list_block-next-requires c =
    let l = c.loop-upper in
    omega (arith, l.invariant.ends, c.requires, below_few c.args.self.now.table.now c.args.self.now.x c.args.relation (256 * l.upper))

-- the rows of one upper byte more were placed, or it has none
one_more : (c : Joined-leads) → RowsWritten c.args.out.now c.args.at (rows_below c.args.self.now.table.now c.args.self.now.x c.args.relation (256 * (c.loop-upper.upper + 1))) c.if-leads.next c.if-leads.out
one_more c =
    let t = c.args.self.now.table.now in
    let x = c.args.self.now.x in
    let k = c.args.relation in
    let l = c.loop-upper in
    let m = c.if-leads in
    let before = rows_below t x k (256 * l.upper) in
    let block = rows_from t x k (256 * l.upper) 256 in
    placed_more c.args.out.now c.args.at before block _ l.next m.next l.out m.out (below_next t x k l.upper) l.invariant
    (elim m.branch [
      | then-leads w ↦ placed_as l.out l.next block block _ _ _ _ refl w.next-is w.out-is w.list_block-next.ensures
      | else-leads w ↦
          placed_none l.out l.next block _ _
          (block_absent t x k l.upper _ (λ j. get_or (c.beginning.ensures j) 0 0 ∷ get_or (c.beginning.ensures j) 1 0 ∷ get_or (c.beginning.ensures j) 2 0 ∷ c.label_code.ensures j ∷ []) w.if-leads.ensures)
          w.next-is w.out-is
    ])

pub loop-upper-preserved : goal.loop-upper-preserved
loop-upper-preserved c = one_more (goal.at.loop-upper-preserved c).Joined-leads

pub returns-after-leads : goal.returns-after-leads
returns-after-leads c =
    let last : c.loop-upper.upper + 1 ≡ 256 = omega arith in
    subst (λ (n : ℕ). RowsWritten c.args.out.now c.args.at (rows_below c.args.self.now.table.now c.args.self.now.x c.args.relation (256 * n)) c.if-leads.next c.if-leads.out)
    last (one_more (goal.at.returns-after-leads c).Joined-leads)
