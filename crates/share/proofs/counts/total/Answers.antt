use Rattle.std.proofs.Common.{◌≡◌, ℕ, ◌+◌, ◌*◌, ap, ◌∙◌, arith}
use Rattle.listing.specs.Rows.{rows_below}
use Rattle.share.specs.Shares.{sum_at}
use Rattle.share.proofs.Present.{rows_total}
use Rattle.share.proofs.Totals.{front, total_none, total_more}
use Rattle.share.proofs.counts.total.Goals as goal

pub loop-upper-init : goal.loop-upper-init
loop-upper-init c = (total_none c.args.table.now c.args.records.now c.args.x c.args.relation, omega arith)

pub loop-upper-preserved : goal.loop-upper-preserved
loop-upper-preserved c =
    let l = c.loop-upper in
    let rs = c.args.records.now in
    let rows = front _ _ _ _ c.list_upper-count.ensures.output in (
      total_more c.args.table.now rs c.args.x c.args.relation l.upper l.sum c.sum_at-sum.result l.invariant.0 (c.sum_at-sum.ensures.sum ∙ ap (sum_at rs) rows),
      omega (arith, l.invariant, c.sum_at-sum.ensures.most),
    )

pub returns-2-clause-sum : goal.returns-2-clause-sum
returns-2-clause-sum c =
    let l = c.loop-upper in
    let rs = c.args.records.now in
    let rows = front _ _ _ _ c.list_upper-count.ensures.output in
    let end : l.upper + 1 ≡ 256 = omega arith in
    total_more c.args.table.now rs c.args.x c.args.relation l.upper l.sum c.sum_at-sum.result l.invariant.0 (c.sum_at-sum.ensures.sum ∙ ap (sum_at rs) rows)
    ∙ ap (λ (n : ℕ). sum_at rs (rows_below c.args.table.now c.args.x c.args.relation (256 * n))) end
    ∙ rows_total c.args.table.now rs c.args.x c.args.relation
