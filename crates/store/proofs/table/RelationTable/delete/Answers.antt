use Rattle.std.proofs.Common.{ap, rules}
use Rattle.refusal.specs.Reports.{link_refusal}
use Rattle.store.specs.Links.{word_kit}
use Rattle.store.proofs.Ties.{refusal_unknown, delete_out, delete_absent}
use Rattle.store.proofs.table.RelationTable.delete.Goals as goal

pub returns-in_err-triple : goal.returns-in_err-triple
returns-in_err-triple g c =
    let K = word_kit g.S.Script g.L.ReadableList in
    let m = c.in_ok-test_words.ensures in
    let refused = refusal_unknown K c.args.list.now c.args.self.now c.args.words.x.now c.args.words.y.now c.args.words.relation m c.in_err-triple.field-0.0
    c.in_err-triple.ensures in
    search rules

pub returns-in_err-number : goal.returns-in_err-number
returns-in_err-number g c =
    rw (← c.self.view_is)
    (let K = word_kit g.S.Script g.L.ReadableList in
    let m = c.in_ok-test_words.ensures in
    let k = c.in_ok-triple.ensures in
    let e = c.in_err-number.ensures in
    delete_absent K c.args.list.now c.self.inside.links c.args.words.x.now c.args.words.y.now c.args.words.relation m c.in_ok-triple.triple k c.take.new.self
    e.0 (link_refusal c.in_err-number.field-0.0) (ap link_refusal e.1) c.from_residual-in_err-number.result (search rules) e.2)

pub returns : goal.returns
returns g c =
    rw (← c.self.view_is)
    (let K = word_kit g.S.Script g.L.ReadableList in
    let m = c.in_ok-test_words.ensures in
    let k = c.in_ok-triple.ensures in
    delete_out K c.args.list.now c.self.inside.links c.args.words.x.now c.args.words.y.now c.args.words.relation m c.in_ok-triple.triple k c.in_ok-number.number c.take.new.self c.in_ok-number.ensures)
