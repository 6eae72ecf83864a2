use Rattle.std.proofs.Common.{rules}
use Rattle.history.specs.Kits.{kit_of}
use Rattle.store.proofs.Ties.{tie_unknown, tie_joined}
use Rattle.store.proofs.table.RelationTable.tie.Goals as goal

pub returns-in_err-triple : goal.returns-in_err-triple
returns-in_err-triple g c =
    let K = kit_of g.S.Script g.L.ReadableList g.R.Record in
    let m = c.in_ok-admit.ensures in
    tie_unknown K c.args.list.now c.args.self.now c.args.records.now c.args.words.x.now c.args.words.y.now c.args.words.relation c.args.record c.in_err-triple.field-0.0 c.from_residual-in_err-triple.result
    m c.in_err-triple.ensures (search rules)

pub returns : goal.returns
returns g c =
    let K = kit_of g.S.Script g.L.ReadableList g.R.Record in
    let m = c.in_ok-admit.ensures in
    let k = c.in_ok-triple.ensures in
    tie_joined K c.args.list.now c.args.self.now c.args.records.now c.args.words.x.now c.args.words.y.now c.args.words.relation c.args.record c.join.result c.join.new.self c.join.new.records
    m c.in_ok-triple.triple k.0 k.1 k.2 c.join.ensures
