use Rattle.std.proofs.Common.{Ok, Err, refl, rules}
use Rattle.refusal.specs.declared.Side.TheVariants.{First, Second}
use Rattle.lexicon.specs.Growths.{Growth}
use Rattle.history.specs.Kits.{kit_of}
use Rattle.store.proofs.Adds.{stepped, add_refused, add_no_x, add_no_y, add_joined}
use Rattle.store.proofs.table.RelationTable.add.Goals as goal

pub returns-in_err-admit : goal.returns-in_err-admit
returns-in_err-admit g c =
    let K = kit_of g.S.Script g.L.ReadableList g.R.Record in
    let G : Growth _ = record { room = g.L.GrowingList.room; enters = g.L.GrowingList.enters } in
    add_refused K G c.args.list.now c.args.self.now c.args.records.now c.args.words.x.now c.args.words.y.now c.args.words.relation c.args.record c.in_err-admit.field-0.0 c.from_residual.result
    c.in_err-admit.ensures (search rules)

pub returns-in_err-x : goal.returns-in_err-x
returns-in_err-x g c =
    let K = kit_of g.S.Script g.L.ReadableList g.R.Record in
    let G : Growth _ = record { room = g.L.GrowingList.room; enters = g.L.GrowingList.enters } in
    let m = c.in_ok-admit.ensures in
    add_no_x K G c.args.list.now c.args.self.now c.args.records.now c.args.words.x.now c.args.words.y.now c.args.words.relation c.args.record m c.enter.new.list c.in_err-x.field-0.0 c.from_residual-in_err-x.result
    (stepped K G c.args.list.now c.args.words.x.now First c.enter.new.list _ refl (Err c.in_err-x.field-0.0) c.in_err-x.ensures)
    (search rules)

pub returns-in_err-y : goal.returns-in_err-y
returns-in_err-y g c =
    let K = kit_of g.S.Script g.L.ReadableList g.R.Record in
    let G : Growth _ = record { room = g.L.GrowingList.room; enters = g.L.GrowingList.enters } in
    let m = c.in_ok-admit.ensures in
    let wx = stepped K G c.args.list.now c.args.words.x.now First c.enter.new.list _ refl (Ok c.in_ok-x.x) c.in_ok-x.ensures in
    add_no_y K G c.args.list.now c.args.self.now c.args.records.now c.args.words.x.now c.args.words.y.now c.args.words.relation c.args.record m c.enter.new.list c.enter-2.new.list c.in_ok-x.x wx c.in_err-y.field-0.0 c.from_residual-in_err-y.result
    (stepped K G c.enter.new.list c.args.words.y.now Second c.enter-2.new.list _ refl (Err c.in_err-y.field-0.0) c.in_err-y.ensures)
    (search rules)

pub returns : goal.returns
returns g c =
    let K = kit_of g.S.Script g.L.ReadableList g.R.Record in
    let G : Growth _ = record { room = g.L.GrowingList.room; enters = g.L.GrowingList.enters } in
    let m = c.in_ok-admit.ensures in
    let wx = stepped K G c.args.list.now c.args.words.x.now First c.enter.new.list _ refl (Ok c.in_ok-x.x) c.in_ok-x.ensures in
    let wy = stepped K G c.enter.new.list c.args.words.y.now Second c.enter-2.new.list _ refl (Ok c.in_ok-y.y) c.in_ok-y.ensures in
    add_joined K G c.args.list.now c.args.self.now c.args.records.now c.args.words.x.now c.args.words.y.now c.args.words.relation c.args.record m c.enter.new.list c.enter-2.new.list c.in_ok-x.x wx c.in_ok-y.y wy
    c.join.result c.join.new.self c.join.new.records c.join.ensures
