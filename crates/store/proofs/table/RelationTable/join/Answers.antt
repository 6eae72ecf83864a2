use Rattle.std.proofs.Common.{Some, None, Ok, Option, sym, refl, subst, rules}
use Rattle.refusal.specs.declared.Refusal.{Refusal}
use Rattle.store.specs.Links.{JoinsAt}
use Rattle.store.proofs.Ties.{joins_refusal}
use Rattle.store.proofs.table.RelationTable.join.Goals as goal

pub returns-in_err-number : goal.returns-in_err-number
returns-in_err-number g c =
    rw (← c.self.view_is)
    (let m = c.in_err-number.ensures in
    subst (λ (o : Option Refusal). JoinsAt o c.self.inside.links c.args.records.now c.args.triple c.args.record c.from_residual.result c.put.new.self c.args.records.now)
    (sym (joins_refusal c.self.inside.links c.args.triple (Some c.in_err-number.field-0.0) m.0))
    (search rules, m.1, refl))

pub returns : goal.returns
returns g c =
    rw (← c.self.view_is)
    (let m = c.in_ok-number.ensures in
    subst (λ (o : Option Refusal). JoinsAt o c.self.inside.links c.args.records.now c.args.triple c.args.record (Ok (record { x = c.args.triple.x; y = c.args.triple.y; number = c.in_ok-number.number })) c.put.new.self c.write_record.new.records)
    (sym (joins_refusal c.self.inside.links c.args.triple None m.0))
    (c.in_ok-number.number, refl, m.1, c.write_record.ensures))
