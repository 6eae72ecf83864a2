use Rattle.std.proofs.Common.{Ok, Err, refl, rules}
use Rattle.history.specs.Kits.{kit_of, state_of}
use Rattle.uses.proofs.Readings.{read_back}
use Rattle.uses.proofs.evidence.evidence_of.Goals as goal

pub returns-in_err-link-clause-run : goal.returns-in_err-link-clause-run
returns-in_err-link-clause-run g c =
    (c.new-table.result, c.new-table.ensures.made, (Err c.in_err-link.field-0.0, state_of c.add.new.list c.add.new.self c.add.new.records, c.in_err-link.ensures, (search rules, refl, refl)))

pub returns-in_err-add-clause-run : goal.returns-in_err-add-clause-run
returns-in_err-add-clause-run g c = (
  c.new-table.result,
  c.new-table.ensures.made,
  (
    Ok c.in_ok-link.link,
    state_of c.add.new.list c.add.new.self c.add.new.records,
    c.in_ok-link.ensures,
    (Err c.in_err-add.field-0.0, state_of c.add-2.new.list c.add-2.new.self c.add-2.new.records, c.in_err-add.ensures, (search rules, refl, refl)),
  ),
)

pub returns-in_err-delete-clause-run : goal.returns-in_err-delete-clause-run
returns-in_err-delete-clause-run g c = (
  c.new-table.result,
  c.new-table.ensures.made,
  (
    Ok c.in_ok-link.link,
    state_of c.add.new.list c.add.new.self c.add.new.records,
    c.in_ok-link.ensures,
    (
      Ok c.in_ok-add.field-0,
      state_of c.add-2.new.list c.add-2.new.self c.add-2.new.records,
      c.in_ok-add.ensures,
      (c.tie.result, state_of c.add-2.new.list c.tie.new.self c.tie.new.records, c.tie.ensures, Err c.in_err-delete.field-0.0, c.delete.new.self, c.in_err-delete.ensures, (search rules, refl, refl)),
    ),
  ),
)

pub returns-clause-run : goal.returns-clause-run
returns-clause-run g c = (
  c.new-table.result,
  c.new-table.ensures.made,
  (
    Ok c.in_ok-link.link,
    state_of c.add.new.list c.add.new.self c.add.new.records,
    c.in_ok-link.ensures,
    (
      Ok c.in_ok-add.field-0,
      state_of c.add-2.new.list c.add-2.new.self c.add-2.new.records,
      c.in_ok-add.ensures,
      (c.tie.result, state_of c.add-2.new.list c.tie.new.self c.tie.new.records, c.tie.ensures, Ok c.in_ok-delete.field-0, c.delete.new.self, c.in_ok-delete.ensures, (c.read.ensures, refl, refl)),
    ),
  ),
)

pub returns-clause-own : goal.returns-clause-own
returns-clause-own g c =
    read_back (kit_of g.S.Script g.L.ReadableList g.R.Record) _ _ _ _ _ _ _ _ _ _ _ _ _ _ _ c.tie.result c.in_ok-delete.field-0
    c.new-table.ensures.start c.in_ok-link.ensures c.in_ok-add.ensures c.tie.ensures c.in_ok-delete.ensures c.read.result c.read.ensures
