use Rattle.history.specs.Kits.{kit_of}
use Rattle.history.specs.Runs.{new}
use Rattle.history.proofs.Runs.{law_of}
use Rattle.store.proofs.table.RelationTable.new.Goals as goal

pub returns : goal.returns
returns g c = record {
  made = c.new.ensures;
  start = new c.count.ensures.lawful c.new.ensures;
  law = law_of (kit_of g.S.Script g.L.ReadableList g.R.Record) (new c.count.ensures.lawful c.new.ensures);
}
