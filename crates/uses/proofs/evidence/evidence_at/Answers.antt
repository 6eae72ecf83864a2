use Rattle.history.specs.Kits.{kit_of, state_of}
use Rattle.uses.proofs.Readings.{reads_own}
use Rattle.uses.proofs.evidence.evidence_at.Goals as goal

pub returns : goal.returns
returns g c = record {
  answer = c.read.ensures;
  own = reads_own (kit_of g.S.Script g.L.ReadableList g.R.Record) (state_of c.args.list.now c.args.table.now c.args.records.now) c.args.link c.read.result c.read.ensures;
}
