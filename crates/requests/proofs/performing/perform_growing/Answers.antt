use Rattle.history.specs.Kits.{kit_of}
use Rattle.requests.specs.Requests.{growing_call_of}
use Rattle.history.proofs.Onwards.{onward}
use Rattle.requests.proofs.performing.perform_growing.Goals as goal

pub returns : goal.returns
returns g c = record {
  step = c.make_growing.ensures;
  law = onward (kit_of g.S.Script g.L.ReadableList g.R.Record) (record { room = g.L.GrowingList.room; enters = g.L.GrowingList.enters }) _ _ (growing_call_of c.args.request) c.make_growing.result _ _ c.make_growing.ensures;
}
