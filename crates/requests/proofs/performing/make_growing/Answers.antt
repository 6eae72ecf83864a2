use Rattle.history.specs.Kits.{kit_of}
use Rattle.requests.proofs.Others.{other_steps}
use Rattle.requests.proofs.performing.make_growing.Goals as goal

pub returns-in-Other : goal.returns-in-Other
returns-in-Other g c = other_steps (kit_of g.S.Script g.L.ReadableList g.R.Record) (record { room = g.L.GrowingList.room; enters = g.L.GrowingList.enters }) c.args.request c.in-Other.request c.in-Other.is _ _ _ _ _ c.make.ensures
