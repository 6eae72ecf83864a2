use Rattle.lexicon.specs.Growths.{no_growth}
use Rattle.history.specs.Kits.{kit_of}
use Rattle.requests.specs.Requests.{call_of}
use Rattle.history.proofs.Onwards.{onward}
use Rattle.requests.proofs.performing.perform.Goals as goal

pub returns : goal.returns
returns g c = record {
  step = c.make.ensures;
  law = onward (kit_of g.S.Script g.L.ReadableList g.R.Record) no_growth _ _ (call_of c.args.request) c.make.result _ _ c.make.ensures;
}
