use Rattle.history.specs.Kits.{kit_of}
use Rattle.worked_examples.proofs.Examples.{examples}
use Rattle.worked_examples.proofs.Tables.{triple_examples}
use Rattle.worked_examples.proofs.worked_examples.Goals as goal

pub returns-clause-words : goal.returns-clause-words
returns-clause-words g c = examples

pub returns-clause-triples : goal.returns-clause-triples
returns-clause-triples g c = triple_examples (kit_of g.S.Script g.L.ReadableList g.R.Record)
