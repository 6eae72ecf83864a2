use Rattle.cells.proofs.Examples.{examples}
use Rattle.cells.proofs.worked_examples.Goals as goal

pub returns : goal.returns
returns c = examples
