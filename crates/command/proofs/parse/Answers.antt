use Rattle.command.proofs.Readings.{reads_back}
use Rattle.command.proofs.parse.Goals as goal

pub returns-then-line-gt-LINE_BYTES-clause-numbers : goal.returns-then-line-gt-LINE_BYTES-clause-numbers
returns-then-line-gt-LINE_BYTES-clause-numbers c = reads_back

pub returns-in_default-clause-numbers : goal.returns-in_default-clause-numbers
returns-in_default-clause-numbers c = reads_back

pub returns-clause-numbers : goal.returns-clause-numbers
returns-clause-numbers c = reads_back
