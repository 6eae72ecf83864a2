use Rattle.lines.proofs.Answers.{by_command}
use Rattle.lines.proofs.answering.answer.Goals as goal

pub returns-in-Add : goal.returns-in-Add
returns-in-Add c = by_command _ c.args.command _ _ _ c.in-Add.is c.done.ensures

pub returns-in-Tie : goal.returns-in-Tie
returns-in-Tie c = by_command _ c.args.command _ _ _ c.in-Tie.is c.done-in-Tie.ensures

pub returns-in-Delete : goal.returns-in-Delete
returns-in-Delete c = by_command _ c.args.command _ _ _ c.in-Delete.is c.done-in-Delete.ensures
