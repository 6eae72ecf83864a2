use Rattle.std.proofs.Common.{sym}
use Rattle.plain_list.proofs.Lists.{length_roll, roll_lawful}
use Rattle.plain_list.proofs.calls.PlainListReadableList.count.Goals as goal

pub returns : goal.returns
returns c = record { count = sym (length_roll c.args.self.now); lawful = roll_lawful c.args.self.now }
