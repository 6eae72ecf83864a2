use Rattle.std.proofs.Common.{sym}
use Rattle.plain_list.proofs.Lists.{length_roll, bytes_roll}
use Rattle.plain_list.proofs.meanings.meaning.Goals as goal

pub returns-clause-counters : goal.returns-clause-counters
returns-clause-counters c = record { count = λ s. sym (length_roll s); used = λ s. sym (bytes_roll s) }
