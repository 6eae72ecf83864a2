use Rattle.std.proofs.Common.{sym}
use Rattle.trie_list.proofs.Lists.{length_roll}
use Rattle.trie_list.proofs.meanings.meaning.Goals as goal

pub returns-clause-counter : goal.returns-clause-counter
returns-clause-counter c s = sym (length_roll s)
