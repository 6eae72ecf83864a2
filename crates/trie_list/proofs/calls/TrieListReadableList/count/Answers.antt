use Rattle.std.proofs.Common.{sym}
use Rattle.trie_list.proofs.Lists.{length_roll, roll_lawful}
use Rattle.trie_list.proofs.calls.TrieListReadableList.count.Goals as goal

pub returns : goal.returns
returns c = record { count = sym (length_roll c.args.self.now); lawful = roll_lawful c.args.self.now }
