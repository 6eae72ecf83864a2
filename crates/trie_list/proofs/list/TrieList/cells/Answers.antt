use Rattle.trie_list.proofs.Lists.{walked}
use Rattle.trie_list.proofs.list.TrieList.cells.Goals as goal

pub returns : goal.returns
returns c = record { cells = c.cells.ensures; walked = walked c.args.self.now }
