use Rattle.std.proofs.Common.{◌≡◌, ℕ, List, Option, ap, ◌∙◌, rules}
use Rattle.cells.specs.Walking.{number_at}
use Rattle.double_array.specs.Views.{cells_of, index_of}
use Rattle.lexicon.specs.Rolls.{number_of}
use Rattle.trie_list.specs.declared.list.TrieList.{TrieList}
use Rattle.trie_list.specs.Paths.{path_of_word}
use Rattle.trie_list.specs.Trie.{roll_of}
use Rattle.trie_list.proofs.RollsLemmas.{number_is}
use Rattle.trie_list.proofs.Lists.{listed}
use Rattle.trie_list.proofs.list.TrieList.number_of.Goals as goal

-- what the double array answers of the word's path is the number of the word
found : (s : TrieList) (w path : List ℕ) (o : Option ℕ) → o ≡ number_at (cells_of s.array) path → path ≡ path_of_word w → o ≡ number_of (roll_of s) w
found s w path o e same = e ∙ ap (number_at (cells_of s.array)) same ∙ number_is (cells_of s.array) (index_of s.array) s.count (listed s) w

pub returns : goal.returns
returns c =
    let s = c.args.self.now in
    let w = c.args.word.now in
    let same = found s w _ _ c.number_at.ensures.number (c.as_slice.ensures.value ∙ c.path_of_word-path.ensures) in
    search rules
