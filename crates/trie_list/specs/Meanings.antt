-- What the trie list means, as docs/WORD_LISTS.md has it: its roll, for which words it has room, and what
-- an entry leaves.
use Rattle.std.specs.Prelude.{◌≡◌, ℕ, List, length, ◌↔◌}
use Rattle.lexicon.specs.Rolls.{Lawful}
use Rattle.trie_list.specs.Trie.{roll_of, room_of, ArraysEntered}
use Rattle.trie_list.specs.contracts.calls.TrieListReadableList.TheImpl.{ghosts as readable}
use Rattle.trie_list.specs.contracts.calls.TrieListGrowingList.TheImpl.{ghosts as growing}
use Rattle.trie_list.specs.declared.list.TrieList.{TrieList}

-- the members of the list interfaces
pub record MeaningOfTrieList : Type 0 where
  -- the roll is read upward from the leaves of the numbers
  pub roll : (s : TrieList) → readable.roll s ≡ roll_of s
  -- which is lawful
  pub lawful : (s : TrieList) → Lawful (roll_of s)
  -- a word has room if the index has an entry to spare and each code of the word's path gets a cell
  pub room : (s : TrieList) (word : List ℕ) → growing.room s word ≡ room_of s word
  -- after an entry cells and index are what the placing rule leaves
  pub enters : (s t : TrieList) (word : List ℕ) → growing.enters s word t ↔ ArraysEntered s word t

-- the list counts the words of its roll
abbrev pub CounterOfTrieList : Type 0
CounterOfTrieList = (s : TrieList) → s.count ≡ length (roll_of s)
