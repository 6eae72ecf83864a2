-- What a trie list means, and what its arrays hold.
use Rattle.std.specs.Prelude.{◌≡◌, ℕ, ◌+◌, ◌<◌, min, Bool, true, false, ◌&&◌, List, [], ◌∷◌, ◌++◌, length, is_some, Some, Ok, Err, Result, nat_lt, slice_index}
use Rattle.lexicon.specs.declared.ListFault.{ListFault}
use Rattle.lexicon.specs.declared.ListFault.TheVariants.{NoRoom}
use Rattle.lexicon.specs.Rolls.{number_of, numbered, word_of}
use Rattle.cells.specs.Cells.{at}
use Rattle.cells.specs.Laws.{cleared}
use Rattle.cells.specs.Placing.{enter}
use Rattle.cells.specs.Walking.{number_at}
use Rattle.double_array.specs.Views.{cells_of, index_of}
use Rattle.trie_list.specs.Paths.{path_of_word}
use Rattle.trie_list.specs.Rolls.{words_of}
use Rattle.trie_list.specs.declared.list.TrieList.{TrieList}

-- the words: those of the numbers that are counted, read upward from their leaves
abbrev pub roll_of : TrieList → List (List ℕ)
roll_of s = words_of (cells_of s.array) (index_of s.array) s.count

-- walking the cells finds each word of the roll with its number, and nothing else
pub record Walked (s : TrieList) : Type 0 where
  -- the path of a word has the number that the roll gives the word, and none where the roll lacks it
  pub words : (word : List ℕ) → number_at (cells_of s.array) (path_of_word word) ≡ number_of (roll_of s) word
  -- a path that has a number is the path of that number's word
  pub only : (p : List ℕ) (number : ℕ) → number_at (cells_of s.array) p ≡ Some number
      → (numbered (roll_of s) number ≡ true) × (p ≡ path_of_word (word_of (roll_of s) number))

-- room for a word: there are fewer words than index places, and the placing rule finds every place of its path
abbrev pub room_of : TrieList → List ℕ → Bool
room_of s word =
    nat_lt (length (roll_of s)) (length (index_of s.array))
    && is_some (enter (cells_of s.array) (index_of s.array) (path_of_word word) (length (roll_of s)))

-- a list newly made of n cells and k index entries: every cell free but the root, every entry 0, and no word
pub record IsNewTrieList (n k : ℕ) (s : TrieList) : Type 0 where
  pub cells_long : length (cells_of s.array) ≡ min n 1048576
  pub cells_clear : (j : ℕ) → j < length (cells_of s.array) → at (cells_of s.array) j ≡ cleared j
  pub index_long : length (index_of s.array) ≡ min k 65535
  pub index_zero : (n : ℕ) → slice_index (index_of s.array) n ≡ 0
  pub no_words : roll_of s ≡ []

-- the cells and the index of the list t are what the placing rule leaves of those of s when the path of the word is
-- entered with the next number
pub record ArraysEntered (s : TrieList) (word : List ℕ) (t : TrieList) : Type 0 where
  pub arrays_after : enter (cells_of s.array) (index_of s.array) (path_of_word word) (length (roll_of s))
      ≡ Some (record { cells = cells_of t.array; index = index_of t.array })

-- the roll of t ends with the new word if s had room for it, and else t is s and the fault is want of room
abbrev pub Appends : TrieList → List ℕ → Result ℕ ListFault → TrieList → Type 0
Appends s word (Ok number) t =
    (room_of s word ≡ true) × (number ≡ length (roll_of s) + 1) × ArraysEntered s word t
    × (roll_of t ≡ roll_of s ++ word ∷ [])
Appends s word (Err fault) t = (room_of s word ≡ false) × (fault ≡ NoRoom) × (t ≡ s)
