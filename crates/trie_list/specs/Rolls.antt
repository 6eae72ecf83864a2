-- The roll of a trie list, read from its cells and its index.
use Rattle.std.specs.Prelude.{◌≡◌, ℕ, ◌<◌, ◌≤◌, true, List, map, slice_index}
use Rattle.std.specs.List.{range_with_len}
use Rattle.cells.specs.declared.Cell.{Cell}
use Rattle.cells.specs.Cells.{at, entry, is_leaf}
use Rattle.cells.specs.Walking.{path_to}
use Rattle.trie_list.specs.Paths.{labels_on, word_path}

-- the path to the leaf of the number n + 1
abbrev pub path_at : List Cell → List ℕ → ℕ → List ℕ
path_at cs is n = path_to cs (slice_index is n)

-- the word of the number n + 1: the labels on the way up from its leaf
abbrev pub word_at : List Cell → List ℕ → ℕ → List ℕ
word_at cs is n = labels_on (path_at cs is n)

-- the words of so many numbers
abbrev pub words_of : List Cell → List ℕ → ℕ → List (List ℕ)
words_of cs is count = map (word_at cs is) (range_with_len 0 count)

-- each number that is counted has a leaf
abbrev pub HaveLeaves : List ℕ → ℕ → Type 0
HaveLeaves is count = (n : ℕ) → n < count → 0 < slice_index is n

-- no other number has one
abbrev pub HaveNoLeaves : List ℕ → ℕ → Type 0
HaveNoLeaves is count = (n : ℕ) → count ≤ n → slice_index is n ≡ 0

-- the number of each leaf is counted
abbrev pub NumbersWithin : List Cell → ℕ → Type 0
NumbersWithin cs count = (t : ℕ) → is_leaf cs t ≡ true → entry (at cs t).base < count

-- the path to each leaf is that of a word
abbrev pub Worded : List Cell → List ℕ → ℕ → Type 0
Worded cs is count = (n : ℕ) → n < count → word_path (path_at cs is n) ≡ true
