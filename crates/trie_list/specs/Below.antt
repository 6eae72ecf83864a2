-- The words below a beginning.
use Rattle.std.specs.Prelude.{◌≡◌, ℕ, ◌<◌, true, cond, List, ◌++◌, length, Ok, Err, Result, ◌≢◌, nat_le, slice_index}
use Rattle.lexicon.specs.declared.ListFault.{ListFault}
use Rattle.lexicon.specs.declared.ListFault.TheVariants.{WordLength, OutputTooShort}
use Rattle.output.specs.Written.{fits, written}
use Rattle.lexicon.specs.Rolls.{numbered, word_of}
use Rattle.cells.specs.Cells.{path_of_labels}
use Rattle.members.specs.Lists.{In}
use Rattle.double_array.specs.Views.{cells_of}
use Rattle.subtrie.specs.Below.{numbers_from}
use Rattle.subtrie.specs.Order.{Before}
use Rattle.trie_list.specs.declared.list.TrieList.{TrieList}

-- the numbers below a beginning: those of the edges below the cell of its codes, in rising order of the codes
abbrev pub below_of : TrieList → List ℕ → List ℕ
below_of s beginning = numbers_from (cells_of s.array) (path_of_labels beginning)

-- what the call answers: how many there are; a beginning of more than 128 labels is refused, then a short output
abbrev pub below_answer : TrieList → List ℕ → List ℕ → Result ℕ ListFault
below_answer s beginning out =
    cond (nat_le (length beginning) 128)
    (cond (fits out 0 (below_of s beginning)) (Ok (length (below_of s beginning))) (Err OutputTooShort))
    (Err WordLength)

-- what the output holds then: the numbers from its start and the rest as it was, or all as it was
abbrev pub below_output : TrieList → List ℕ → List ℕ → List ℕ
below_output s beginning out =
    cond (nat_le (length beginning) 128)
    (cond (fits out 0 (below_of s beginning)) (written out 0 (below_of s beginning)) out) out

-- the numbers are those of the words of the roll that begin so, each once, in the order of their spellings
pub record WordsBelow (roll : List (List ℕ)) (beginning numbers : List ℕ) : Type 0 where
  -- each is the number of such a word
  pub begins : (u : ℕ) → In numbers u → (numbered roll u ≡ true)
      × ((rest : List ℕ) × (word_of roll u ≡ beginning ++ rest))
  -- and the number of each such word is there
  pub all : (u : ℕ) (rest : List ℕ) → numbered roll u ≡ true → word_of roll u ≡ beginning ++ rest → In numbers u
  -- the word of an earlier number comes before that of a later one
  pub rising : (i j : ℕ) → (i < j) × (j < length numbers)
      → Before (word_of roll (slice_index numbers i)) (word_of roll (slice_index numbers j))
  -- so no number comes twice
  pub once : (i j : ℕ) → (i < j) × (j < length numbers) → slice_index numbers i ≢ slice_index numbers j
