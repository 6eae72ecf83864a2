-- Worked examples of words: what entering them into a trie list comes to, and a spelling, by what list and script mean.
use Rattle.std.specs.Prelude.{◌≡◌, ℕ, List, [], ◌∷◌, length, replicate, pos, negsuc, Some, None, Ok, Err, Option, Result}
use Rattle.refusal.specs.Reports.{report_of, list_refusal}
use Rattle.lexicon.specs.declared.ListFault.{ListFault}
use Rattle.refusal.specs.declared.Layer.TheVariants.{List as WordList}
use Rattle.refusal.specs.declared.Side.TheVariants.{Neither}
use Rattle.refusal.specs.declared.Report.{Report}
use Rattle.script.specs.contracts.alphabets.MorphemeSignScript.TheImpl.{ghosts as signs}
use Rattle.script.specs.declared.alphabets.MorphemeClass.TheVariants.{Noun}
use Rattle.lexicon.specs.Answers.{enter_answer, is_new, EnterLeaves}
use Rattle.cells.specs.declared.Cell.{Cell}
use Rattle.cells.specs.Cells.{free_cell}
use Rattle.cells.specs.Examples.{with_cells}
use Rattle.double_array.specs.Views.{cells_of, index_of}
use Rattle.trie_list.specs.contracts.calls.TrieListReadableList.TheImpl.{ghosts as readable}
use Rattle.trie_list.specs.contracts.calls.TrieListGrowingList.TheImpl.{ghosts as growing}
use Rattle.trie_list.specs.Trie.{IsNewTrieList as NewList}
use Rattle.trie_list.specs.declared.list.TrieList.{TrieList}

-- the words a, b and ab, in labels
abbrev pub a_word : List ℕ
a_word = 97 ∷ []

abbrev pub b_word : List ℕ
b_word = 98 ∷ []

abbrev pub ab_word : List ℕ
ab_word = 97 ∷ 98 ∷ []

-- what a trie list holds: its cells, its index and how many words it has
pub record TrieParts : Type 0 where
  pub cells : List Cell
  pub index : List ℕ
  pub count : ℕ

abbrev pub held_by : TrieList → TrieParts
held_by s = record { cells = cells_of s.array; index = index_of s.array; count = length (readable.roll s) }

-- entering the word into the list s was answered r and left the list t
pub record EntersWord (s : TrieList) (word : List ℕ) (r : Result ℕ ListFault) (t : TrieList) : Type 0 where
  pub answer : r ≡ enter_answer (readable.roll s) (growing.room s word) word
  pub after : EnterLeaves readable.roll growing.enters s word t (is_new (readable.roll s) (growing.room s word) word)

-- a, b and ab were entered in turn into a new list of n cells and three index entries
pub record ThreeWords (n : ℕ) : Type 0 where
  pub fresh : TrieList
  pub with_a : TrieList
  pub with_b : TrieList
  pub with_ab : TrieList
  pub a_answer : Result ℕ ListFault
  pub b_answer : Result ℕ ListFault
  pub ab_answer : Result ℕ ListFault
  pub made : NewList n 3 fresh
  pub a_entered : EntersWord fresh a_word a_answer with_a
  pub b_entered : EntersWord with_a b_word b_answer with_b
  pub ab_entered : EntersWord with_b ab_word ab_answer with_ab

-- how a refused answer of a list is reported, none where it is not refused
abbrev pub list_reported : Result ℕ ListFault → Option Report
list_reported (Ok number) = None
list_reported (Err fault) = Some (report_of (list_refusal fault Neither))

-- the report that a list has no room
abbrev pub no_room : Report
no_room = record { number = 5; layer = WordList; side = Neither }

-- what comes of them
pub record WordExamples : Type 0 where
  -- in a list of 104 cells a, b and ab get the numbers 1, 2 and 3; the leaf of a moves from 2 to 4, and its index entry
  -- follows
  pub three_words : (run : ThreeWords 104) → (run.a_answer ≡ Ok 1) × (run.b_answer ≡ Ok 2) × (run.ab_answer ≡ Ok 3)
      × (held_by run.with_ab ≡ record {
        cells = with_cells (replicate 104 free_cell) (
            record { place = 1; base = pos 1; check = 1 } ∷ record { place = 2; base = negsuc 2; check = 103 }
            ∷ record { place = 3; base = negsuc 1; check = 101 }
            ∷ record { place = 4; base = negsuc 0; check = 100 } ∷ record { place = 100; base = pos 3; check = 1 }
            ∷ record { place = 101; base = pos 2; check = 1 }
            ∷ record { place = 103; base = pos 1; check = 100 } ∷ []);
        index = 4 ∷ 3 ∷ 2 ∷ [];
        count = 3;
      })
  -- in a list of 103 cells ab has no place and is refused: number 5, layer word list, side neither; the list is what a
  -- and b left
  pub two_words : (run : ThreeWords 103) → (run.a_answer ≡ Ok 1) × (run.b_answer ≡ Ok 2)
      × (list_reported run.ab_answer ≡ Some no_room) × (run.with_ab ≡ run.with_b) × (held_by run.with_ab ≡ record {
        cells = with_cells (replicate 103 free_cell) (
            record { place = 1; base = pos 1; check = 1 } ∷ record { place = 2; base = negsuc 0; check = 100 }
            ∷ record { place = 3; base = negsuc 1; check = 101 }
            ∷ record { place = 100; base = pos 1; check = 1 } ∷ record { place = 101; base = pos 2; check = 1 } ∷ []);
        index = 2 ∷ 3 ∷ 0 ∷ [];
        count = 2;
      })
  -- the noun with the form 258 is spelled 5, 1, 2
  pub noun : signs.spelling (record { class = Noun; form = 258 }) ≡ 5 ∷ 1 ∷ 2 ∷ []
