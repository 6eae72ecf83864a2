-- Entering a word, by what the list holds.
use Rattle.std.proofs.Common.{◌≡◌, ℕ, ◌+◌, min, Bool, true, false, ◌&&◌, ltb, List, length, replicate, is_some, Some, Ok, Err, Result, sym, ap, ◌∙◌, subst}
use Rattle.std.proofs.lemmas.List.{length_push}
use Rattle.lexicon.specs.declared.ListFault.{ListFault}
use Rattle.lexicon.specs.declared.ListFault.TheVariants.{NoRoom}
use Rattle.lexicon.specs.Answers.{enter_answer, is_new, EnterLeaves}
use Rattle.cells.specs.Placing.{Arrays, enter}
use Rattle.cells.specs.Examples.{new_arrays}
use Rattle.cells.proofs.Basics.{some_same}
use Rattle.double_array.specs.Views.{cells_of, index_of}
use Rattle.trie_list.specs.Paths.{path_of_word}
use Rattle.trie_list.specs.Rolls.{words_of}
use Rattle.trie_list.specs.Trie.{roll_of, room_of, ArraysEntered, IsNewTrieList}
use Rattle.trie_list.specs.declared.list.TrieList.{TrieList}
use Rattle.trie_list.proofs.Lists.{length_roll}
use Rattle.worked_examples.specs.Examples.{TrieParts, held_by, EntersWord}
use Rattle.worked_examples.proofs.Starts.{new_cells, new_index}

-- the words of a list, by what it holds
abbrev pub roll_at : TrieParts → List (List ℕ)
roll_at v = words_of v.cells v.index v.count

-- whether it has room for a word
abbrev pub room_at : TrieParts → List ℕ → Bool
room_at v word = ltb v.count (length v.index) && is_some (enter v.cells v.index (path_of_word word) v.count)

-- what entering a word into it answers
abbrev pub answer_at : TrieParts → List ℕ → Result ℕ ListFault
answer_at v word = enter_answer (roll_at v) (room_at v word) word

-- whether the word becomes its last
abbrev pub new_at : TrieParts → List ℕ → Bool
new_at v word = is_new (roll_at v) (room_at v word) word

-- a new list of n cells
abbrev pub new_held : ℕ → TrieParts
new_held n = record { cells = (new_arrays n 3).cells; index = replicate 3 0; count = 0 }

pub starts : (n : ℕ) (s : TrieList) → min n 1048576 ≡ n → IsNewTrieList n 3 s → held_by s ≡ new_held n
starts n s small m =
    let cells = new_cells n (cells_of s.array) (m.cells_long ∙ small) m.cells_clear in
    let index = new_index 3 (index_of s.array) m.index_long m.index_zero in
    λ k. record { cells = cells k; index = index k; count = ap length m.no_words k }

module _ (s t : TrieList) (word : List ℕ) (r : Result ℕ ListFault) (h : EntersWord s word r t) (v : TrieParts) (e : held_by s ≡ v) where
  rolls : roll_of s ≡ roll_at v
  rolls = ap (words_of (cells_of s.array) (index_of s.array)) (sym (length_roll s)) ∙ ap roll_at e

  rooms : room_of s word ≡ room_at v word
  rooms = ap (λ (w : TrieParts). room_at w word) e

  answers : enter_answer (roll_of s) (room_of s word) word ≡ answer_at v word
  answers = ap (λ (ws : List (List ℕ)). enter_answer ws (room_of s word) word) rolls ∙ ap (λ (b : Bool). enter_answer (roll_at v) b word) rooms

  news : is_new (roll_of s) (room_of s word) word ≡ new_at v word
  news = ap (λ (ws : List (List ℕ)). is_new ws (room_of s word) word) rolls ∙ ap (λ (b : Bool). is_new (roll_at v) b word) rooms

  -- a new word with room is the last
  pub entered : (n : ℕ) (xs : Arrays) → answer_at v word ≡ Ok n → new_at v word ≡ true → enter v.cells v.index (path_of_word word) v.count ≡ Some xs
      → (r ≡ Ok n) × (held_by t ≡ record { cells = xs.cells; index = xs.index; count = v.count + 1 })
  entered n xs ok new step =
      let left = subst (EnterLeaves roll_of ArraysEntered s word t) (news ∙ new) h.after in
      let after : Arrays = record { cells = cells_of t.array; index = index_of t.array } in
      let same : after ≡ xs = some_same after xs (sym left.0.arrays_after ∙ ap (λ (w : TrieParts). enter w.cells w.index (path_of_word word) w.count) e ∙ step) in
      let count = ap length left.1 ∙ length_push (roll_of s) word ∙ ap (λ (w : TrieParts). w.count + 1) e in
      (h.answer ∙ answers ∙ ok, λ k. record { cells = (same k).cells; index = (same k).index; count = count k })

  -- without room it is refused
  pub refused : answer_at v word ≡ Err NoRoom → new_at v word ≡ false → (r ≡ Err NoRoom) × (t ≡ s)
  refused err old = (
    h.answer ∙ answers ∙ err,
    subst (EnterLeaves roll_of ArraysEntered s word t) (news ∙ old) h.after,
  )
