-- What the fields of a trie list say of its roll.
use Rattle.std.specs.Prelude.{◌≡◌, ℕ, zero, suc, ◌+◌, ◌-◌, ◌<◌, ◌≤◌, true, false, cond, ◌&&◌, List, [], length, get_or, is_some, Some, None, Ok, Err, Option, Result, ◌==◌, nat_le, nat_lt, slice_index, slice_index_or, refl}
use Rattle.std.proofs.Common.{sym, ap, subst, ◌∙◌, arith}
use mathlib.Core.HLevel.{is_prop→PathP}
use Rattle.std.proofs.Math.Bridge.{le_prop}
use denote.Struct.Props.{props}
use Rattle.std.proofs.lemmas.Bool.{and_from, and_parts, and_left, and_right, both_ways, le-leb, lt-ltb, le-ltb, eq-eqb, cond-true, cond-false}
use Rattle.lexicon.specs.declared.ListFault.{ListFault}
use Rattle.lexicon.specs.declared.ListFault.TheVariants.{NoRoom}
use Rattle.double_array.specs.declared.faults.PathFault.{PathFault}
use Rattle.double_array.specs.declared.faults.PathFault.TheVariants.{NoPlace}
use Rattle.double_array.specs.declared.faults.NumberFault.TheVariants.{Unknown, Short}
use Rattle.lexicon.specs.Rolls.{label_sized, number_of, numbered, word_of, Lawful}
use Rattle.lexicon.specs.Answers.{enter_answer, EnterLeaves}
use Rattle.lexicon.specs.Answers.{is_new as is_new_word}
use Rattle.lexicon.proofs.Entries.{new_answer, new_is, leaves_new, full_answer, full_is, leaves_same}
use Rattle.lexicon.proofs.Numbers.{label_bounds, numbered_bounds}
use Rattle.cells.specs.Cells.{all_codes}
use Rattle.cells.specs.Placing.{Arrays, enter}
use Rattle.cells.specs.Walking.{number_at}
use Rattle.cells.proofs.Basics.{no_some, some_same}
use Rattle.cells.proofs.Climbs.{number_held, held_number, number_positive, reach_codes}
use Rattle.double_array.specs.Entries.{is_path, is_open, is_unblocked, place_fault, refusal}
use Rattle.double_array.specs.Spellings.{is_known, unwritten}
use Rattle.double_array.specs.Views.{cells_of, index_of}
use Rattle.double_array.proofs.Blocks.{Kind, unblocked}
use Rattle.double_array.proofs.Refusals.{judged_by}
use Rattle.trie_list.specs.Paths.{path_of_word, labels_on, ends_once, word_path}
use Rattle.trie_list.specs.Rolls.{path_at, HaveLeaves, HaveNoLeaves, NumbersWithin, Worded}
use Rattle.trie_list.specs.Trie.{roll_of, room_of, Walked, ArraysEntered, Appends}
use Rattle.trie_list.specs.declared.list.TrieList.{TrieList}
use Rattle.trie_list.proofs.PathsLemmas.{length_path, word_path_size, path_codes, ends_path, ends_alone}
use Rattle.trie_list.proofs.RollsLemmas.{HoldsWords, path_number, number_path, path_word, length_words, get_d_words, words_lawful, number_is}

pub listed : (s : TrieList) → HoldsWords (cells_of s.array) (index_of s.array) s.count
listed s = record {
  sound = s.array.sound;
  within = s.within;
  few = omega (arith, s.within, s.few);
  numbered = s.numbered;
  unnumbered = s.unnumbered;
  counted = s.counted;
  worded = s.worded;
}

pub length_roll : (s : TrieList) → length (roll_of s) ≡ s.count
length_roll s = length_words (cells_of s.array) (index_of s.array) s.count (listed s)

pub roll_lawful : (s : TrieList) → Lawful (roll_of s)
roll_lawful s = words_lawful (cells_of s.array) (index_of s.array) s.count (listed s)

-- walking finds the roll
pub walked : (s : TrieList) → Walked s
walked s = record {
  words = number_is (cells_of s.array) (index_of s.array) s.count (listed s);
  only = by;
}
  where
    by : (p : List ℕ) (u : ℕ) → number_at (cells_of s.array) p ≡ Some u → (numbered (roll_of s) u ≡ true) × (p ≡ path_of_word (word_of (roll_of s) u))
    by p zero e = absurd (number_positive (cells_of s.array) p e)
    by p (suc n) e =
        let cs = cells_of s.array in
        let is = index_of s.array in
        let found = number_path cs is s.count (listed s) p n e in
        let here : suc n - 1 ≡ n = omega arith in (
          and_from (nat_le 1 (suc n)) (nat_le (suc n) (length (roll_of s))) (le-leb 1 (suc n) (omega arith)) (le-leb (suc n) (length (roll_of s)) (omega (arith, found.0, length_roll s))),
          sym found.1 ∙ sym (path_word cs is s.count (listed s) n found.0) ∙ ap path_of_word (sym (get_d_words cs is s.count (listed s) n found.0)) ∙ ap (λ (k : ℕ). path_of_word (slice_index_or (roll_of s) k [])) (sym here),
        )

-- two lists with the same array and the same count
pub same_list : (s t : TrieList) → s.array ≡ t.array → s.count ≡ t.count → s ≡ t
same_list s t p q = λ j. record {
  array = p j;
  count = q j;
  within = is_prop→PathP (λ k. q k ≤ length (index_of (p k))) (λ k. le_prop) s.within t.within j;
  few = is_prop→PathP (λ k. length (index_of (p k)) ≤ 65535) (λ k. le_prop) s.few t.few j;
  numbered = is_prop→PathP (λ k. HaveLeaves (index_of (p k)) (q k)) (λ k. hlevel props) s.numbered t.numbered j;
  unnumbered = is_prop→PathP (λ k. HaveNoLeaves (index_of (p k)) (q k)) (λ k. hlevel props) s.unnumbered t.unnumbered j;
  counted = is_prop→PathP (λ k. NumbersWithin (cells_of (p k)) (q k)) (λ k. hlevel props) s.counted t.counted j;
  worded = is_prop→PathP (λ k. Worded (cells_of (p k)) (index_of (p k)) (q k)) (λ k. hlevel props) s.worded t.worded j;
}

-- the path of a number that is counted can be written into 129 places
module _ (s : TrieList) (u : ℕ) (some : numbered (roll_of s) u ≡ true) where
  low : u - 1 < s.count
  low = let b = numbered_bounds (roll_of s) u some in omega (arith, b.0, b.1, length_roll s)

  pub path_words : word_path (path_at (cells_of s.array) (index_of s.array) (u - 1)) ≡ true
  path_words = s.worded (u - 1) low

  pub path_all_codes : all_codes (path_at (cells_of s.array) (index_of s.array) (u - 1)) ≡ true
  path_all_codes =
      let cs = cells_of s.array in
      let p = path_at cs (index_of s.array) (u - 1) in
      let held = number_held cs p (u - 1) (path_number cs (index_of s.array) s.count (listed s) (u - 1) low) in
      reach_codes cs p [] held.0 held.1

  pub path_known : unwritten (cells_of s.array) (index_of s.array) u 129 ≡ None
  path_known =
      let cs = cells_of s.array in
      let is = index_of s.array in
      let b = numbered_bounds (roll_of s) u some in
      let known : is_known is u ≡ true = and_from (nat_lt 0 u) (nat_lt 0 (slice_index is (u - 1))) (lt-ltb 0 u (omega (arith, b.0))) (lt-ltb 0 (slice_index is (u - 1)) (s.numbered (u - 1) low)) in
      let size = (word_path_size (path_at cs is (u - 1)) path_words).1 in
      cond-true (is_known is u) (cond (nat_lt 129 (length (path_at cs is (u - 1)))) (Some Short) None) (Some Unknown) known
      ∙ cond-false (nat_lt 129 (length (path_at cs is (u - 1)))) (Some Short) None (le-ltb 129 (length (path_at cs is (u - 1))) size)

  pub word_labels : labels_on (path_at (cells_of s.array) (index_of s.array) (u - 1)) ≡ word_of (roll_of s) u
  word_labels = sym (get_d_words (cells_of s.array) (index_of s.array) s.count (listed s) (u - 1) low)

-- whether there is room, by how many words are counted
pub room_is : (s : TrieList) (w : List ℕ)
    → room_of s w ≡ (nat_lt s.count (length (index_of s.array)) && is_some (enter (cells_of s.array) (index_of s.array) (path_of_word w) s.count))
room_is s w =
    ap (λ (n : ℕ). nat_lt n (length (index_of s.array)) && is_some (enter (cells_of s.array) (index_of s.array) (path_of_word w) n)) (length_roll s)

-- there is none where each index place has its word
pub room_full : (s : TrieList) (w : List ℕ) → length (index_of s.array) ≤ s.count → room_of s w ≡ false
room_full s w full =
    room_is s w
    ∙ and_left (nat_lt s.count (length (index_of s.array))) (is_some (enter (cells_of s.array) (index_of s.array) (path_of_word w) s.count))
    (le-ltb s.count (length (index_of s.array)) full)

-- what the placing rule leaves, by how many words are counted
pub placed : (s : TrieList) (w : List ℕ) (t : TrieList)
    → enter (cells_of s.array) (index_of s.array) (path_of_word w) s.count ≡ Some (record { cells = cells_of t.array; index = index_of t.array }) → ArraysEntered s w t
placed s w t did = record { arrays_after = ap (enter (cells_of s.array) (index_of s.array) (path_of_word w)) (length_roll s) ∙ did }

-- a path that ends with the end sign and nowhere else has it
abbrev EndsOnce : List ℕ → Type 0
EndsOnce p = ends_once p ≡ true

-- all held paths are such, and none goes on after another
ending : (s : TrieList) → Kind (cells_of s.array) EndsOnce
ending s = record {
  some = both_ways false refl;
  alone = ends_alone;
  held = λ p n held.
      let cs = cells_of s.array in
      let is = index_of s.array in
      let found = number_path cs is s.count (listed s) p n (held_number cs p n held) in
      ap ends_once (sym found.1) ∙ (and_parts (ends_once (path_at cs is n)) (label_sized (labels_on (path_at cs is n))) ((listed s).worded n found.0)).0;
}

-- a new word's path with the next number is refused only for want of a place
module _ (s : TrieList) (w : List ℕ) (sized : label_sized w ≡ true) (absent : number_of (roll_of s) w ≡ None) (bytes : (k : ℕ) → slice_index w k < 256)
    (left : s.count < length (index_of s.array)) where
  none_held : number_at (cells_of s.array) (path_of_word w) ≡ None
  none_held = number_is (cells_of s.array) (index_of s.array) s.count (listed s) w ∙ absent

  fine_path : is_path (path_of_word w) ≡ true
  fine_path =
      let size = label_bounds w sized in
      and_from (nat_lt 0 (length (path_of_word w)) && nat_lt (length (path_of_word w)) 130) (all_codes (path_of_word w))
      (and_from (nat_lt 0 (length (path_of_word w))) (nat_lt (length (path_of_word w)) 130) (lt-ltb 0 (length (path_of_word w)) (omega (arith, length_path w))) (lt-ltb (length (path_of_word w)) 130 (omega (arith, length_path w, size.1))))
      (path_codes w bytes)

  next : s.count + 1 - 1 ≡ s.count
  next = omega arith

  open_number : is_open (index_of s.array) (s.count + 1) ≡ true
  open_number =
      let none : get_or (index_of s.array) (s.count + 1 - 1) 0 ≡ 0 = s.unnumbered (s.count + 1 - 1) (omega arith) in
      and_from (nat_lt 0 (s.count + 1) && nat_lt (s.count + 1) 2147483648) (slice_index (index_of s.array) (s.count + 1 - 1) == 0)
      (and_from (nat_lt 0 (s.count + 1)) (nat_lt (s.count + 1) 2147483648) (lt-ltb 0 (s.count + 1) (omega arith)) (lt-ltb (s.count + 1) 2147483648 (omega (arith, left, s.few))))
      (eq-eqb (slice_index (index_of s.array) (s.count + 1 - 1)) 0 none)

  new_path : is_unblocked (cells_of s.array) (path_of_word w) ≡ true
  new_path = unblocked (cells_of s.array) (index_of s.array) (listed s).sound EndsOnce (ending s) (path_of_word w) (path_codes w bytes) (ends_path w) none_held

  pub judged : refusal (cells_of s.array) (index_of s.array) (path_of_word w) (s.count + 1) ≡ place_fault (enter (cells_of s.array) (index_of s.array) (path_of_word w) s.count)
  judged =
      judged_by (cells_of s.array) (index_of s.array) (path_of_word w) (s.count + 1) fine_path open_number new_path
      (enter (cells_of s.array) (index_of s.array) (path_of_word w) s.count) (ap (enter (cells_of s.array) (index_of s.array) (path_of_word w)) next)

  -- the word has room where its path is entered, and none where there is no place
  pub room_yes : (xs : Arrays) → enter (cells_of s.array) (index_of s.array) (path_of_word w) s.count ≡ Some xs → room_of s w ≡ true
  room_yes xs did =
      room_is s w
      ∙ and_from (nat_lt s.count (length (index_of s.array))) (is_some (enter (cells_of s.array) (index_of s.array) (path_of_word w) s.count))
      (lt-ltb s.count (length (index_of s.array)) left) (ap is_some did)

  pub room_no : enter (cells_of s.array) (index_of s.array) (path_of_word w) s.count ≡ None → room_of s w ≡ false
  room_no none =
      room_is s w
      ∙ and_right (nat_lt s.count (length (index_of s.array))) (is_some (enter (cells_of s.array) (index_of s.array) (path_of_word w) s.count)) (ap is_some none)

  -- what the refusal of the path says
  pub refused_place : (e : PathFault) → refusal (cells_of s.array) (index_of s.array) (path_of_word w) (s.count + 1) ≡ Some e → (e ≡ NoPlace) × (room_of s w ≡ false)
  refused_place e said = by (enter (cells_of s.array) (index_of s.array) (path_of_word w) s.count) refl
    where
      by : (o : Option Arrays) → enter (cells_of s.array) (index_of s.array) (path_of_word w) s.count ≡ o → (e ≡ NoPlace) × (room_of s w ≡ false)
      by None none = (some_same e NoPlace (sym said ∙ judged ∙ ap place_fault none), room_no none)
      by (Some xs) did = absurd (no_some e (sym (judged ∙ ap place_fault did) ∙ said))

  -- an entry of the slice that was written, with the next number, is one of the word's path
  pub entered_as : (slice : List ℕ) (xs : Arrays) → slice ≡ path_of_word w → enter (cells_of s.array) (index_of s.array) slice (s.count + 1 - 1) ≡ Some xs
      → enter (cells_of s.array) (index_of s.array) (path_of_word w) s.count ≡ Some xs
  entered_as slice xs same did =
      ap (λ (n : ℕ). enter (cells_of s.array) (index_of s.array) (path_of_word w) n) (sym next)
      ∙ ap (λ (p : List ℕ). enter (cells_of s.array) (index_of s.array) p (s.count + 1 - 1)) (sym same) ∙ did

-- a new word that is refused for want of a place
pub append_refused : (s : TrieList) (w : List ℕ) (r : Result ℕ ListFault) (t : TrieList) (e : ListFault) → r ≡ Err e → e ≡ NoRoom → room_of s w ≡ false → t.array ≡ s.array → t.count ≡ s.count → Appends s w r t
append_refused s w r t e said fault room array count = subst (λ (z : Result ℕ ListFault). Appends s w z t) (sym said) (room, fault, same_list t s array count)

-- what entering a new word says, from what appending it said
pub record AppendTold (s : TrieList) (w : List ℕ) (r : Result ℕ ListFault) (t : TrieList) : Type 0 where
  pub answer : r ≡ enter_answer (roll_of s) (room_of s w) w
  pub after : EnterLeaves roll_of ArraysEntered s w t (is_new_word (roll_of s) (room_of s w) w)

pub told : (s : TrieList) (w : List ℕ) (r : Result ℕ ListFault) (t : TrieList) → label_sized w ≡ true → number_of (roll_of s) w ≡ None → Appends s w r t → AppendTold s w r t
told s w (Ok n) t sized absent (room, number, placed, grown) = record {
  answer = ap (λ (k : ℕ). Ok k) number ∙ sym (new_answer (roll_of s) (room_of s w) w sized absent room);
  after = leaves_new roll_of ArraysEntered s w t (is_new_word (roll_of s) (room_of s w) w) (new_is (roll_of s) (room_of s w) w sized absent room) placed grown (roll_lawful t);
}
told s w (Err e) t sized absent (room, fault, same) = record {
  answer = ap (λ (f : ListFault). Err f) fault ∙ sym (full_answer (roll_of s) (room_of s w) w sized absent room);
  after = leaves_same roll_of ArraysEntered s w t (is_new_word (roll_of s) (room_of s w) w) (full_is (roll_of s) (room_of s w) w sized absent room) same;
}
