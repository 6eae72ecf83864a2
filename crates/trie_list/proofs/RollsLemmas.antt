-- The roll that is read from the cells is what walking them finds.
use Rattle.std.specs.Prelude.{◌≡◌, ℕ, zero, suc, ◌+◌, ◌-◌, ◌<◌, ◌≤◌, true, ◌⊎◌, List, [], ◌∷◌, ◌++◌, length, get_or, ℤ, pos, Some, None, Option, int_lt, slice_index, slice_index_or, refl}
use Rattle.std.proofs.Common.{sym, ap, subst, ◌∙◌, inl, inr, ⊎_elim, arith}
use Rattle.std.proofs.lemmas.List.FromFn.{length-map-range_with_len, get_or-map-range_with_len, map-range_with_len_more, fill_by_all}
use Rattle.std.proofs.lemmas.Bool.{cases_Bool, cases_lt, cases_eq, cond-true, cond-false}
use Rattle.lexicon.specs.Rolls.{label_sized, number_of, word_of, Lawful}
use Rattle.lexicon.proofs.Numbers.{number_some, number_word}
use Rattle.cells.specs.declared.Cell.{Cell}
use Rattle.cells.specs.Cells.{at, entry, is_leaf, number}
use Rattle.cells.specs.Placing.{Arrays, enter}
use Rattle.cells.specs.Walking.{onward, cell_at, number_at, path_to}
use Rattle.cells.specs.Counting.{same_path}
use Rattle.cells.specs.Invariant.{Sound}
use Rattle.cells.specs.Laws.{Enters}
use Rattle.cells.proofs.Basics.{no_some, some_same}
use Rattle.cells.proofs.Climbs.{number_held, number_positive}
use Rattle.cells.proofs.Leaves.{leaf_used}
use Rattle.cells.proofs.Sounds.{leaf_is, found_is}
use Rattle.cells.proofs.Enters.{entering}
use Rattle.cells.proofs.Numbers.{decides_same}
use Rattle.cells.proofs.Starts.{indexing}
use Rattle.trie_list.specs.Paths.{path_of_word, labels_on, word_path}
use Rattle.trie_list.specs.Rolls.{path_at, word_at, words_of, HaveLeaves, HaveNoLeaves, NumbersWithin, Worded}
use Rattle.trie_list.proofs.PathsLemmas.{labels_path, word_path_of, word_path_parts}

-- the word of the number n + 1 stands at the place n
word_next : (roll : List (List ℕ)) (n : ℕ) → word_of roll (suc n) ≡ slice_index_or roll n []
word_next roll n = ap (λ (k : ℕ). get_or roll k []) (let z : suc n - 1 ≡ n = omega arith in z)

-- the cells and the index hold so many words, and nothing else
pub record HoldsWords (cs : List Cell) (is : List ℕ) (count : ℕ) : Type 0 where
  pub sound : Sound cs is
  pub within : count ≤ length is
  pub few : count ≤ 65535
  pub numbered : HaveLeaves is count
  pub unnumbered : HaveNoLeaves is count
  pub counted : NumbersWithin cs count
  pub worded : Worded cs is count

module _ (cs : List Cell) (is : List ℕ) (count : ℕ) (l : HoldsWords cs is count) where
  -- each number that is counted has its path
  pub path_number : (n : ℕ) → n < count → number_at cs (path_at cs is n) ≡ Some (suc n)
  path_number n h = (indexing cs is n l.sound).leaf (l.numbered n h)

  -- and a path that has a number is that number's path
  pub number_path : (p : List ℕ) (n : ℕ) → number_at cs p ≡ Some (suc n) → (n < count) × (path_at cs is n ≡ p)
  number_path p n e =
      let held = number_held cs p n e in
      let t = held.0 in
      let leaf : is_leaf cs t ≡ true = ap (λ (z : ℤ). int_lt z (pos 0)) held.2 in
      let here : entry (at cs t).base ≡ n = ap entry held.2 in
      let low : n < count = omega (arith, l.counted t leaf) in
      (low, ((indexing cs is n l.sound).path p e (omega (arith, l.within))).1)

  pub length_words : length (words_of cs is count) ≡ count
  length_words = length-map-range_with_len (word_at cs is) 0 count

  pub get_d_words : (k : ℕ) → k < count → slice_index_or (words_of cs is count) k [] ≡ word_at cs is k
  get_d_words k h = get_or-map-range_with_len (word_at cs is) 0 count k k [] h (let z : 0 + k ≡ k = omega arith in z)

  -- the path of a number's word
  pub path_word : (k : ℕ) → k < count → path_of_word (word_at cs is k) ≡ path_at cs is k
  path_word k h = (word_path_parts (path_at cs is k) (l.worded k h)).0

  pub words_lawful : Lawful (words_of cs is count)
  words_lawful = record {
    few = omega (arith, length_words, l.few);
    sized = λ k h. let low : k < count = omega (arith, length_words) in ap label_sized (get_d_words k low) ∙ (word_path_parts (path_at cs is k) (l.worded k low)).1;
    apart = λ i j alike.
        let low : i < count = omega (arith, length_words, alike.0) in
        let high : j < count = omega (arith, length_words, alike.1) in
        let words : word_at cs is i ≡ word_at cs is j = sym (get_d_words i low) ∙ alike.2 ∙ get_d_words j high in
        let paths : path_at cs is i ≡ path_at cs is j = sym (path_word i low) ∙ ap path_of_word words ∙ path_word j high in
        let same : suc i ≡ suc j = some_same (suc i) (suc j) (sym (path_number i low) ∙ ap (number_at cs) paths ∙ path_number j high) in
        omega arith;
  }

  -- walking the path of a word finds the number that the roll gives it, and none where the roll lacks it
  pub number_is : (w : List ℕ) → number_at cs (path_of_word w) ≡ number_of (words_of cs is count) w
  number_is w = by (number_at cs (path_of_word w)) (number_of (words_of cs is count) w) refl refl
    where
      held : (n : ℕ) → number_at cs (path_of_word w) ≡ Some (suc n) → number_of (words_of cs is count) w ≡ Some (suc n)
      held n e =
          let found = number_path (path_of_word w) n e in
          let long = length_words in
          let here : word_of (words_of cs is count) (suc n) ≡ w = word_next (words_of cs is count) n ∙ get_d_words n found.0 ∙ ap labels_on found.1 ∙ labels_path w in
          subst (λ (v : List ℕ). number_of (words_of cs is count) v ≡ Some (suc n)) here (number_word (words_of cs is count) (suc n) words_lawful (omega arith) (omega (arith, found.0)))

      by : (a b : Option ℕ) → number_at cs (path_of_word w) ≡ a → number_of (words_of cs is count) w ≡ b → a ≡ b
      by None None e f = refl
      by None (Some zero) e f = absurd (omega (arith, (number_some (words_of cs is count) w 0 f).0))
      by None (Some (suc n)) e f =
          let found = number_some (words_of cs is count) w (suc n) f in
          let low : n < count = omega (arith, found.1, length_words) in
          let path : path_at cs is n ≡ path_of_word w = sym (path_word n low) ∙ ap path_of_word (sym (get_d_words n low) ∙ sym (word_next (words_of cs is count) n) ∙ found.2) in
          absurd (no_some (suc n) (sym e ∙ ap (number_at cs) (sym path) ∙ path_number n low))
      by (Some zero) b e f = absurd (number_positive cs (path_of_word w) e)
      by (Some (suc n)) b e f = sym (held n e) ∙ f

-- a new word that was entered with the next number is the last of the roll
module _ (cs : List Cell) (is : List ℕ) (count : ℕ) (l : HoldsWords cs is count) (w : List ℕ) (xs : Arrays)
    (sized : label_sized w ≡ true) (place : count < length is) (few : count < 65535) (did : enter cs is (path_of_word w) count ≡ Some xs) where
  outcome : Enters cs is (path_of_word w) count xs
  outcome = entering cs is (path_of_word w) count xs l.sound (l.unnumbered count (omega arith)) did

  -- the new path has the new number
  new_number : number_at xs.cells (path_of_word w) ≡ Some (suc count)
  new_number = outcome.after (path_of_word w) ∙ cond-true (same_path (path_of_word w) (path_of_word w)) (Some (suc count)) (number_at cs (path_of_word w)) ((decides_same (path_of_word w) (path_of_word w)).1 refl)

  -- a path with a number has it still
  old_number : (p : List ℕ) (n : ℕ) → number_at cs p ≡ Some n → number_at xs.cells p ≡ Some n
  old_number p n e =
      ⊎_elim
      (λ same. absurd (no_some n (sym outcome.new ∙ ap (number_at cs) (sym ((decides_same p (path_of_word w)).0 same)) ∙ e)))
      (λ other. outcome.after p ∙ cond-false (same_path p (path_of_word w)) (Some (suc count)) (number_at cs p) other ∙ e)
      (cases_Bool (same_path p (path_of_word w)))

  -- and one that has a number now had it, or is the new one
  number_back : (p : List ℕ) (n : ℕ) → number_at xs.cells p ≡ Some (suc n) → (number_at cs p ≡ Some (suc n)) ⊎ (n ≡ count)
  number_back p n e =
      ⊎_elim
      (λ same. inr (let z : suc count ≡ suc n = some_same (suc count) (suc n) (sym (cond-true (same_path p (path_of_word w)) (Some (suc count)) (number_at cs p) same) ∙ sym (outcome.after p) ∙ e) in omega arith))
      (λ other. inl (sym (cond-false (same_path p (path_of_word w)) (Some (suc count)) (number_at cs p) other) ∙ sym (outcome.after p) ∙ e))
      (cases_Bool (same_path p (path_of_word w)))

  -- where the index leads now
  led : (p : List ℕ) (n : ℕ) → n < count + 1 → number_at xs.cells p ≡ Some (suc n) → (0 < slice_index xs.index n) × (path_at xs.cells xs.index n ≡ p)
  led p n h e = (indexing xs.cells xs.index n outcome.sound).path p e (omega (arith, outcome.index))

  old_led : (n : ℕ) → n < count → (0 < slice_index xs.index n) × (path_at xs.cells xs.index n ≡ path_at cs is n)
  old_led n h = led (path_at cs is n) n (omega arith) (old_number (path_at cs is n) (suc n) (path_number cs is count l n h))

  new_led : (0 < slice_index xs.index count) × (path_at xs.cells xs.index count ≡ path_of_word w)
  new_led = led (path_of_word w) count (omega arith) new_number

  each_led : (n : ℕ) → n < count + 1 → (0 < slice_index xs.index n) × (word_path (path_at xs.cells xs.index n) ≡ true)
  each_led n h =
      ⊎_elim
      (λ low. ((old_led n low).0, ap word_path (old_led n low).1 ∙ l.worded n low))
      (λ high.
      let last : count ≡ n = omega arith in
      subst (λ (k : ℕ). (0 < slice_index xs.index k) × (word_path (path_at xs.cells xs.index k) ≡ true)) last
      (new_led.0, ap word_path new_led.1 ∙ word_path_of w sized))
      (cases_lt n count)

  none_led : (n : ℕ) → count + 1 ≤ n → slice_index xs.index n ≡ 0
  none_led n h =
      ⊎_elim
      (λ zero'. zero')
      (λ some.
      let e = (indexing xs.cells xs.index n outcome.sound).leaf (omega arith) in
      absurd (⊎_elim
      (λ before. omega (arith, (number_path cs is count l (path_at xs.cells xs.index n) n before).0))
      (λ here. omega arith)
      (number_back (path_at xs.cells xs.index n) n e)))
      (cases_eq (slice_index xs.index n) 0)

  pub grown_words : words_of xs.cells xs.index (count + 1) ≡ words_of cs is count ++ w ∷ []
  grown_words =
      let old : words_of cs is count ≡ words_of xs.cells xs.index count =
      fill_by_all (word_at xs.cells xs.index) (words_of cs is count) count [] (length_words cs is count l)
      (λ k h. get_d_words cs is count l k h ∙ ap labels_on (sym (old_led k h).1)) in
      let last : word_at xs.cells xs.index count ≡ w = ap labels_on new_led.1 ∙ labels_path w in
      map-range_with_len_more (word_at xs.cells xs.index) 0 count count (let z : 0 + count ≡ count = omega arith in z)
      ∙ ap (λ (v : List (List ℕ)). v ++ word_at xs.cells xs.index count ∷ []) (sym old)
      ∙ ap (λ (v : List ℕ). words_of cs is count ++ v ∷ []) last

  leaf_counted : (t : ℕ) → is_leaf xs.cells t ≡ true → entry (at xs.cells t).base < count + 1
  leaf_counted t leaf =
      let b = leaf_is (at xs.cells t).base leaf in
      let used = leaf_used xs.cells outcome.sound.blank t b.0 b.1 in
      let there = found_is (cell_at xs.cells (path_to xs.cells t)) t (outcome.sound.reached t used) in
      let has : number_at xs.cells (path_to xs.cells t) ≡ Some (suc b.0) = ap (λ (o : Option ℕ). onward o (λ u. number (at xs.cells u).base)) there ∙ ap number b.1 in
      let here : entry (at xs.cells t).base ≡ b.0 = ap entry b.1 in
      ⊎_elim
      (λ before. omega (arith, (number_path cs is count l (path_to xs.cells t) b.0 before).0))
      (λ new. omega arith)
      (number_back (path_to xs.cells t) b.0 has)

  pub grown_listed : HoldsWords xs.cells xs.index (count + 1)
  grown_listed = record {
    sound = outcome.sound;
    within = omega (arith, outcome.index);
    few = omega arith;
    numbered = λ n h. (each_led n h).0;
    unnumbered = none_led;
    counted = leaf_counted;
    worded = λ n h. (each_led n h).1;
  }
