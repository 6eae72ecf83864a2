-- Laws of the numbers of a roll.
use Rattle.std.proofs.Common.{◌≡◌, ℕ, zero, suc, ◌+◌, ◌-◌, ◌<◌, ◌≤◌, true, false, ◌&&◌, leb, ◌⊎◌, List, [], ◌∷◌, ◌++◌, length, get_or, Some, None, Option, sym, refl, ap, ◌∙◌, subst, inl, inr, ⊎_elim, arith}
use Rattle.std.specs.Str.{bytes_eq}
use Rattle.std.proofs.lemmas.List.{length_push, get_or_append_left, get_or_push}
use Rattle.std.proofs.lemmas.Bool.{and_parts, and_from, leb-true, le-leb, cases_Bool, cases_lt, cond-true, cond-false, both_ways}
use Rattle.std.proofs.lemmas.Slice.Eq.{bytes_eq-Decides}
use Rattle.lexicon.specs.Rolls.{label_sized, number_from, number_of, word_of, numbered, Lawful}

-- the test of a spelling's length as bounds, and back
pub label_bounds : (w : List ℕ) → label_sized w ≡ true → (1 ≤ length w) × (length w ≤ 128)
label_bounds w e =
    let parts = and_parts (leb 1 (length w)) (leb (length w) 128) e in
    (leb-true 1 (length w) parts.0, leb-true (length w) 128 parts.1)

pub bounds_label : (w : List ℕ) → 1 ≤ length w → length w ≤ 128 → label_sized w ≡ true
bounds_label w low high = and_from (leb 1 (length w)) (leb (length w) 128) (le-leb 1 (length w) low) (le-leb (length w) 128 high)

-- the test of a number as bounds
pub numbered_bounds : (roll : List (List ℕ)) (n : ℕ) → numbered roll n ≡ true → (1 ≤ n) × (n ≤ length roll)
numbered_bounds roll n e =
    let parts = and_parts (leb 1 n) (leb n (length roll)) e in
    (leb-true 1 n parts.0, leb-true n (length roll) parts.1)

-- the test of a number against how many words the roll has
pub numbered_by : (roll : List (List ℕ)) (n count : ℕ) → length roll ≡ count → (leb 1 n && leb n count) ≡ numbered roll n
numbered_by roll n count e = ap (λ (k : ℕ). leb 1 n && leb n k) (sym e)

-- the number that is found is that of a place where the word stands
pub number_from_some : (n : ℕ) (vs : List (List ℕ)) (w : List ℕ) (m : ℕ) → number_from n vs w ≡ Some m → (n ≤ m) × (m - n < length vs) × (get_or vs (m - n) [] ≡ w)
number_from_some n [] w m e = absurd (let z : ◌≡◌ {A = ℕ} 0 1 = cc in omega arith)
number_from_some n (v ∷ vs) w m e =
    ⊎_elim
    (λ same.
    let here : Some n ≡ Some m = sym (cond-true (bytes_eq v w) (Some n) (number_from (suc n) vs w) same) ∙ e in
    let at : n ≡ m = cc in
    let none : m - n ≡ 0 = omega arith in
    (omega arith, omega arith, subst (λ (k : ℕ). get_or (v ∷ vs) k [] ≡ w) (sym none) ((bytes_eq-Decides v w).0 same)))
    (λ other.
    let later = number_from_some (suc n) vs w m (sym (cond-false (bytes_eq v w) (Some n) (number_from (suc n) vs w) other) ∙ e) in
    let next : m - n ≡ suc (m - suc n) = omega (arith, later.0) in
    (omega (arith, later.0), omega (arith, later.0, later.1), subst (λ (k : ℕ). get_or (v ∷ vs) k [] ≡ w) (sym next) later.2))
    (cases_Bool (bytes_eq v w))

-- where none is found, the first word is another, and none is found further on
pub none_parts : (n : ℕ) (v : List ℕ) (vs : List (List ℕ)) (w : List ℕ) → number_from n (v ∷ vs) w ≡ None → (bytes_eq v w ≡ false) × (number_from (suc n) vs w ≡ None)
none_parts n v vs w e =
    ⊎_elim
    (λ same. absurd (let here : Some n ≡ None = sym (cond-true (bytes_eq v w) (Some n) (number_from (suc n) vs w) same) ∙ e in let z : ◌≡◌ {A = ℕ} 0 1 = cc in omega arith))
    (λ other. (other, sym (cond-false (bytes_eq v w) (Some n) (number_from (suc n) vs w) other) ∙ e))
    (cases_Bool (bytes_eq v w))

-- where none is found the word stands nowhere
pub number_from_none : (n : ℕ) (vs : List (List ℕ)) (w : List ℕ) → number_from n vs w ≡ None → (k : ℕ) → k < length vs → get_or vs k [] ≡ w → ⊥
number_from_none n [] w e k h at = omega arith
number_from_none n (v ∷ vs) w e zero h at = both_ways (bytes_eq v w) (none_parts n v vs w e).0 ((bytes_eq-Decides v w).1 at)
number_from_none n (v ∷ vs) w e (suc k) h at = number_from_none (suc n) vs w (none_parts n v vs w e).1 k (omega arith) at

-- a word more at the end: the numbers of the others stay
pub number_from_kept : (n : ℕ) (vs : List (List ℕ)) (v w : List ℕ) (m : ℕ) → number_from n vs w ≡ Some m → number_from n (vs ++ v ∷ []) w ≡ Some m
number_from_kept n [] v w m e = absurd (let z : ◌≡◌ {A = ℕ} 0 1 = cc in omega arith)
number_from_kept n (u ∷ vs) v w m e =
    ⊎_elim
    (λ same. cond-true (bytes_eq u w) (Some n) (number_from (suc n) (vs ++ v ∷ []) w) same ∙ sym (cond-true (bytes_eq u w) (Some n) (number_from (suc n) vs w) same) ∙ e)
    (λ other.
    cond-false (bytes_eq u w) (Some n) (number_from (suc n) (vs ++ v ∷ []) w) other
    ∙ number_from_kept (suc n) vs v w m (sym (cond-false (bytes_eq u w) (Some n) (number_from (suc n) vs w) other) ∙ e))
    (cases_Bool (bytes_eq u w))

-- and the new one has the number after the last
pub number_from_last : (n : ℕ) (vs : List (List ℕ)) (w : List ℕ) → number_from n vs w ≡ None → number_from n (vs ++ w ∷ []) w ≡ Some (n + length vs)
number_from_last n [] w e =
    cond-true (bytes_eq w w) (Some n) None ((bytes_eq-Decides w w).1 refl) ∙ ap (λ k. Some k) (let z : n ≡ n + 0 = omega arith in z)
number_from_last n (u ∷ vs) w e =
    let parts = none_parts n u vs w e in
    cond-false (bytes_eq u w) (Some n) (number_from (suc n) (vs ++ w ∷ []) w) parts.0
    ∙ number_from_last (suc n) vs w parts.1
    ∙ ap (λ k. Some k) (let z : suc n + length vs ≡ n + suc (length vs) = omega arith in z)

-- the number of a word that the roll has
pub number_some : (roll : List (List ℕ)) (w : List ℕ) (m : ℕ) → number_of roll w ≡ Some m → (1 ≤ m) × (m ≤ length roll) × (word_of roll m ≡ w)
number_some roll w m e = let found = number_from_some 1 roll w m e in (found.0, omega (arith, found.0, found.1), found.2)

-- each number of a lawful roll is that of its word
pub number_word : (roll : List (List ℕ)) (m : ℕ) → Lawful roll → 1 ≤ m → m ≤ length roll → number_of roll (word_of roll m) ≡ Some m
number_word roll m lawful low high = by (number_of roll (word_of roll m)) refl
  where
    by : (o : Option ℕ) → number_of roll (word_of roll m) ≡ o → o ≡ Some m
    by None e = absurd (number_from_none 1 roll (word_of roll m) e (m - 1) (omega arith) refl)
    by (Some k) e =
        let found = number_some roll (word_of roll m) k e in
        let same : k - 1 ≡ m - 1 = lawful.apart (k - 1) (m - 1) (omega (arith, found.0, found.1), omega arith, found.2) in
        ap (λ i. Some i) (let z : k ≡ m = omega (arith, found.0) in z)

-- a new word of the right length keeps the roll lawful
pub lawful_push : (roll : List (List ℕ)) (w : List ℕ) → Lawful roll → length roll < 65535 → label_sized w ≡ true → number_of roll w ≡ None → Lawful (roll ++ w ∷ [])
lawful_push roll w lawful few size none =
    let long = length_push roll w in
    record {
      few = omega arith;
      sized = λ k h.
          ⊎_elim
          (λ low. ap label_sized (get_or_append_left roll (w ∷ []) [] k low) ∙ lawful.sized k low)
          (λ high. let last : length roll ≡ k = omega arith in ap label_sized (get_or_push roll w [] k last) ∙ size)
          (cases_lt k (length roll));
      apart = λ i j alike. let hi = alike.0 in let hj = alike.1 in let e = alike.2 in
          ⊎_elim
          (λ li. ⊎_elim
          (λ lj. lawful.apart i j (li, lj, sym (get_or_append_left roll (w ∷ []) [] i li) ∙ e ∙ get_or_append_left roll (w ∷ []) [] j lj))
          (λ gj. let last : length roll ≡ j = omega arith in
          absurd (number_from_none 1 roll w none i li (sym (get_or_append_left roll (w ∷ []) [] i li) ∙ e ∙ get_or_push roll w [] j last)))
          (cases_lt j (length roll)))
          (λ gi. let first : length roll ≡ i = omega arith in ⊎_elim
          (λ lj. absurd (number_from_none 1 roll w none j lj (sym (get_or_append_left roll (w ∷ []) [] j lj) ∙ sym e ∙ get_or_push roll w [] i first)))
          (λ gj. omega arith)
          (cases_lt j (length roll)))
          (cases_lt i (length roll));
    }

-- a word more at the end: a word that is found was found before, or is the new one
pub number_from_only : (n : ℕ) (vs : List (List ℕ)) (v w : List ℕ) (m : ℕ) → number_from n (vs ++ v ∷ []) w ≡ Some m → (number_from n vs w ≡ Some m) ⊎ (w ≡ v)
number_from_only n [] v w m e =
    ⊎_elim
    (λ same. inr (sym ((bytes_eq-Decides v w).0 same)))
    (λ other. absurd (let none : None ≡ Some m = sym (cond-false (bytes_eq v w) (Some n) None other) ∙ e in let z : ◌≡◌ {A = ℕ} 0 1 = cc in omega arith))
    (cases_Bool (bytes_eq v w))
number_from_only n (u ∷ vs) v w m e =
    ⊎_elim
    (λ same. inl (cond-true (bytes_eq u w) (Some n) (number_from (suc n) vs w) same ∙ sym (cond-true (bytes_eq u w) (Some n) (number_from (suc n) (vs ++ v ∷ []) w) same) ∙ e))
    (λ other.
    ⊎_elim
    (λ before. inl (cond-false (bytes_eq u w) (Some n) (number_from (suc n) vs w) other ∙ before))
    (λ new. inr new)
    (number_from_only (suc n) vs v w m (sym (cond-false (bytes_eq u w) (Some n) (number_from (suc n) (vs ++ v ∷ []) w) other) ∙ e)))
    (cases_Bool (bytes_eq u w))
