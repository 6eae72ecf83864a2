-- Members of lists: of mapped and filtered ones, of lists without repeats, and at places.
use Rattle.std.proofs.Common.{◌≡◌, ℕ, zero, suc, ◌+◌, ◌<◌, ◌≤◌, Bool, true, false, cond, List, [], ◌∷◌, map, length, set, Some, filter, sym, refl, ap, ◌∙◌, subst, inl, inr, ⊎_elim, le_antisymm, arith}
use Rattle.std.specs.List.{slice_get, range_with_len}
use Rattle.std.proofs.lemmas.Bool.{cases_Bool, cond-true, cond-false, both_ways}
use Rattle.members.specs.Lists.{In, Apart}
use Rattle.members.proofs.Pigeons.{pigeons}
use Rattle.members.proofs.Members.{in_map}

module _ {X Y : Type 0} (f : X → Y) where
  -- members whose values are apart are equal if their values are
  pub same_from : (xs : List X) → Apart (map f xs) → (x z : X) → In xs x → In xs z → f x ≡ f z → x ≡ z
  same_from [] a x z i j e = absurd i
  same_from (y ∷ xs) a x z (inl i) (inl j) e = i ∙ sym j
  same_from (y ∷ xs) a x z (inl i) (inr j) e = absurd (a.0 (subst (In (map f xs)) (sym e ∙ ap f i) (in_map f xs z j)))
  same_from (y ∷ xs) a x z (inr i) (inl j) e = absurd (a.0 (subst (In (map f xs)) (e ∙ ap f j) (in_map f xs x i)))
  same_from (y ∷ xs) a x z (inr i) (inr j) e = same_from xs a.1 x z i j e

  -- a list whose values are apart has no repeats
  pub apart_from : (xs : List X) → Apart (map f xs) → Apart xs
  apart_from [] a = tt
  apart_from (x ∷ xs) a = (λ i. a.0 (in_map f xs x i), apart_from xs a.1)

-- two lists without repeats that have the same members are as long
pub as_long : {X : Type 0} (xs ys : List X) → Apart xs → Apart ys → ((x : X) → In xs x → In ys x) → ((x : X) → In ys x → In xs x) → length xs ≡ length ys
as_long {X} xs ys a b to from =
    let R : X → X → Type 0 = λ x y. x ≡ y in
    le_antisymm (pigeons R (λ x u y p q. p ∙ sym q) xs ys a (λ x i. (x, to x i, refl))) (pigeons R (λ x u y p q. p ∙ sym q) ys xs b (λ x i. (x, from x i, refl)))

-- filters that agree through a map
pub kept_map : {X Y : Type 0} (f : X → Y) (p : Y → Bool) (q : X → Bool) (xs : List X) → ((x : X) → In xs x → p (f x) ≡ q x) → filter p (map f xs) ≡ map f (filter q xs)
kept_map f p q [] same = refl
kept_map f p q (x ∷ xs) same =
    ap (λ (b : Bool). cond b (f x ∷ filter p (map f xs)) (filter p (map f xs))) (same x (inl refl))
    ∙ ap (λ l. cond (q x) (f x ∷ l) l) (kept_map f p q xs (λ z i. same z (inr i)))
    ∙ both (q x) (filter q xs)
  where
    -- the first is kept in both or in neither
    both : (b : Bool) (l : List _) → cond b (f x ∷ map f l) (map f l) ≡ map f (cond b (x ∷ l) l)
    both true l = refl
    both false l = refl

-- if not all of n numbers from a up pass a test, one of them does not
pub open_from : (p : ℕ → Bool) (a n : ℕ) → (length (filter p (range_with_len a n)) ≡ n → ⊥) → (u : ℕ) × (a ≤ u) × (u < a + n) × (p u ≡ false)
open_from p a zero few = absurd (few refl)
open_from p a (suc n) few =
    ⊎_elim
    (λ yes.
    let more = filter p (range_with_len (a + 1) n) in
    let one : length (filter p (range_with_len a (suc n))) ≡ suc (length more) = ap length (cond-true (p a) (a ∷ more) more yes) in
    let k = open_from p (a + 1) n (λ e. few (one ∙ ap suc e)) in
    (k.0, omega (arith, k.1), omega (arith, k.2), k.3))
    (λ no. (a, omega arith, omega arith, no))
    (cases_Bool (p a))

-- what is written is read at its place
pub nth_set : {X : Type 0} (xs : List X) (k : ℕ) (x : X) → k < length xs → slice_get (set xs k x) k ≡ Some x
nth_set [] k x h = absurd (omega arith)
nth_set (y ∷ xs) zero x h = refl
nth_set (y ∷ xs) (suc k) x h = nth_set xs k x (omega arith)

-- and at another place what was there
pub nth_set_other : {X : Type 0} (xs : List X) (k j : ℕ) (x : X) → (j ≡ k → ⊥) → slice_get (set xs k x) j ≡ slice_get xs j
nth_set_other [] k j x ne = refl
nth_set_other (y ∷ xs) zero zero x ne = absurd (ne refl)
nth_set_other (y ∷ xs) zero (suc j) x ne = refl
nth_set_other (y ∷ xs) (suc k) zero x ne = refl
nth_set_other (y ∷ xs) (suc k) (suc j) x ne = nth_set_other xs k j x (λ e. ne (ap suc e))

-- whether one of them passes
abbrev pub some_passes : {X : Type 0} → (X → Bool) → List X → Bool
some_passes p [] = false
some_passes p (x ∷ xs) = cond (p x) true (some_passes p xs)

-- one that passes
pub passes_from : {X : Type 0} (p : X → Bool) (xs : List X) → some_passes p xs ≡ true → (x : X) × In xs x × (p x ≡ true)
passes_from p [] e = absurd (both_ways false refl e)
passes_from p (x ∷ xs) e =
    ⊎_elim
    (λ yes. (x, inl refl, yes))
    (λ no. let k = passes_from p xs (sym (cond-false (p x) true (some_passes p xs) no) ∙ e) in (k.0, inr k.1, k.2))
    (cases_Bool (p x))

-- and back
pub from_passes : {X : Type 0} (p : X → Bool) (xs : List X) (x : X) → In xs x → p x ≡ true → some_passes p xs ≡ true
from_passes p [] x i e = absurd i
from_passes p (y ∷ xs) x (inl i) e = cond-true (p y) true (some_passes p xs) (ap p (sym i) ∙ e)
from_passes p (y ∷ xs) x (inr i) e =
    ⊎_elim
    (λ yes. cond-true (p y) true (some_passes p xs) yes)
    (λ no. cond-false (p y) true (some_passes p xs) no ∙ from_passes p xs x i e)
    (cases_Bool (p y))
