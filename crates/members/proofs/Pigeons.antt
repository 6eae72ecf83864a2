-- A list without repeats, each of whose elements has one of its own in another list, adds up to no more than that, and is no longer.
use Rattle.std.proofs.Common.{◌≡◌, ℕ, zero, suc, ◌+◌, ◌<◌, ◌≤◌, Bool, true, List, [], ◌∷◌, length, filter, sum_by, sym, refl, ap, ◌∙◌, subst, inl, inr, ⊎_elim, add-zero, arith}
use Rattle.std.specs.List.{range_with_len}
use Rattle.std.proofs.lemmas.Bool.{cases_eq, cases_Bool, cond-true, cond-false}
use Rattle.std.proofs.lemmas.List.Sums.{sum_by-cons}
use Rattle.members.specs.Lists.{In, Apart}

module _ {Y : Type 0} (g : Y → ℕ) where
  -- the list without one of its members
  abbrev without : (ys : List Y) (y : Y) → In ys y → List Y
  without [] y m = []
  without (z ∷ zs) y (inl e) = zs
  without (z ∷ zs) y (inr m) = z ∷ without zs y m

  sum_without : (ys : List Y) (y : Y) (m : In ys y) → sum_by g ys ≡ g y + sum_by g (without ys y m)
  sum_without [] y m = absurd m
  sum_without (z ∷ zs) y (inl e) = sum_by-cons g z zs ∙ ap (λ (v : Y). g v + sum_by g zs) (sym e)
  sum_without (z ∷ zs) y (inr m) = omega (arith, sum_by-cons g z zs, sum_by-cons g z (without zs y m), sum_without zs y m)

  in_without : (ys : List Y) (y : Y) (m : In ys y) (w : Y) → (w ≡ y → ⊥) → In ys w → In (without ys y m) w
  in_without [] y m w ne i = i
  in_without (z ∷ zs) y (inl e) w ne (inl k) = absurd (ne (k ∙ sym e))
  in_without (z ∷ zs) y (inl e) w ne (inr k) = k
  in_without (z ∷ zs) y (inr m) w ne (inl k) = inl k
  in_without (z ∷ zs) y (inr m) w ne (inr k) = inr (in_without zs y m w ne k)

  -- a member's part of the sum
  pub part_of_sum : (ys : List Y) (y : Y) → In ys y → g y ≤ sum_by g ys
  part_of_sum ys y m = omega (arith, sum_without ys y m)

-- if each member of a list without repeats has one of its own in another list, with no less to add, its sum is no more than the other's
pub sums_under : {X Y : Type 0} (f : X → ℕ) (g : Y → ℕ) (R : X → Y → Type 0) → ((x u : X) (y : Y) → R x y → R u y → x ≡ u) → ((x : X) (y : Y) → R x y → f x ≤ g y)
    → (xs : List X) (ys : List Y) → Apart xs → ((x : X) → In xs x → (y : Y) × In ys y × R x y) → sum_by f xs ≤ sum_by g ys
sums_under f g R one under [] ys a h = omega arith
sums_under f g R one under (x ∷ xs) ys a h =
    let k = h x (inl refl) in
    let less : sum_by f xs ≤ sum_by g (without g ys k.0 k.1) = sums_under f g R one under xs (without g ys k.0 k.1) a.1
    (λ u i.
    let m = h u (inr i) in
    let ne : m.0 ≡ k.0 → ⊥ = λ e. a.0 (subst (In xs) (one u x k.0 (subst (R u) e m.2) k.2) i) in
    (m.0, in_without g ys k.0 k.1 m.0 ne m.1, m.2)) in
    omega (arith, sum_by-cons f x xs, sum_without g ys k.0 k.1, under x k.0 k.2)

-- a list is as long as ones at its elements add up to
pub ones : {X : Type 0} (xs : List X) → sum_by (λ x. 1) xs ≡ length xs
ones [] = refl
ones (x ∷ xs) = omega (arith, sum_by-cons (λ z. 1) x xs, ones xs)

-- so it is no longer than the other
pub pigeons : {X Y : Type 0} (R : X → Y → Type 0) → ((x u : X) (y : Y) → R x y → R u y → x ≡ u)
    → (xs : List X) (ys : List Y) → Apart xs → ((x : X) → In xs x → (y : Y) × In ys y × R x y) → length xs ≤ length ys
pigeons R one xs ys a h = omega (arith, ones xs, ones ys, sums_under (λ x. 1) (λ y. 1) R one (λ x y r. omega arith) xs ys a h)

-- the numbers from a up
pub in_counting : (a n t : ℕ) → a ≤ t → t < a + n → In (range_with_len a n) t
in_counting a zero t lo hi = omega (arith, add-zero a)
in_counting a (suc n) t lo hi = ⊎_elim (λ e. inl e) (λ ne. inr (in_counting (a + 1) n t (omega arith) (omega arith))) (cases_eq t a)

from_counting : (a n t : ℕ) → In (range_with_len a n) t → a ≤ t
from_counting a zero t i = absurd i
from_counting a (suc n) t (inl e) = omega arith
from_counting a (suc n) t (inr i) = omega (arith, from_counting (a + 1) n t i)

pub apart_counting : (a n : ℕ) → Apart (range_with_len a n)
apart_counting a zero = tt
apart_counting a (suc n) = (λ i. omega (arith, from_counting (a + 1) n a i), apart_counting (a + 1) n)

-- what a filter keeps
module _ {X : Type 0} (f : X → Bool) where
  pub in_kept : (xs : List X) (x : X) → f x ≡ true → In xs x → In (filter f xs) x
  in_kept [] x is i = i
  in_kept (y ∷ ys) x is (inl e) = rw (cond-true (f y) (y ∷ filter f ys) (filter f ys) (ap f (sym e) ∙ is)) (inl e)
  in_kept (y ∷ ys) x is (inr i) =
      ⊎_elim (λ e. rw (cond-true (f y) (y ∷ filter f ys) (filter f ys) e) (inr (in_kept ys x is i)))
      (λ e. rw (cond-false (f y) (y ∷ filter f ys) (filter f ys) e) (in_kept ys x is i))
      (cases_Bool (f y))

  pub from_kept : (xs : List X) (x : X) → In (filter f xs) x → (f x ≡ true) × In xs x
  from_kept [] x i = absurd i
  from_kept (y ∷ ys) x i =
      ⊎_elim
      (λ e. ⊎_elim {C = (f x ≡ true) × In (y ∷ ys) x} (λ s. (ap f s ∙ e, inl s)) (λ k. ((from_kept ys x k).0, inr (from_kept ys x k).1)) (rw (cond-true (f y) (y ∷ filter f ys) (filter f ys) e) at i))
      (λ e. let k = from_kept ys x (rw (cond-false (f y) (y ∷ filter f ys) (filter f ys) e) at i) in (k.0, inr k.1))
      (cases_Bool (f y))

  pub apart_kept : (xs : List X) → Apart xs → Apart (filter f xs)
  apart_kept [] a = tt
  apart_kept (y ∷ ys) a =
      ⊎_elim
      (λ e. rw (cond-true (f y) (y ∷ filter f ys) (filter f ys) e) (λ i. a.0 (from_kept ys y i).1, apart_kept ys a.1))
      (λ e. rw (cond-false (f y) (y ∷ filter f ys) (filter f ys) e) (apart_kept ys a.1))
      (cases_Bool (f y))
