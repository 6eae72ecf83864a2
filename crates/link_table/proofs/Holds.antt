-- Which numbers are held after a path was entered or taken out.
use Rattle.std.proofs.Common.{◌≡◌, ℕ, zero, suc, ◌+◌, ◌-◌, ◌<◌, ◌≤◌, Bool, true, false, cond, ltb, List, length, get_or, Some, None, filter, Option, unwrap_or, sym, refl, ap, ◌∙◌, subst, ⊎_elim, arith}
use Rattle.std.specs.List.{range_with_len}
use Rattle.std.proofs.lemmas.Bool.{cases_Bool, cond-true, cond-false, and_from, lt-ltb}
use Rattle.cells.specs.declared.Cell.{Cell}
use Rattle.cells.specs.Counting.{same_path}
use Rattle.cells.specs.Invariant.{Sound}
use Rattle.cells.specs.Walking.{number_at}
use Rattle.cells.proofs.Basics.{no_some, some_same}
use Rattle.cells.proofs.Climbs.{number_positive}
use Rattle.cells.proofs.Numbers.{decides_same}
use Rattle.double_array.specs.Spellings.{is_known, path_of}
use Rattle.double_array.proofs.Spells.{named_of}
use Rattle.link_table.specs.Numbers.{held_numbers, NumbersAtMost}
use Rattle.link_table.proofs.Counts.{kept_more, kept_all}

bool_same : (a b : Bool) → (a ≡ true → b ≡ true) → (b ≡ true → a ≡ true) → a ≡ b
bool_same true b f g = sym (f refl)
bool_same false true f g = g refl
bool_same false false f g = refl

-- a number is at least 1
pub number_low : (cs : List Cell) (p : List ℕ) (u : ℕ) → number_at cs p ≡ Some u → 1 ≤ u
number_low cs p zero e = absurd (number_positive cs p e)
number_low cs p (suc n) e = omega arith

-- and at most the limit
pub number_high : (cs : List Cell) (m : ℕ) (p : List ℕ) (u : ℕ) → NumbersAtMost cs m → number_at cs p ≡ Some u → u ≤ m
number_high cs m p u few e = let h : unwrap_or (Some u) 0 ≤ m = subst (λ (o : Option ℕ). unwrap_or o 0 ≤ m) e (few p) in h

-- the cells xs hold the path p, with the number u, besides what cs hold
module _ (cs xs : List Cell) (is js p : List ℕ) (u : ℕ) (before : Sound cs is) (after : Sound xs js)
    (few : NumbersAtMost cs (length is)) (few' : NumbersAtMost xs (length js)) (long : length js ≡ length is)
    (none : number_at cs p ≡ None) (more : (q : List ℕ) → number_at xs q ≡ cond (same_path q p) (Some u) (number_at cs q)) where
  pub new_number : number_at xs p ≡ Some u
  new_number = more p ∙ cond-true (same_path p p) (Some u) (number_at cs p) ((decides_same p p).1 refl)

  forth : (q : List ℕ) (k : ℕ) → number_at cs q ≡ Some k → number_at xs q ≡ Some k
  forth q k e =
      ⊎_elim
      (λ same. absurd (no_some k (sym none ∙ ap (number_at cs) (sym ((decides_same q p).0 same)) ∙ e)))
      (λ other. more q ∙ cond-false (same_path q p) (Some u) (number_at cs q) other ∙ e)
      (cases_Bool (same_path q p))

  back : (q : List ℕ) (k : ℕ) → (k ≡ u → ⊥) → number_at xs q ≡ Some k → number_at cs q ≡ Some k
  back q k ne e =
      ⊎_elim
      (λ same. absurd (ne (sym (some_same u k (sym (cond-true (same_path q p) (Some u) (number_at cs q) same) ∙ sym (more q) ∙ e)))))
      (λ other. sym (cond-false (same_path q p) (Some u) (number_at cs q) other) ∙ sym (more q) ∙ e)
      (cases_Bool (same_path q p))

  known_after : is_known js u ≡ true
  known_after = ((named_of xs js after u).only p new_number (number_high xs (length js) p u few' new_number)).0

  known_others : (k : ℕ) → (k ≡ u → ⊥) → is_known js k ≡ is_known is k
  known_others k ne =
      bool_same (is_known js k) (is_known is k)
      (λ yes. let e = back (path_of xs js k) k ne ((named_of xs js after k).held yes) in ((named_of cs is before k).only (path_of xs js k) e (number_high cs (length is) (path_of xs js k) k few e)).0)
      (λ yes. let e = forth (path_of cs is k) k ((named_of cs is before k).held yes) in ((named_of xs js after k).only (path_of cs is k) e (number_high xs (length js) (path_of cs is k) k few' e)).0)

  pub known_before : is_known is u ≡ false
  known_before =
      ⊎_elim
      (λ yes.
      let q = path_of cs is u in
      let there = (named_of cs is before u).held yes in
      let e = forth q u there in
      let high = number_high xs (length js) q u few' e in
      let same : q ≡ p = sym ((named_of xs js after u).only q e high).1 ∙ ((named_of xs js after u).only p new_number high).1 in
      absurd (no_some u (sym none ∙ ap (number_at cs) (sym same) ∙ there)))
      (λ open_one. open_one)
      (cases_Bool (is_known is u))

  pub held_more : length (held_numbers js) ≡ length (held_numbers is) + 1
  held_more =
      let low = number_low xs p u new_number in
      let high = number_high xs (length js) p u few' new_number in
      kept_more (is_known is) (is_known js) u 1 (length js) low (omega arith) known_before known_after known_others
      ∙ ap (λ (n : ℕ). length (filter (is_known is) (range_with_len 1 n)) + 1) long

-- no place is vacant: all numbers are held
pub held_all : (is : List ℕ) → ((k : ℕ) → k < length is → 0 ≤ k → 0 < get_or is k 0) → length (held_numbers is) ≡ length is
held_all is all =
    kept_all (is_known is) 1 (length is)
    (λ k low high. and_from (ltb 0 k) (ltb 0 (get_or is (k - 1) 0)) (lt-ltb 0 k (omega arith)) (lt-ltb 0 (get_or is (k - 1) 0) (all (k - 1) (omega arith) (omega arith))))
