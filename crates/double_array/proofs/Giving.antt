-- The placing rule, from what the code has found.
use Rattle.std.proofs.Common.{◌≡◌, ℕ, ◌+◌, ◌-◌, ◌<◌, ◌≤◌, true, false, Bool, ◌&&◌, List, [], ◌∷◌, ◌++◌, length, get_or, take, set, ℤ, pos, Some, Option, sym, refl, ap, ◌∙◌, subst, arith, length-append}
use Rattle.std.proofs.Math.Seq.{take-append_seam}
use Rattle.std.proofs.lemmas.List.{get_or_append_left, get_or_push}
use Rattle.std.proofs.lemmas.Bool.{cond-false, and_left, and_right}
use Rattle.cells.specs.declared.Cell.{Cell}
use Rattle.cells.specs.Cells.{base_of, is_free, child_codes, some_code}
use Rattle.cells.specs.Placing.{Spot, Lowest, lowest, placed_at, place}
use Rattle.cells.proofs.Lowests.{lowest_holds}

pub some_yes : (xs : List ℕ) → 0 < length xs → some_code xs ≡ true
some_yes [] h = absurd (omega arith)
some_yes (x ∷ xs) h = refl

pub some_no : (xs : List ℕ) → length xs ≤ 0 → some_code xs ≡ false
some_no [] h = refl
some_no (x ∷ xs) h = absurd (omega arith)

-- a list without the last, which was pushed
pub popped : (xs : List ℕ) (a : ℕ) → take (length (xs ++ a ∷ []) - 1) (xs ++ a ∷ []) ≡ xs
popped xs a =
    let n : length (xs ++ a ∷ []) - 1 ≡ length xs = omega (arith, length-append xs (a ∷ [])) in
    ap (λ k. take k (xs ++ a ∷ [])) n ∙ take-append_seam xs (a ∷ [])

module _ (cs : List Cell) (is : List ℕ) (s a : ℕ) where
  abbrev codes : List ℕ
  codes = child_codes cs s

  abbrev test : ℕ → Bool
  test t = some_code codes && is_free cs t

  pub full_test : (t : ℕ) → is_free cs t ≡ false → test t ≡ false
  full_test t e = and_right _ _ e

  pub none_test : (t : ℕ) → length codes ≤ 0 → test t ≡ false
  none_test t h = and_left _ _ (some_no codes h)

  -- the family moves to the base that was found
  module _ (b : ℕ) (e : Some b ≡ lowest cs (codes ++ a ∷ [])) where
    pub place_far : (z : ℤ) → test (base_of cs s + a) ≡ false → place cs is s a z ≡ placed_at cs is s codes a z (Some b)
    place_far z t = cond-false (test (base_of cs s + a)) _ _ t ∙ ap (placed_at cs is s codes a z) (sym e)

    found : Lowest cs (codes ++ a ∷ []) (Some b)
    found = subst (Lowest cs (codes ++ a ∷ [])) (sym e) (lowest_holds cs (codes ++ a ∷ []) (omega (arith, length-append codes (a ∷ []))))

    pub new_within : (k : ℕ) → k < length codes → b + get_or codes k 0 < length cs
    new_within k h = subst (λ x. b + x < length cs) (get_or_append_left codes (a ∷ []) 0 k h) (found.1 k (omega (arith, length-append codes (a ∷ [])))).0

    pub child_within : b + a < length cs
    child_within =
        subst (λ x. b + x < length cs) (get_or_push codes a 0 (length codes) refl) (found.1 (length codes) (omega (arith, length-append codes (a ∷ [])))).0

-- a cell that is written, as the code writes it
pub child_written : (xs : List Cell) (is : List ℕ) (s t : ℕ) (z y k : ℤ) → y ≡ z → k ≡ pos s
    → ◌≡◌ {A = Option Spot} (Some (record { cells = set xs t (record { base = z; check = pos s }); index = is; spot = t })) (Some (record { cells = set xs t (record { base = y; check = k }); index = is; spot = t }))
child_written xs is s t z y k base check =
    ap (λ c. Some (record { cells = set xs t (record { base = z; check = c }); index = is; spot = t })) (sym check)
    ∙ ap (λ b. Some (record { cells = set xs t (record { base = b; check = k }); index = is; spot = t })) (sym base)
