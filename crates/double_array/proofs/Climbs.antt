-- Climbing from a cell to the root, one step more.
use Rattle.std.proofs.Common.{◌≡◌, ℕ, zero, suc, ◌+◌, ◌-◌, ◌<◌, ◌≤◌, eqb, List, [], ◌∷◌, length, drop, set, sym, refl, ap, ◌∙◌, ⊎_elim, arith, length-drop}
use Rattle.std.proofs.lemmas.List.{drop-set, length-set}
use Rattle.std.proofs.lemmas.Bool.{cases_eq, cond-true, cond-false, eq-eqb, ne_eqb}
use Rattle.cells.specs.declared.Cell.{Cell}
use Rattle.cells.specs.Cells.{parent, base_of}
use Rattle.cells.specs.Walking.{climb, path_to}

module _ (cs : List Cell) where
  -- the code by which t is reached from its parent
  abbrev code : ℕ → ℕ
  code t = t - base_of cs (parent cs t)

  pub climb_step : (k t : ℕ) (q : List ℕ) → (t ≡ 1 → ⊥) → 0 < k → climb k cs t q ≡ climb (k - 1) cs (parent cs t) (code t ∷ q)
  climb_step zero t q ne some = absurd (omega arith)
  climb_step (suc k) t q ne some = cond-false (eqb t 1) q _ (ne_eqb t 1 ne) ∙ ap (λ n. climb n cs (parent cs t) (code t ∷ q)) less
    where
      less : k ≡ suc k - 1
      less = omega arith

  pub climb_root : (k t : ℕ) (q : List ℕ) → t ≡ 1 → climb k cs t q ≡ q
  climb_root zero t q e = refl
  climb_root (suc k) t q e = cond-true (eqb t 1) q _ (eq-eqb t 1 e)

  climb_length : (k t : ℕ) (q : List ℕ) → length (climb k cs t q) ≡ length q + length (climb k cs t [])
  climb_length zero t q = omega arith
  climb_length (suc k) t q =
      ⊎_elim
      (λ e. omega (arith, ap length (climb_root (suc k) t q e), ap length (climb_root (suc k) t [] e)))
      (λ ne.
      omega (
        arith,
        ap length (cond-false (eqb t 1) q (climb k cs (parent cs t) (code t ∷ q)) (ne_eqb t 1 ne)),
        ap length (cond-false (eqb t 1) [] (climb k cs (parent cs t) (code t ∷ [])) (ne_eqb t 1 ne)),
        climb_length k (parent cs t) (code t ∷ q),
        climb_length k (parent cs t) (code t ∷ []),
      ))
      (cases_eq t 1)

  -- one code more
  pub length_step : (k t : ℕ) → (t ≡ 1 → ⊥) → 0 < k → length (climb k cs t []) ≡ 1 + length (climb (k - 1) cs (parent cs t) [])
  length_step k t ne some = ap length (climb_step k t [] ne some) ∙ climb_length (k - 1) (parent cs t) (code t ∷ [])

  -- as long as codes are to come, there is a cell above
  pub not_yet : (k t : ℕ) (q : List ℕ) → length q < length (climb k cs t q) → (t ≡ 1 → ⊥) × (0 < k)
  not_yet zero t q h = absurd (omega arith)
  not_yet (suc k) t q h = (λ e. omega (arith, ap length (climb_root (suc k) t q e)), omega arith)

  -- no code is to come
  pub no_more : (k t : ℕ) (q : List ℕ) → length (climb k cs t q) ≡ length q → climb k cs t q ≡ q
  no_more zero t q e = refl
  no_more (suc k) t q e =
      ⊎_elim (climb_root (suc k) t q)
      (λ ne. absurd (omega (arith, ap length (climb_step (suc k) t q ne (omega arith)), climb_length (suc k - 1) (parent cs t) (code t ∷ q))))
      (cases_eq t 1)

-- a path that is written from its end, the codes from the place i on stand in out
module _ (cs : List Cell) (t s i : ℕ) (out : List ℕ) (inv : climb (length cs - (length out - i)) cs s (drop i out) ≡ path_to cs t) (long : length out ≡ length (path_to cs t)) where
  abbrev left : ℕ
  left = length cs - (length out - i)

  pub write_not_yet : 0 < i → i ≤ length out → (s ≡ 1 → ⊥) × (0 < left)
  write_not_yet low high = not_yet cs left s (drop i out) (omega (arith, length-drop i out, ap length inv))

  pub write_more : 0 < i → i ≤ length out → (a : ℕ) → a ≡ s - base_of cs (parent cs s)
      → climb (length cs - (length (set out (i - 1) a) - (i - 1))) cs (parent cs s) (drop (i - 1) (set out (i - 1) a)) ≡ path_to cs t
  write_more low high a same =
      let ok = write_not_yet low high in
      let next : i - 1 + 1 ≡ i = omega arith in
      let fewer : length cs - (length (set out (i - 1) a) - (i - 1)) ≡ left - 1 = omega (arith, length-set out (i - 1) a, ok.1) in
      ap (λ k. climb k cs (parent cs s) (drop (i - 1) (set out (i - 1) a))) fewer
      ∙ ap (climb (left - 1) cs (parent cs s)) (drop-set out (i - 1) a (omega arith) ∙ ap (λ j. a ∷ drop j out) next)
      ∙ ap (λ x. climb (left - 1) cs (parent cs s) (x ∷ drop i out)) same
      ∙ sym (climb_step cs left s (drop i out) ok.0 ok.1) ∙ inv

  pub write_all : i ≤ 0 → out ≡ path_to cs t
  write_all none =
      let zero_i : i ≡ 0 = omega arith in
      let whole : drop i out ≡ out = ap (λ j. drop j out) zero_i in
      sym (sym inv ∙ no_more cs left s (drop i out) (omega (arith, ap length inv, ap length whole)) ∙ whole)
