-- The lowest base is one number, and a search finds it.
use Rattle.std.proofs.Common.{◌≡◌, ℕ, zero, suc, ◌+◌, ◌<◌, ◌≤◌, Bool, false, eqb, List, length, ℤ, pos, negsuc, Some, None, Decides, Option, sym, refl, ap, subst, ⊎_elim, add-zero, add-suc, arith}
use Rattle.std.proofs.lemmas.Bool.Decides.{Decides-like, Decides-eqb, Decides-ltb, Decides-and, Decides-by_and, not_from_Decides}
use Rattle.std.proofs.lemmas.List.Elements.{All-get_or, All-from_get_or}
use Rattle.std.proofs.lemmas.Bool.{cases_order, cases_eq, cond_both, false≢true}
use Rattle.cells.specs.declared.Cell.{Cell}
use Rattle.cells.specs.Cells.{at, same_int, is_free}
use Rattle.cells.specs.Placing.{Free, AllFree, Lowest, all_free, first_from, lowest}
use Rattle.cells.proofs.Basics.{not_leaf}

pub lowest_unique : (cs : List Cell) (codes : List ℕ) (r s : Option ℕ) → Lowest cs codes r → Lowest cs codes s → r ≡ s
lowest_unique cs codes None None p q = refl
lowest_unique cs codes None (Some s) p q = absurd (p s q.0 q.1)
lowest_unique cs codes (Some r) None p q = absurd (q r p.0 p.1)
lowest_unique cs codes (Some r) (Some s) p q =
    ⊎_elim (λ e. ap Some e)
    (⊎_elim (λ lt. absurd (q.2 r lt p.0 p.1)) (λ lt. absurd (p.2 s lt q.0 q.1)))
    (cases_order r s)

-- the tests decide what they stand for
decides_same_int : (a b : ℤ) → Decides (same_int a b) (a ≡ b)
decides_same_int (pos a) (pos b) = Decides-like (eqb a b) (ap pos) (λ e. cc) (Decides-eqb a b)
decides_same_int (pos a) (negsuc b) = (λ e. absurd (false≢true e), λ e. absurd (not_leaf a b e))
decides_same_int (negsuc a) (pos b) = (λ e. absurd (false≢true e), λ e. absurd (not_leaf b a (sym e)))
decides_same_int (negsuc a) (negsuc b) = Decides-like (eqb a b) (ap negsuc) (λ e. cc) (Decides-eqb a b)

pub decides_free : (cs : List Cell) (t : ℕ) → Decides (is_free cs t) (Free cs t)
decides_free cs t =
    let both = Decides-and _ _ (Decides-and _ _ (Decides-ltb t (length cs)) (decides_same_int (at cs t).base (pos 0))) (decides_same_int (at cs t).check (pos 0)) in
    (λ e. let h = both.0 e in (h.0.0, h.0.1, h.1), λ h. both.1 ((h.0, h.1), h.2))

pub decides_all_free : (cs : List Cell) (codes : List ℕ) (b : ℕ) → Decides (all_free cs codes b) (AllFree cs codes b)
decides_all_free cs codes b =
    Decides-like (all_free cs codes b)
    (λ h k lt. All-get_or (λ a. Free cs (b + a)) codes k 0 lt h)
    (λ h. All-from_get_or (λ a. Free cs (b + a)) codes 0 h)
    (Decides-by_and (λ a. is_free cs (b + a)) (λ a. Free cs (b + a)) (λ l. all_free cs l b) (λ a. decides_free cs (b + a)) refl (λ _ _. refl) codes)

module _ (p : ℕ → Bool) (P : ℕ → Type 0) (each : (k : ℕ) → Decides (p k) (P k)) where
  abbrev First : ℕ → ℕ → Option ℕ → Type 0
  First b n None = (k : ℕ) → b ≤ k → k < b + n → P k → ⊥
  First b n (Some r) = (b ≤ r) × P r × ((k : ℕ) → k < r → b ≤ k → P k → ⊥)

  later : (b n : ℕ) (r : Option ℕ) → p b ≡ false → First (b + 1) n r → First b (suc n) r
  later b n None e h = λ k lo hi q.
      ⊎_elim (λ same. not_from_Decides (p b) (each b) e (subst P same q)) (λ ne. h k (omega arith) (omega (arith, add-suc b n)) q) (cases_eq k b)
  later b n (Some r) e h =
      (omega arith, h.1, λ k hi lo q. ⊎_elim (λ same. not_from_Decides (p b) (each b) e (subst P same q)) (λ ne. h.2 k hi (omega arith) q) (cases_eq k b))

  pub first_from_is : (b n : ℕ) → First b n (first_from p b n)
  first_from_is b zero = λ k lo hi q. omega (arith, add-zero b)
  first_from_is b (suc n) =
      cond_both (p b) (Some b) (first_from p (b + 1) n) (First b (suc n))
      (λ e. (omega arith, (each b).0 e, λ k hi lo q. omega arith))
      (λ e. later b n (first_from p (b + 1) n) e (first_from_is (b + 1) n))

lowest_of : (cs : List Cell) (codes : List ℕ) → 0 < length codes → (r : Option ℕ) → First (all_free cs codes) (AllFree cs codes) (decides_all_free cs codes) 1 (length cs) r → Lowest cs codes r
lowest_of cs codes some None h = λ b lo all. h b lo (omega (arith, (all 0 some).0)) all
lowest_of cs codes some (Some r) h = h

pub lowest_is : (cs : List Cell) (codes : List ℕ) (r : Option ℕ) → 0 < length codes → Lowest cs codes r → r ≡ lowest cs codes
lowest_is cs codes r some h =
    lowest_unique cs codes r (lowest cs codes) h (lowest_of cs codes some _ (first_from_is (all_free cs codes) (AllFree cs codes) (decides_all_free cs codes) 1 (length cs)))

pub lowest_holds : (cs : List Cell) (codes : List ℕ) → 0 < length codes → Lowest cs codes (lowest cs codes)
lowest_holds cs codes some = lowest_of cs codes some _ (first_from_is (all_free cs codes) (AllFree cs codes) (decides_all_free cs codes) 1 (length cs))
