-- The numbers of paths before and after a change of what is held.
use Rattle.std.proofs.Common.{◌≡◌, ℕ, zero, suc, cond, ◌&&◌, eqb, List, [], ◌∷◌, length, Some, None, Decides, Option, sym, refl, ap, ◌∙◌, arith}
use Rattle.std.proofs.lemmas.Bool.Decides.{Decides-like, Decides-eqb, Decides-and, not_from_Decides}
use Rattle.std.proofs.lemmas.Bool.{cond_both, false≢true}
use Rattle.cells.specs.declared.Cell.{Cell}
use Rattle.cells.specs.Counting.{same_path}
use Rattle.cells.specs.Walking.{number_at, turned}
use Rattle.cells.specs.Trees.{Held}
use Rattle.cells.proofs.Climbs.{number_held, held_number, number_positive}

pub decides_same : (p q : List ℕ) → Decides (same_path p q) (p ≡ q)
decides_same [] [] = (λ e. refl, λ e. refl)
decides_same [] (b ∷ q) = (λ e. absurd (false≢true e), λ e. absurd (omega (arith, ap length e)))
decides_same (a ∷ p) [] = (λ e. absurd (false≢true e), λ e. absurd (omega (arith, ap length e)))
decides_same (a ∷ p) (b ∷ q) =
    Decides-like (eqb a b && same_path p q) (λ h. let x = h.0 in let y = h.1 in cc)
    (λ e. let x : a ≡ b = cc in let y : p ≡ q = cc in (x, y)) (Decides-and _ _ (Decides-eqb a b) (decides_same p q))

-- two answers are equal if each is the other's
same_option : (x y : Option ℕ) → ((u : ℕ) → x ≡ Some u → y ≡ Some u) → ((u : ℕ) → y ≡ Some u → x ≡ Some u) → x ≡ y
same_option None None f g = refl
same_option None (Some u) f g = g u refl
same_option (Some u) y f g = sym (f u refl)

carried : (cs xs : List Cell) (p : List ℕ) → ((n : ℕ) → Held cs (turned p []) n → Held xs (turned p []) n) → (u : ℕ) → number_at cs p ≡ Some u → number_at xs p ≡ Some u
carried cs xs p f zero e = absurd (number_positive cs p e)
carried cs xs p f (suc n) e = held_number xs p n (f n (number_held cs p n e))

-- a path that is held alike has the same number
pub numbers_same : (cs xs : List Cell) (p : List ℕ) → ((n : ℕ) → Held cs (turned p []) n → Held xs (turned p []) n) → ((n : ℕ) → Held xs (turned p []) n → Held cs (turned p []) n) → number_at xs p ≡ number_at cs p
numbers_same cs xs p f g = same_option (number_at xs p) (number_at cs p) (carried xs cs p g) (carried cs xs p f)

-- a path that is not held has no number
pub number_none : (cs : List Cell) (p : List ℕ) → ((n : ℕ) → Held cs (turned p []) n → ⊥) → number_at cs p ≡ None
number_none cs p f = none (number_at cs p) refl
  where
    none : (o : Option ℕ) → number_at cs p ≡ o → o ≡ None
    none None e = refl
    none (Some zero) e = absurd (number_positive cs p e)
    none (Some (suc n)) e = absurd (f n (number_held cs p n e))

-- one path has another number, and each other path its own
pub numbers_but : (cs xs : List Cell) (p : List ℕ) (o : Option ℕ) → number_at xs p ≡ o
    → ((q : List ℕ) (n : ℕ) → (q ≡ p → ⊥) → Held cs (turned q []) n → Held xs (turned q []) n)
    → ((q : List ℕ) (n : ℕ) → (q ≡ p → ⊥) → Held xs (turned q []) n → Held cs (turned q []) n)
    → (q : List ℕ) → number_at xs q ≡ cond (same_path q p) o (number_at cs q)
numbers_but cs xs p o here f g q =
    cond_both (same_path q p) o (number_at cs q) (λ x. number_at xs q ≡ x)
    (λ e. ap (number_at xs) ((decides_same q p).0 e) ∙ here)
    (λ e. let ne = not_from_Decides (same_path q p) (decides_same q p) e in numbers_same cs xs q (λ n. f q n ne) (λ n. g q n ne))
