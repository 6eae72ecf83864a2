-- The order of paths.
use Rattle.std.proofs.Common.{ℕ, zero, suc, ◌<◌, List, [], ◌∷◌, ◌++◌, length, get_or, refl, inl, inr, arith}
use Rattle.members.specs.Lists.{Rises}
use Rattle.subtrie.specs.Order.{Before}
use Rattle.members.proofs.Members.{in_at}

-- a common beginning does not matter
pub before_front : (p q r : List ℕ) → Before q r → Before (p ++ q) (p ++ r)
before_front [] q r h = h
before_front (a ∷ p) q r h = inr (refl, before_front p q r h)

-- no path comes before itself
pub before_self : (p : List ℕ) → Before p p → ⊥
before_self [] h = h
before_self (a ∷ p) (inl less) = omega arith
before_self (a ∷ p) (inr h) = before_self p h.1

pub rising_at : (ps : List (List ℕ)) → Rises Before ps → (i j : ℕ) → i < j → j < length ps → Before (get_or ps i []) (get_or ps j [])
rising_at [] h i j less short = absurd (omega arith)
rising_at (p ∷ ps) h i zero less short = absurd (omega arith)
rising_at (p ∷ ps) h zero (suc j) less short = h.0 (get_or ps j []) (in_at ps j [] (omega arith))
rising_at (p ∷ ps) h (suc i) (suc j) less short = rising_at ps h.1 i j (omega arith) (omega arith)
