-- The order of paths.
use Rattle.std.specs.Prelude.{◌≡◌, ℕ, ◌<◌, ◌⊎◌, List, [], ◌∷◌}

-- p comes before q: at the first place where they differ p has the lower code, or p is a beginning of q
abbrev pub Before : List ℕ → List ℕ → Type 0
Before [] [] = ⊥
Before [] (b ∷ q) = Unit {0}
Before (a ∷ p) [] = ⊥
Before (a ∷ p) (b ∷ q) = (a < b) ⊎ ((a ≡ b) × Before p q)
