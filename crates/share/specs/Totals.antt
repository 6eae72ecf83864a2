-- The total that a share is of.
use Rattle.std.specs.Prelude.{ℕ, Bool, ◌&&◌, List, sum_by, filter, ◌==◌}

-- a present triple as a share sees it: its first word, its relation and its count
pub record CountedTriple (W : Type 0) : Type 0 where
  pub x : W
  pub relation : ℕ
  pub count : ℕ

-- T: what the present triples that begin with x and have the relation k count together, where `same` tells whether two
-- words are the same
abbrev pub total_of : {W : Type 0} → (W → W → Bool) → List (CountedTriple W) → W → ℕ → ℕ
total_of same present x k = sum_by (λ c. c.count) (filter (λ c. same c.x x && c.relation == k) present)
