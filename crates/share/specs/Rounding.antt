-- A share in millionths, and what rounding to the nearest means.
use Rattle.std.specs.Prelude.{ℕ, ◌+◌, ◌-◌, ◌*◌, ◌/◌, ◌≤◌}

-- so many millionths is c of the total, as a whole number: halfway between two it is the larger, and 0 of the total 0,
-- by which division gives 0
abbrev pub share_of : ℕ → ℕ → ℕ
share_of c total = (2 * (1000000 * c) + total) / (2 * total)

-- how far two numbers are apart
abbrev pub distance : ℕ → ℕ → ℕ
distance a b = (a - b) + (b - a)

-- no whole number n is nearer to 1,000,000 * c / total than the share, and none that is as near is greater
pub record Nearest : Type 0 where
  pub near : (c total n : ℕ) → 1 ≤ total
      → distance (share_of c total * total) (1000000 * c) ≤ distance (n * total) (1000000 * c)
  pub upward : (c total n : ℕ) → 1 ≤ total
      → distance (n * total) (1000000 * c) ≤ distance (share_of c total * total) (1000000 * c) → n ≤ share_of c total
