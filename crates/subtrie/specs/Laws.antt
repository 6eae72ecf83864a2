-- What the numbers below a beginning are, in terms of the held paths.
use Rattle.std.specs.Prelude.{◌≡◌, ℕ, ◌<◌, ◌≤◌, List, ◌++◌, map, length, Some, ◌≢◌, slice_index}
use Rattle.cells.specs.declared.Cell.{Cell}
use Rattle.cells.specs.Walking.{number_at}
use Rattle.members.specs.Lists.{In, Rises}
use Rattle.subtrie.specs.Order.{Before}

-- ns are the numbers of the held paths that begin with p, each path once and in the order of the paths
pub record ListsBelow (cs : List Cell) (p ns : List ℕ) : Type 0 where
  pub paths : List (List ℕ)
  pub numbers : map (number_at cs) paths ≡ map Some ns
  pub rising : Rises Before paths
  pub begin : (q : List ℕ) → In paths q → (r : List ℕ) × (q ≡ p ++ r)
  pub whole : (r : List ℕ) (u : ℕ) → number_at cs (p ++ r) ≡ Some u → In paths (p ++ r)

-- a number is one of ns exactly if some held path that begins with p has it
pub record NumbersBelow (cs : List Cell) (p ns : List ℕ) : Type 0 where
  pub held : (u : ℕ) → In ns u → (r : List ℕ) × (number_at cs (p ++ r) ≡ Some u)
  pub all : (r : List ℕ) (u : ℕ) → number_at cs (p ++ r) ≡ Some u → In ns u

-- the numbers that the index has stand in the order of their paths
pub record Ordered (cs : List Cell) (is ns : List ℕ) : Type 0 where
  -- the path of an earlier one comes before the path of a later one
  pub order : (i j : ℕ) (p q : List ℕ) → (i < j) × (j < length ns) → (slice_index ns i ≤ length is)
      × (slice_index ns j ≤ length is)
      → (number_at cs p ≡ Some (slice_index ns i)) × (number_at cs q ≡ Some (slice_index ns j)) → Before p q
  -- so each is there once
  pub once : (i j : ℕ) → (i < j) × (j < length ns) → slice_index ns i ≤ length is → slice_index ns i ≢ slice_index ns j
