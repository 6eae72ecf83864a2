-- What the functions on cells leave.
use Rattle.std.specs.Prelude.{◌≡◌, ℕ, ◌+◌, ◌<◌, cond, List, length, ℤ, Some, None, Option, ◌≢◌, nat_lt, slice_index}
use Rattle.cells.specs.declared.Cell.{Cell}
use Rattle.cells.specs.Cells.{base_of, parent, child_codes}
use Rattle.cells.specs.Placing.{place, freed_up}
use Rattle.cells.specs.Walking.{number_at}
use Rattle.cells.specs.Pruning.{take_out}
use Rattle.cells.specs.Counting.{held_paths, same_path, beginnings}
use Rattle.cells.specs.Laws.{Holds}

-- the placing rule finds the cell t and leaves the cells xs and the index js, or finds no place and nothing changes
abbrev pub Given : List Cell → List ℕ → ℕ → ℕ → ℤ → Option ℕ → List Cell → List ℕ → Type 0
Given cs is s a z None xs js = (place cs is s a z ≡ None) × (xs ≡ cs) × (js ≡ is)
Given cs is s a z (Some t) xs js = place cs is s a z ≡ Some (record { cells = xs; index = js; spot = t })

-- each cell in use but the root stands within its parent's range, and its parent is in use
abbrev pub Upward : List Cell → Type 0
Upward cs =
    (t : ℕ) → 0 < parent cs t → (t ≢ 1)
    → (0 < parent cs (parent cs t)) × (base_of cs (parent cs t) < t) × (t < base_of cs (parent cs t) + 258)

-- from the base b on each of the codes has its cell among the first n
abbrev pub CodesWithin : List ℕ → ℕ → ℕ → Type 0
CodesWithin codes b n = (k : ℕ) → k < length codes → b + slice_index codes k < n

-- so have the children that s is left with, once n cells from t up are freed
abbrev pub ReturnsWithin : List Cell → ℕ → ℕ → ℕ → ℕ → Type 0
ReturnsWithin cs s b n t = CodesWithin (child_codes (freed_up n cs t) s) b (length cs)

-- each parent is a cell
abbrev pub Parented : List Cell → Type 0
Parented cs = (j : ℕ) → parent cs j < length cs

-- there are as many cells and index entries as before
abbrev pub SameSizes : List Cell → List ℕ → List Cell → List ℕ → Type 0
SameSizes cs is xs js = (length xs ≡ length cs) × (length js ≡ length is)

-- the path p was taken out and had the number u, or it is not held and nothing changes
abbrev pub Taken : List Cell → List ℕ → List ℕ → Option ℕ → List Cell → List ℕ → Type 0
Taken cs is p None xs js = (number_at cs p ≡ None) × (xs ≡ cs) × (js ≡ is)
Taken cs is p (Some u) xs js = (number_at cs p ≡ Some u) × (take_out cs is p ≡ Some (record { cells = xs; index = js }))

-- the path p is not held, and each other path is as it was
abbrev pub Removed : List Cell → List ℕ → List Cell → Type 0
Removed cs p xs = (q : List ℕ) → number_at xs q ≡ cond (same_path q p) None (number_at cs q)

-- n is one more than the different non-empty beginnings of the held paths, and 0 in an array of fewer than two cells
pub record CountsBeginnings (cs : List Cell) (n : ℕ) : Type 0 where
  -- the paths that climbing from the leaves spells are exactly the held ones
  pub held : Holds cs (held_paths cs)
  -- and n is counted by their beginnings
  pub count : n ≡ cond (nat_lt 1 (length cs)) (1 + length (beginnings (held_paths cs))) 0
  -- as it is by those of any list of exactly the held paths
  pub any : (ks : List (List ℕ)) → 1 < length cs → Holds cs ks → n ≡ 1 + length (beginnings ks)
