-- What the rules of the double array come to, in terms of paths, numbers and the count of cells.
use Rattle.std.specs.Prelude.{◌≡◌, ℕ, suc, ◌+◌, ◌<◌, true, false, cond, ◌⊎◌, List, [], ◌∷◌, ◌++◌, length, ℤ, pos, negsuc, is_some, Some, None, ◌==◌, ◌≢◌, slice_index, slice_set}
use Rattle.cells.specs.declared.Cell.{Cell}
use Rattle.cells.specs.Cells.{free_cell, root_cell, at, base_of, parent, is_leaf, child, child_codes, some_code, all_codes}
use Rattle.cells.specs.Placing.{Free, Lowest, lowest, relocated, index_relocated, Arrays, Spot, place, grow, enter, undo}
use Rattle.cells.specs.Walking.{cell_at, number_at, turned, path_to}
use Rattle.cells.specs.Pruning.{take_out}
use Rattle.members.specs.Lists.{In, Apart}
use Rattle.cells.specs.Trees.{Reach, Held, Room}
use Rattle.cells.specs.Counting.{used, in_use, held_paths, same_path, beginnings}
use Rattle.cells.specs.Invariant.{Sound}

-- the search finds the lowest base with a free cell for each of the codes, and none only where there is none
abbrev pub Searching : Type 0
Searching = (cs : List Cell) (codes : List ℕ) → 0 < length codes → Lowest cs codes (lowest cs codes)

-- walking finds exactly the paths that lead to a cell, and the numbers of those that lead to a leaf
pub record Walks (cs : List Cell) (p : List ℕ) : Type 0 where
  pub cell : (t : ℕ) → (cell_at cs p ≡ Some t → Reach cs (turned p []) t)
      × (Reach cs (turned p []) t → cell_at cs p ≡ Some t)
  pub leaf : (n : ℕ) → (number_at cs p ≡ Some (suc n) → Held cs (turned p []) n)
      × (Held cs (turned p []) n → number_at cs p ≡ Some (suc n))
  -- no number is 0
  pub some : number_at cs p ≡ Some 0 → ⊥

-- of any cells and any path
abbrev pub Walking : Type 0
Walking = (cs : List Cell) (p : List ℕ) → Walks cs p

-- cell 0 is never used
abbrev pub Unused : Type 0
Unused = (cs : List Cell) (is : List ℕ) → Sound cs is → at cs 0 ≡ free_cell

-- what a cell holds in a new array
abbrev pub cleared : ℕ → Cell
cleared j = cond (j == 1) root_cell free_cell

-- a new array is sound, and holds no path
pub record Starts (cs : List Cell) (is : List ℕ) : Type 0 where
  pub sound : Sound cs is
  pub none : (p : List ℕ) → number_at cs p ≡ None

-- of cells that were all cleared, and an index of zeros
abbrev pub Starting : Type 0
Starting = (cs : List Cell) (is : List ℕ) → ((j : ℕ) → j < length cs → at cs j ≡ cleared j)
    → ((n : ℕ) → slice_index is n ≡ 0) → Starts cs is

-- the family of s has moved: what was sound is sound, and every path has its number as before
pub record Relocates (cs : List Cell) (is : List ℕ) (s e : ℕ) : Type 0 where
  pub sound : Sound (relocated cs s (child_codes cs s) e) (index_relocated cs is s (child_codes cs s) e)
  pub same : (p : List ℕ) → number_at (relocated cs s (child_codes cs s) e) p ≡ number_at cs p

-- of a node with children, and a base at which they have free cells
abbrev pub Relocating : Type 0
Relocating = (cs : List Cell) (is : List ℕ) (s e : ℕ) → Sound cs is → 0 < parent cs s
    → some_code (child_codes cs s) ≡ true → 0 < e → Room cs (child_codes cs s) e → Relocates cs is s e

-- the path p was entered with the number n + 1: it is held in addition, and each other path is as before
pub record Enters (cs : List Cell) (is : List ℕ) (p : List ℕ) (n : ℕ) (xs : Arrays) : Type 0 where
  pub sound : Sound xs.cells xs.index
  pub cells : length xs.cells ≡ length cs
  pub index : length xs.index ≡ length is
  pub new : number_at cs p ≡ None
  pub after : (q : List ℕ) → number_at xs.cells q ≡ cond (same_path q p) (Some (suc n)) (number_at cs q)

-- of sound cells and a number without a leaf
abbrev pub Entering : Type 0
Entering = (cs : List Cell) (is p : List ℕ) (n : ℕ) (xs : Arrays) → Sound cs is → slice_index is n ≡ 0
    → enter cs is p n ≡ Some xs → Enters cs is p n xs

-- after the first new cell was placed, the later ones leave the index and each cell in use as it is, but for that first
-- one
pub record Stays (f r : Spot) : Type 0 where
  pub index : r.index ≡ f.index
  pub cells : (j : ℕ) → 0 < parent f.cells j → (j ≢ f.spot) → at r.cells j ≡ at f.cells j

-- what s must be to get a child by the first of the codes
pub record Open (cs : List Cell) (s : ℕ) (codes : List ℕ) : Type 0 where
  pub used : 0 < parent cs s
  pub inner : is_leaf cs s ≡ false
  pub path : all_codes codes ≡ true

-- at most one family moves while a path grows from s, that of s
abbrev pub Moving : Type 0
Moving = (cs : List Cell) (is : List ℕ) (s a b : ℕ) (more : List ℕ) (z : ℤ) (f r : Spot) → Sound cs is
    → Open cs s (a ∷ b ∷ more) → child cs s a ≡ None
    → place cs is s a (pos 0) ≡ Some f → grow more f.cells f.index f.spot b z ≡ Some r → Stays f r

-- what grew is undone exactly: each cell and each index entry is as it was
abbrev pub Undoing : Type 0
Undoing = (cs : List Cell) (is : List ℕ) (s a : ℕ) (more : List ℕ) (z : ℤ) (r : Spot) → Sound cs is
    → Open cs s (a ∷ more) → child cs s a ≡ None
    → grow more cs is s a z ≡ Some r
    → undo r.cells r.index s (base_of cs s) (1 + length more) r.spot ≡ record { cells = cs; index = is }

-- so a path that was entered is taken back exactly, once its number's entry is 0 again
abbrev pub TakingBack : Type 0
TakingBack = (cs : List Cell) (is : List ℕ) (s a : ℕ) (more : List ℕ) (n : ℕ) (r : Spot) → Sound cs is
    → Open cs s (a ∷ more) → child cs s a ≡ None → slice_index is n ≡ 0
    → grow more cs is s a (negsuc n) ≡ Some r
    → undo r.cells (slice_set (slice_set r.index n r.spot) n 0) s (base_of cs s)
    (1 + length more) r.spot ≡ record { cells = cs; index = is }

-- the path p was taken out: it is no longer held, and each other path is as before
pub record TakesOut (cs : List Cell) (is : List ℕ) (p : List ℕ) (xs : Arrays) : Type 0 where
  pub sound : Sound xs.cells xs.index
  pub cells : length xs.cells ≡ length cs
  pub index : length xs.index ≡ length is
  pub after : (q : List ℕ) → number_at xs.cells q ≡ cond (same_path q p) None (number_at cs q)

-- a path can be taken out exactly if it is held
pub record TakingOut (cs : List Cell) (is : List ℕ) (p : List ℕ) : Type 0 where
  pub when : is_some (take_out cs is p) ≡ is_some (number_at cs p)
  pub out : (xs : Arrays) → take_out cs is p ≡ Some xs → TakesOut cs is p xs

-- of sound cells
abbrev pub Taking : Type 0
Taking = (cs : List Cell) (is p : List ℕ) → Sound cs is → TakingOut cs is p

-- climbing from the cell of a path spells the path, and takes fewer steps than there are cells
pub record Climbs (cs : List Cell) (p : List ℕ) (t : ℕ) : Type 0 where
  pub path : path_to cs t ≡ p
  pub short : length p < length cs

-- of sound cells, two or more
abbrev pub Climbing : Type 0
Climbing = (cs : List Cell) (is p : List ℕ) (t : ℕ) → 1 < length cs → Sound cs is → cell_at cs p ≡ Some t
    → Climbs cs p t

-- the index leads the number n + 1 to its leaf, from which climbing spells its path; without a leaf it has 0
pub record Indexes (cs : List Cell) (is : List ℕ) (n : ℕ) : Type 0 where
  pub path : (p : List ℕ) → number_at cs p ≡ Some (suc n) → n < length is → (0 < slice_index is n)
      × (path_to cs (slice_index is n) ≡ p)
  pub leaf : 0 < slice_index is n → number_at cs (path_to cs (slice_index is n)) ≡ Some (suc n)

-- of sound cells
abbrev pub Indexing : Type 0
Indexing = (cs : List Cell) (is : List ℕ) (n : ℕ) → Sound cs is → Indexes cs is n

-- ks are exactly the held paths
pub record Holds (cs : List Cell) (ks : List (List ℕ)) : Type 0 where
  pub sound : (p : List ℕ) → In ks p → is_some (number_at cs p) ≡ true
  pub whole : (p : List ℕ) → is_some (number_at cs p) ≡ true → In ks p

-- climbing from the leaves spells exactly the held paths, in an array of any length
abbrev pub Holding : Type 0
Holding = (cs : List Cell) (is : List ℕ) → Sound cs is → Holds cs (held_paths cs)

-- the cells in use are one more than the different non-empty beginnings of the held paths, in an array of two cells or
-- more
abbrev pub Counting : Type 0
Counting = (cs : List Cell) (is : List ℕ) (ks : List (List ℕ)) → 1 < length cs → Sound cs is → Holds cs ks
    → in_use cs ≡ 1 + length (beginnings ks)

-- bs are the different non-empty beginnings of the paths ks
pub record BeginningsOf (ks bs : List (List ℕ)) : Type 0 where
  -- each is a beginning of one of them, and not empty
  pub sound : (p : List ℕ) → In bs p → (p ≢ []) × ((rest : List ℕ) × In ks (p ++ rest))
  -- each such beginning is there
  pub whole : (p rest : List ℕ) → p ≢ [] → In ks (p ++ rest) → In bs p
  -- and is there once
  pub once : Apart bs

-- those that are counted are these
abbrev pub Beginning : Type 0
Beginning = (ks : List (List ℕ)) → BeginningsOf ks (beginnings ks)

-- each cell is either free or counted as in use, and counted once
pub record Uses (cs : List Cell) : Type 0 where
  pub either : (t : ℕ) → t < length cs → Free cs t ⊎ In (used cs) t
  pub other : (t : ℕ) → In (used cs) t → Free cs t → ⊥
  pub within : (t : ℕ) → In (used cs) t → t < length cs
  pub once : Apart (used cs)

-- of sound cells
abbrev pub Using : Type 0
Using = (cs : List Cell) (is : List ℕ) → Sound cs is → Uses cs

-- fewer than two cells hold no path and have no place for any, and none of them is counted as in use
abbrev pub ShortArrays : Type 0
ShortArrays = (cs : List Cell) (is p : List ℕ) (n : ℕ) → length cs < 2 → (number_at cs p ≡ None) × (enter cs is p n ≡ None)
    × (in_use cs ≡ 0)
