-- What sound cells are as a tree: each node but the root is a leaf or has a child.
use Rattle.std.proofs.Common.{◌≡◌, ℕ, ◌+◌, ◌<◌, ◌⊎◌, List, pos, negsuc, ◌≢◌}
use Rattle.cells.specs.declared.Cell.{Cell}
use Rattle.cells.specs.Cells.{free_cell, at, base_of, parent}
use Rattle.members.specs.Lists.{In, Apart}
use Rattle.cells.specs.Trees.{Edge, Reach}

-- each cell is free or lies on a path from the root
pub record Tree (cs : List Cell) : Type 0 where
  pub root : (at cs 1).check ≡ pos 1
  pub blanks : (t : ℕ) → parent cs t ≡ 0 → at cs t ≡ free_cell
  pub reach : (t : ℕ) → 0 < parent cs t → (p : List ℕ) × Reach cs p t

-- s has no child
abbrev pub Lone : List Cell → ℕ → Type 0
Lone cs s = (a u : ℕ) → Edge cs s a u → ⊥

-- s is no leaf
abbrev pub NotLeaf : List Cell → ℕ → Type 0
NotLeaf cs s = (n : ℕ) → (at cs s).base ≢ negsuc n

-- t is a leaf or has a child
abbrev pub LeafOrParent : List Cell → ℕ → Type 0
LeafOrParent cs t = ((n : ℕ) × ((at cs t).base ≡ negsuc n)) ⊎ ((a : ℕ) × (u : ℕ) × Edge cs t a u)

-- each node but the root, and but the open one, is a leaf or has a child
abbrev pub WholeBut : List Cell → ℕ → Type 0
WholeBut cs o = (t : ℕ) → 0 < parent cs t → (t ≢ 1) → (t ≢ o) → LeafOrParent cs t

-- each node but the root is a leaf or has a child
abbrev pub Whole : List Cell → Type 0
Whole cs = (t : ℕ) → 0 < parent cs t → (t ≢ 1) → LeafOrParent cs t

-- the codes of the children of s, each once
pub record Family (cs : List Cell) (s : ℕ) (codes : List ℕ) : Type 0 where
  pub apart : Apart codes
  pub sound : (a : ℕ) → In codes a → Edge cs s a (base_of cs s + a)
  pub whole : (a u : ℕ) → Edge cs s a u → In codes a
