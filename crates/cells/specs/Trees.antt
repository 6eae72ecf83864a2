-- What an array of cells says as a tree.
use Rattle.std.specs.Prelude.{◌≡◌, ℕ, ◌+◌, ◌<◌, List, [], ◌∷◌, length, pos, negsuc}
use Rattle.members.specs.Lists.{In}
use Rattle.cells.specs.declared.Cell.{Cell}
use Rattle.cells.specs.Cells.{at, base_of, parent}

-- t is the child of s by the code a
pub record Edge (cs : List Cell) (s a t : ℕ) : Type 0 where
  pub some : 0 < a
  pub code : a < 258
  pub inner : 0 < base_of cs s
  pub place : t ≡ base_of cs s + a
  pub check : (at cs t).check ≡ pos s

-- the path p, its last code first, leads from the root to t
abbrev pub Reach : List Cell → List ℕ → ℕ → Type 0
Reach cs [] t = t ≡ 1
Reach cs (a ∷ p) t = (s : ℕ) × Reach cs p s × Edge cs s a t

-- the path p, its last code first, leads to a leaf with the number n + 1
abbrev pub Held : List Cell → List ℕ → ℕ → Type 0
Held cs p n = (t : ℕ) × Reach cs p t × ((at cs t).base ≡ negsuc n)

-- the codes have free cells at the base e
abbrev pub Room : List Cell → List ℕ → ℕ → Type 0
Room cs codes e = (a : ℕ) → In codes a → (e + a < length cs) × (parent cs (e + a) ≡ 0)
