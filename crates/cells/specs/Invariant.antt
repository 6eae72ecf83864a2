-- What holds of the cells and the index between operations. All of it is one proposition, which the struct that owns
-- them carries. That an array of fewer than two cells has none in use follows from Reachable; `ShortArrays` names it.
use Rattle.std.specs.Prelude.{◌≡◌, ℕ, ◌<◌, true, ◌||◌, List, [], length, pos, ◌≢◌}
use Rattle.cells.specs.declared.Cell.{Cell}
use Rattle.cells.specs.Cells.{free_cell, at, parent, is_leaf, child_codes, some_code}
use Rattle.cells.specs.Walking.{cell_at, is_found, path_to}
use Rattle.cells.specs.Index.{Leads, IndexLeads}

-- cell 1, if there is one, is the root
abbrev pub Rooted : List Cell → Type 0
Rooted cs = 1 < length cs → (at cs 1).check ≡ pos 1

-- while no edge leads from the root, its BASE is 1
abbrev pub Bare : List Cell → Type 0
Bare cs = 1 < length cs → child_codes cs 1 ≡ [] → (at cs 1).base ≡ pos 1

-- a cell without a parent is free
abbrev pub Blank : List Cell → Type 0
Blank cs = (t : ℕ) → parent cs t ≡ 0 → at cs t ≡ free_cell

-- climbing from a cell in use spells a path that leads to it
abbrev pub Reachable : List Cell → Type 0
Reachable cs = (t : ℕ) → 0 < parent cs t → is_found (cell_at cs (path_to cs t)) t ≡ true

-- a cell in use, but for the root, is a leaf or has a child
abbrev pub Ended : List Cell → Type 0
Ended cs = (t : ℕ) → 0 < parent cs t → (t ≢ 1) → (is_leaf cs t || some_code (child_codes cs t)) ≡ true

-- all of them
pub record Sound (cs : List Cell) (is : List ℕ) : Type 0 where
  pub rooted : Rooted cs
  pub bare : Bare cs
  pub blank : Blank cs
  pub reached : Reachable cs
  pub ended : Ended cs
  pub leads : Leads cs is
  pub entered : IndexLeads cs is
