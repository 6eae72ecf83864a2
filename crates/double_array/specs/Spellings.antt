-- The path of a number, read upward from its leaf.
use Rattle.std.specs.Prelude.{◌≡◌, ℕ, ◌-◌, ◌<◌, ◌≤◌, Bool, true, cond, ◌&&◌, List, ◌++◌, length, drop, Some, None, Ok, Err, if◌then◌else◌, Option, Result, nat_lt, slice_index}
use Rattle.cells.specs.declared.Cell.{Cell}
use Rattle.cells.specs.Cells.{parent}
use Rattle.cells.specs.Walking.{cell_at, number_at, path_to}
use Rattle.double_array.specs.declared.faults.NumberFault.{NumberFault}
use Rattle.double_array.specs.declared.faults.NumberFault.TheVariants.{Unknown, Short}

-- whether the number u has a leaf in the index
abbrev pub is_known : List ℕ → ℕ → Bool
is_known is u = nat_lt 0 u && nat_lt 0 (slice_index is (u - 1))

-- the leaf of the number u, by the index
abbrev pub leaf_in : List ℕ → ℕ → Option ℕ
leaf_in is u = if is_known is u then Some (slice_index is (u - 1)) else None

-- the cell that the path p leads to from the root, which an array of fewer than two cells has not
abbrev pub cell_from_root : List Cell → List ℕ → Option ℕ
cell_from_root cs p = if nat_lt 1 (length cs) then cell_at cs p else None

-- the path to the leaf of the number u
abbrev pub path_of : List Cell → List ℕ → ℕ → List ℕ
path_of cs is u = path_to cs (slice_index is (u - 1))

-- the first refusal that applies to the number u and an output of k places
abbrev pub unwritten : List Cell → List ℕ → ℕ → ℕ → Option NumberFault
unwritten cs is u k = cond (is_known is u) (cond (nat_lt k (length (path_of cs is u))) (Some Short) None) (Some Unknown)

-- the path of the number u fills the output from its start, or it is refused and nothing is written
abbrev pub Written : List Cell → List ℕ → ℕ → List ℕ → Result ℕ NumberFault → List ℕ → Type 0
Written cs is u out (Ok n) after = (unwritten cs is u (length out) ≡ None) × (n ≡ length (path_of cs is u))
    × (after ≡ path_of cs is u ++ drop n out)
Written cs is u out (Err e) after = (unwritten cs is u (length out) ≡ Some e) × (after ≡ out)

-- the path of a known number is held with it, and each path that is held with a number of the index is that number's
-- path
pub record Named (cs : List Cell) (is : List ℕ) (u : ℕ) : Type 0 where
  pub held : is_known is u ≡ true → number_at cs (path_of cs is u) ≡ Some u
  pub only : (p : List ℕ) → number_at cs p ≡ Some u → u ≤ length is → (is_known is u ≡ true) × (path_of cs is u ≡ p)

-- each leaf in the index is a cell in use
abbrev pub Pointed : List Cell → List ℕ → Type 0
Pointed cs is = (n : ℕ) → 0 < slice_index is n → 0 < parent cs (slice_index is n)
