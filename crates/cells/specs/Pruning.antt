-- Taking a path out.
use Rattle.std.specs.Prelude.{ℕ, zero, suc, cond, List, length, ℤ, pos, negsuc, Some, None, Option, slice_set}
use Rattle.cells.specs.declared.Cell.{Cell}
use Rattle.cells.specs.Cells.{free_cell, root_cell, at, parent, child_codes, some_code}
use Rattle.cells.specs.Placing.{Arrays}
use Rattle.cells.specs.Walking.{cell_at}

-- the cells after t was freed, and each cell above it that then has no child left: at most n cells
abbrev pub prune : ℕ → List Cell → ℕ → List Cell
prune zero cs t = cs
prune (suc n) cs t =
    let s = parent cs t in
    let ds = slice_set cs t free_cell in
    cond (some_code (child_codes ds s)) ds (prune n ds s)

-- the cells with the BASE 1 in a root without children
abbrev pub root_reset : List Cell → List Cell
root_reset cs = cond (some_code (child_codes cs 1)) cs (slice_set cs 1 root_cell)

-- the cells and the index after the leaf t, whose BASE is z, at the end of a path of n codes, was taken out: none where
-- it is no leaf
abbrev pub taken_out : List Cell → List ℕ → ℕ → ℕ → ℤ → Option Arrays
taken_out cs is n t (pos k) = None
taken_out cs is n t (negsuc k) = Some (record { cells = root_reset (prune n cs t); index = slice_set is k 0 })

-- the same at the cell that was found
abbrev pub taken_at : List Cell → List ℕ → ℕ → Option ℕ → Option Arrays
taken_at cs is n None = None
taken_at cs is n (Some t) = taken_out cs is n t (at cs t).base

-- the cells and the index after the path was taken out: none where it leads to no leaf
abbrev pub take_out : List Cell → List ℕ → List ℕ → Option Arrays
take_out cs is p = taken_at cs is (length p) (cell_at cs p)
