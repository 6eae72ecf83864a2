-- Worked examples of the rules.
use Rattle.std.specs.Prelude.{◌≡◌, ℕ, suc, List, [], ◌∷◌, length, replicate, ℤ, pos, negsuc, Some, None, Option, slice_set}
use Rattle.cells.specs.declared.Cell.{Cell}
use Rattle.cells.specs.Cells.{free_cell, root_cell, base_of}
use Rattle.cells.specs.Placing.{Arrays, grow, enter, undo}
use Rattle.cells.specs.Pruning.{take_out}
use Rattle.cells.specs.Counting.{in_use, held_paths, beginnings}
use Rattle.cells.specs.Walking.{onward}

-- n cells without a path, with an index of k entries
abbrev pub new_arrays : ℕ → ℕ → Arrays
new_arrays n k = record { cells = slice_set (replicate n free_cell) 1 root_cell; index = replicate k 0 }

-- what the cell at a place holds
pub record CellAt : Type 0 where
  pub place : ℕ
  pub base : ℤ
  pub check : ℕ

-- the cells after these were written
abbrev pub with_cells : List Cell → List CellAt → List Cell
with_cells cs [] = cs
with_cells cs (c ∷ more) = with_cells (slice_set cs c.place (record { base = c.base; check = pos c.check })) more

-- the paths are entered in turn, with the numbers from n + 1 up
abbrev pub enter_all : Option Arrays → ℕ → List (List ℕ) → Option Arrays
enter_all o n [] = o
enter_all o n (p ∷ more) = enter_all (onward o (λ xs. enter xs.cells xs.index p n)) (suc n) more

-- how many cells are then in use
abbrev pub used_then : Option Arrays → Option ℕ
used_then o = onward o (λ xs. Some (in_use xs.cells))

-- the label a, with the end sign
abbrev pub a_path : List ℕ
a_path = 99 ∷ 1 ∷ []

-- the label b, with the end sign
abbrev pub b_path : List ℕ
b_path = 100 ∷ 1 ∷ []

-- the labels a and b, with the end sign
abbrev pub ab_path : List ℕ
ab_path = 99 ∷ 100 ∷ 1 ∷ []

-- a path of five codes
abbrev pub first_path : List ℕ
first_path = 2 ∷ 3 ∷ 6 ∷ 2 ∷ 4 ∷ []

-- another at its third code
abbrev pub second_path : List ℕ
second_path = 2 ∷ 3 ∷ 7 ∷ 2 ∷ 4 ∷ []

-- another at its last
abbrev pub third_path : List ℕ
third_path = 2 ∷ 3 ∷ 6 ∷ 2 ∷ 5 ∷ []

-- two paths with a node of their own each
abbrev pub two_paths : List (List ℕ)
two_paths = (3 ∷ 1 ∷ []) ∷ (5 ∷ 1 ∷ []) ∷ []

-- the cells that hold them: the cell 2, at which the root would have a child by the code 1, is taken
abbrev pub two_held : Arrays
two_held = record {
  cells = with_cells (replicate 10 free_cell) (
      record { place = 1; base = pos 1; check = 1 } ∷ record { place = 2; base = negsuc 0; check = 4 }
      ∷ record { place = 3; base = negsuc 1; check = 6 }
      ∷ record { place = 4; base = pos 1; check = 1 } ∷ record { place = 6; base = pos 2; check = 1 } ∷ []);
  index = 2 ∷ 3 ∷ 0 ∷ [];
}

-- the paths are taken out in turn
abbrev pub out_all : Option Arrays → List (List ℕ) → Option Arrays
out_all o [] = o
out_all o (p ∷ more) = out_all (onward o (λ xs. take_out xs.cells xs.index p)) more

-- what comes of them
pub record Examples : Type 0 where
  -- in 104 cells a, b and ab have a place: the leaf of a moves from 2 to 4, and its index entry follows
  pub fits : enter_all (Some (new_arrays 104 3)) 0 (a_path ∷ b_path ∷ ab_path ∷ []) ≡ Some (record {
    cells = with_cells (replicate 104 free_cell) (
        record { place = 1; base = pos 1; check = 1 } ∷ record { place = 2; base = negsuc 2; check = 103 }
        ∷ record { place = 3; base = negsuc 1; check = 101 }
        ∷ record { place = 4; base = negsuc 0; check = 100 } ∷ record { place = 100; base = pos 3; check = 1 }
        ∷ record { place = 101; base = pos 2; check = 1 }
        ∷ record { place = 103; base = pos 1; check = 100 } ∷ []);
    index = 4 ∷ 3 ∷ 2 ∷ [];
  })
  -- in 103 cells a and b have one, and ab has none
  pub two_fit : enter_all (Some (new_arrays 103 3)) 0 (a_path ∷ b_path ∷ []) ≡ Some (record {
    cells = with_cells (replicate 103 free_cell) (
        record { place = 1; base = pos 1; check = 1 } ∷ record { place = 2; base = negsuc 0; check = 100 }
        ∷ record { place = 3; base = negsuc 1; check = 101 }
        ∷ record { place = 100; base = pos 1; check = 1 } ∷ record { place = 101; base = pos 2; check = 1 } ∷ []);
    index = 2 ∷ 3 ∷ 0 ∷ [];
  })
  pub third_does_not : enter_all (Some (new_arrays 103 3)) 0 (a_path ∷ b_path ∷ ab_path ∷ []) ≡ None
  -- one path of five codes takes six cells of 8, and has no place in 7
  pub six : used_then (enter_all (Some (new_arrays 8 3)) 0 (first_path ∷ [])) ≡ Some 6
  pub seven : enter_all (Some (new_arrays 7 3)) 0 (first_path ∷ []) ≡ None
  -- three take ten of 13; in 12 the third has no place, and two take nine
  pub ten : used_then (enter_all (Some (new_arrays 13 3)) 0 (first_path ∷ second_path ∷ third_path ∷ [])) ≡ Some 10
  pub nine : used_then (enter_all (Some (new_arrays 12 3)) 0 (first_path ∷ second_path ∷ [])) ≡ Some 9
  pub no_third : enter_all (Some (new_arrays 12 3)) 0 (first_path ∷ second_path ∷ third_path ∷ []) ≡ None
  -- without the second, seven of the ten are left
  pub out : used_then (onward (enter_all (Some (new_arrays 13 3)) 0 (first_path ∷ second_path ∷ third_path ∷ []))
      (λ xs. take_out xs.cells xs.index second_path)) ≡ Some 7
  -- an only path is entered and taken out: what is left is the new array
  pub empty : onward (enter_all (Some (new_arrays 8 3)) 0 (first_path ∷ []))
      (λ xs. take_out xs.cells xs.index first_path) ≡ Some (new_arrays 8 3)
  pub two : enter_all (Some (new_arrays 10 3)) 0 two_paths ≡ Some two_held
  -- climbing from their leaves spells the two paths, and the cells in use are one more than their four beginnings
  pub held : held_paths two_held.cells ≡ two_paths
  pub four : length (beginnings two_paths) ≡ 4
  pub five : in_use two_held.cells ≡ 5
  -- the root's family moves for a third path: both children, and the CHECK of theirs
  pub family : enter_all (Some two_held) 2 ((1 ∷ []) ∷ []) ≡ Some (record {
    cells = with_cells (replicate 10 free_cell) (
        record { place = 1; base = pos 4; check = 1 } ∷ record { place = 2; base = negsuc 0; check = 7 }
        ∷ record { place = 3; base = negsuc 1; check = 9 }
        ∷ record { place = 5; base = negsuc 2; check = 1 } ∷ record { place = 7; base = pos 1; check = 1 }
        ∷ record { place = 9; base = pos 2; check = 1 } ∷ []);
    index = 2 ∷ 3 ∷ 5 ∷ [];
  })
  -- without the three the root has the BASE 1 again
  pub emptied : out_all (enter_all (Some two_held) 2 ((1 ∷ []) ∷ [])) ((1 ∷ []) ∷ two_paths) ≡ Some (new_arrays 10 3)
  -- two new cells below the root, for which its family moved, are undone
  pub undone : onward (grow (1 ∷ []) two_held.cells two_held.index 1 1 (pos 0))
      (λ r. Some (undo r.cells r.index 1 (base_of two_held.cells 1) 2 r.spot)) ≡ Some two_held
  -- two cells are a root and no more, and fewer have none in use
  pub none : enter_all (Some (new_arrays 2 3)) 0 ((1 ∷ []) ∷ []) ≡ None
  pub root : in_use (new_arrays 2 3).cells ≡ 1
  pub short : in_use (new_arrays 1 3).cells ≡ 0
