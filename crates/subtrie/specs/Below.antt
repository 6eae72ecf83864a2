-- The numbers below a cell.
use Rattle.std.specs.Prelude.{ℕ, zero, suc, ◌-◌, cond, List, [], ◌∷◌, ◌++◌, length, Some, None, Option, nat_le}
use Rattle.std.specs.Option.{option_map_or}
use Rattle.cells.specs.declared.Cell.{Cell}
use Rattle.cells.specs.Cells.{at, number, child}
use Rattle.cells.specs.Walking.{cell_at}

-- what f has at the cell that was found, and nothing where none was
abbrev pub at_found : (ℕ → List ℕ) → Option ℕ → List ℕ
at_found f found = option_map_or f found []

-- a leaf has its number alone, and any other cell the numbers ns
abbrev pub leaf_or : Option ℕ → List ℕ → List ℕ
leaf_or leaf ns = option_map_or (λ n. n ∷ []) leaf ns

-- the numbers of the edges of s by the last k codes, those from 258 - k up, where f has the numbers below a cell
unfoldable pub edge_numbers : (ℕ → List ℕ) → List Cell → ℕ → ℕ → List ℕ
edge_numbers f cs s zero = []
edge_numbers f cs s (suc k) = at_found f (child cs s (258 - suc k)) ++ edge_numbers f cs s k

-- the numbers below s by at most `left` codes: those of its edges in rising code order
unfoldable pub numbers_below : ℕ → List Cell → ℕ → List ℕ
numbers_below zero cs s = leaf_or (number (at cs s).base) []
numbers_below (suc left) cs s = leaf_or (number (at cs s).base) (edge_numbers (numbers_below left cs) cs s 257)

-- the numbers past the edges of s by at most `left` codes after each, in rising code order
abbrev pub numbers_past : ℕ → List Cell → ℕ → List ℕ
numbers_past left cs s = edge_numbers (numbers_below left cs) cs s 257

-- the numbers below the cell that the path p leads to
abbrev pub numbers_from : List Cell → List ℕ → List ℕ
numbers_from cs p = at_found (numbers_below (length cs) cs) (cell_at cs p)

-- how many of n places are left after ns, and none where they are too few
abbrev pub room_after : ℕ → List ℕ → Option ℕ
room_after n ns = cond (nat_le (length ns) n) (Some (n - length ns)) None
