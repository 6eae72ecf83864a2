-- How many cells are in use, the held paths, and the beginnings of paths.
use Rattle.std.specs.Prelude.{ℕ, ◌-◌, Bool, true, false, cond, ◌&&◌, ◌||◌, List, [], ◌∷◌, ◌++◌, length, map, filter, ◌==◌, nat_lt}
use Rattle.std.specs.List.{range_with_len}
use Rattle.cells.specs.declared.Cell.{Cell}
use Rattle.cells.specs.Cells.{parent, is_leaf}
use Rattle.cells.specs.Walking.{path_to}

-- the cells in use, from 1 up
abbrev pub used : List Cell → List ℕ
used cs = filter (λ t. nat_lt 0 (parent cs t)) (range_with_len 1 (length cs - 1))

-- how many cells are in use
abbrev pub in_use : List Cell → ℕ
in_use cs = length (used cs)

-- the held paths: the one that climbing spells from each leaf among the cells in use
abbrev pub held_paths : List Cell → List (List ℕ)
held_paths cs = map (path_to cs) (filter (is_leaf cs) (used cs))

-- whether two paths are equal
abbrev pub same_path : List ℕ → List ℕ → Bool
same_path [] [] = true
same_path [] (b ∷ q) = false
same_path (a ∷ p) [] = false
same_path (a ∷ p) (b ∷ q) = a == b && same_path p q

-- whether p is one of the paths
abbrev pub has : List (List ℕ) → List ℕ → Bool
has [] p = false
has (q ∷ qs) p = same_path p q || has qs p

-- the paths with p, once
abbrev pub with_beginning : List ℕ → List (List ℕ) → List (List ℕ)
with_beginning p bs = cond (has bs p) bs (p ∷ bs)

-- bs with q and each longer beginning of the path q ++ p
abbrev pub add_beginnings : List ℕ → List ℕ → List (List ℕ) → List (List ℕ)
add_beginnings q [] bs = bs
add_beginnings q (a ∷ p) bs = with_beginning (q ++ a ∷ []) (add_beginnings (q ++ a ∷ []) p bs)

-- the different beginnings of the paths, but for the empty one
abbrev pub beginnings : List (List ℕ) → List (List ℕ)
beginnings [] = []
beginnings (k ∷ ks) = add_beginnings [] k (beginnings ks)
