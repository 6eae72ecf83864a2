-- Walking from the root along a path, and climbing from a cell to the root.
use Rattle.std.specs.Prelude.{ℕ, zero, suc, ◌-◌, Bool, false, cond, List, [], ◌∷◌, length, Some, None, Option, option_and_then, ◌==◌}
use Rattle.cells.specs.declared.Cell.{Cell}
use Rattle.cells.specs.Cells.{at, base_of, parent, number, child, all_codes}

-- the answer of f at what was found, and none where nothing was
abbrev pub onward : {X Y : Type 0} → Option X → (X → Option Y) → Option Y
onward o f = option_and_then f o

-- the cell that the codes lead to from s
abbrev pub walk : List Cell → ℕ → List ℕ → Option ℕ
walk cs s [] = Some s
walk cs s (a ∷ more) = onward (child cs s a) (λ t. walk cs t more)

-- the cell that the path leads to from the root
abbrev pub cell_at : List Cell → List ℕ → Option ℕ
cell_at cs p = cond (all_codes p) (walk cs 1 p) None

-- whether t was found
abbrev pub is_found : Option ℕ → ℕ → Bool
is_found None t = false
is_found (Some u) t = u == t

-- the number of the leaf that the path leads to
abbrev pub number_at : List Cell → List ℕ → Option ℕ
number_at cs p = onward (cell_at cs p) (λ t. number (at cs t).base)

-- p turned round, before q
abbrev pub turned : List ℕ → List ℕ → List ℕ
turned [] q = q
turned (a ∷ p) q = turned p (a ∷ q)

-- the codes on the way from t up to the root, in at most n steps, before q: so they stand in the order of the path
abbrev pub climb : ℕ → List Cell → ℕ → List ℕ → List ℕ
climb zero cs t q = q
climb (suc n) cs t q = cond (t == 1) q (climb n cs (parent cs t) ((t - base_of cs (parent cs t)) ∷ q))

-- the path to t, read upward from t by CHECK
abbrev pub path_to : List Cell → ℕ → List ℕ
path_to cs t = climb (length cs) cs t []
