-- Cells, and what an array of them says.
use Rattle.std.specs.Prelude.{ℕ, zero, suc, ◌+◌, ◌-◌, Bool, true, false, cond, ◌&&◌, List, [], ◌∷◌, ◌++◌, length, map, ℤ, pos, negsuc, is_some, Some, None, Option, ◌==◌, int_lt, nat_le, nat_lt, slice_index_or}
use Rattle.cells.specs.declared.Cell.{Cell}

-- a free cell
abbrev pub free_cell : Cell
free_cell = record { base = pos 0; check = pos 0 }

-- the root while it has no children
abbrev pub root_cell : Cell
root_cell = record { base = pos 1; check = pos 1 }

-- the cell t, and a free one past the end
abbrev pub at : List Cell → ℕ → Cell
at cs t = slice_index_or cs t free_cell

-- a signed number as a natural one: 0 where it is negative
abbrev pub nat : ℤ → ℕ
nat (pos n) = n
nat (negsuc n) = 0

-- the BASE of s as a natural number: 0 in a leaf and in a free cell
abbrev pub base_of : List Cell → ℕ → ℕ
base_of cs s = nat (at cs s).base

-- the CHECK of t as a natural number, its parent: 0 in a free cell
abbrev pub parent : List Cell → ℕ → ℕ
parent cs t = nat (at cs t).check

-- the number of the leaf whose BASE is z: none where z is not negative
abbrev pub number : ℤ → Option ℕ
number (pos n) = None
number (negsuc n) = Some (suc n)

-- the index entry of the leaf whose BASE is z
abbrev pub entry : ℤ → ℕ
entry (pos n) = 0
entry (negsuc n) = n

-- whether two signed numbers are equal
abbrev pub same_int : ℤ → ℤ → Bool
same_int (pos a) (pos b) = a == b
same_int (pos a) (negsuc b) = false
same_int (negsuc a) (pos b) = false
same_int (negsuc a) (negsuc b) = a == b

-- whether t is below the length and free
abbrev pub is_free : List Cell → ℕ → Bool
is_free cs t = nat_lt t (length cs) && same_int (at cs t).base (pos 0) && same_int (at cs t).check (pos 0)

-- whether s is a leaf
abbrev pub is_leaf : List Cell → ℕ → Bool
is_leaf cs s = int_lt (at cs s).base (pos 0)

-- whether an edge leads from s to t, where t is the BASE of s and a code
abbrev pub edge : List Cell → ℕ → ℕ → Bool
edge cs s t = int_lt (pos 0) (at cs s).base && nat_lt t (length cs) && same_int (at cs t).check (pos s)

-- the cell that the edge by the code a leads to from s
abbrev pub child : List Cell → ℕ → ℕ → Option ℕ
child cs s a = let t = nat (at cs s).base + a in cond (edge cs s t) (Some t) None

-- the codes from 1 up and below n by which s has a child, in rising order
unfoldable pub codes_below : List Cell → ℕ → ℕ → List ℕ
codes_below cs s zero = []
codes_below cs s (suc n) = codes_below cs s n ++ cond (nat_lt 0 n && is_some (child cs s n)) (n ∷ []) []

-- the codes by which s has a child, in rising order
abbrev pub child_codes : List Cell → ℕ → List ℕ
child_codes cs s = codes_below cs s 258

-- whether there is a code
abbrev pub some_code : List ℕ → Bool
some_code [] = false
some_code (a ∷ more) = true

-- whether a is the code of the end sign, 1, or of a label, 2 to 257
abbrev pub is_code : ℕ → Bool
is_code a = nat_lt 0 a && nat_lt a 258

-- whether each of them is a code
abbrev pub all_codes : List ℕ → Bool
all_codes [] = true
all_codes (a ∷ more) = is_code a && all_codes more

-- the code of the label b
abbrev pub label_code : ℕ → ℕ
label_code b = b + 2

-- the label of the code a: none where it is the code of no label
abbrev pub label_of : ℕ → Option ℕ
label_of a = cond (nat_le 2 a && nat_lt a 258) (Some (a - 2)) None

-- the path of labels: the code of each, and no end sign
abbrev pub path_of_labels : List ℕ → List ℕ
path_of_labels labels = map label_code labels
