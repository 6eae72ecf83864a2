-- Triples as paths: how a triple is coded in labels.
use Rattle.std.specs.Prelude.{◌≡◌, ℕ, ◌+◌, ◌-◌, ◌*◌, ◌/◌, ◌%◌, Bool, true, ◌&&◌, List, [], ◌∷◌, length, is_some, ◌==◌, nat_le, slice_index}
use Rattle.cells.specs.declared.Cell.{Cell}
use Rattle.cells.specs.Cells.{path_of_labels}
use Rattle.cells.specs.Walking.{number_at}
use Rattle.link_table.specs.declared.triple.Triple.{Triple}

-- the code of a triple: the relation between the two bytes of x and the two of y, each number's upper byte first
abbrev pub code_of : Triple → List ℕ
code_of t = (t.x / 256) ∷ (t.x % 256) ∷ t.relation ∷ (t.y / 256) ∷ (t.y % 256) ∷ []

-- the path of a triple: that of its code, with no end sign
abbrev pub path_of_triple : Triple → List ℕ
path_of_triple t = path_of_labels (code_of t)

-- the triple of a path
abbrev pub triple_of : List ℕ → Triple
triple_of p = record {
  x = (slice_index p 0 - 2) * 256 + (slice_index p 1 - 2);
  relation = slice_index p 2 - 2;
  y = (slice_index p 3 - 2) * 256 + (slice_index p 4 - 2);
}

-- whether each of them is 2 or more, as the code of a label is
abbrev pub all_labels : List ℕ → Bool
all_labels [] = true
all_labels (a ∷ more) = nat_le 2 a && all_labels more

-- whether it is five codes of 2 or more, as the path of five labels is
abbrev pub is_triple_path : List ℕ → Bool
is_triple_path p = length p == 5 && all_labels p

-- each held path is that of five labels
abbrev pub Triples : List Cell → Type 0
Triples cs = (p : List ℕ) → is_some (number_at cs p) ≡ true → is_triple_path p ≡ true
