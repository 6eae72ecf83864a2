-- The index: which cell is the leaf of a number.
use Rattle.std.specs.Prelude.{◌≡◌, ℕ, ◌<◌, true, List, length, negsuc, slice_index}
use Rattle.cells.specs.declared.Cell.{Cell}
use Rattle.cells.specs.Cells.{at, entry, is_leaf}

-- the entry of each leaf's number, if the index has it, is the leaf's cell
abbrev pub Leads : List Cell → List ℕ → Type 0
Leads cs is = (t : ℕ) → is_leaf cs t ≡ true → entry (at cs t).base < length is
    → slice_index is (entry (at cs t).base) ≡ t

-- an entry that is not 0 is the cell of the leaf of its number
abbrev pub IndexLeads : List Cell → List ℕ → Type 0
IndexLeads cs is = (n : ℕ) → 0 < slice_index is n → (at cs (slice_index is n)).base ≡ negsuc n
