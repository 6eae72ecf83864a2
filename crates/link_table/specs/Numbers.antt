-- Link numbers, and which of them are held.
use Rattle.std.specs.Prelude.{◌≡◌, ℕ, ◌<◌, ◌≤◌, List, length, Some, None, filter, Option, slice_index}
use Rattle.std.specs.List.{range_with_len}
use Rattle.std.specs.Option.{unwrap_or}
use Rattle.cells.specs.declared.Cell.{Cell}
use Rattle.cells.specs.Walking.{number_at}
use Rattle.double_array.specs.Spellings.{is_known}

-- the numbers that are held, in rising order
abbrev pub held_numbers : List ℕ → List ℕ
held_numbers is = filter (is_known is) (range_with_len 1 (length is))

-- the number of each held path is at most m
abbrev pub NumbersAtMost : List Cell → ℕ → Type 0
NumbersAtMost cs m = (p : List ℕ) → unwrap_or (number_at cs p) 0 ≤ m

-- the place r has the entry 0, or no place from n on has it
abbrev pub Vacant : List ℕ → ℕ → Option ℕ → Type 0
Vacant is n (Some r) = (r < length is) × (slice_index is r ≡ 0)
Vacant is n None = (k : ℕ) → k < length is → n ≤ k → 0 < slice_index is k
