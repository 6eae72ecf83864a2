-- What a link table means, and what its calls leave.
use Rattle.std.specs.Prelude.{◌≡◌, ℕ, ◌+◌, ◌-◌, ◌<◌, ◌≤◌, min, Bool, true, cond, List, length, is_some, Some, None, Ok, Err, Option, Result, ◌==◌, ◌≢◌, slice_index}
use Rattle.link_table.specs.declared.faults.LinkFault.{LinkFault}
use Rattle.link_table.specs.declared.faults.LinkFault.TheVariants.{TriplePresent, TripleAbsent, NoPlace, NumbersHeld}
use Rattle.cells.specs.Cells.{at}
use Rattle.cells.specs.Laws.{cleared}
use Rattle.cells.specs.Placing.{enter}
use Rattle.members.specs.Lists.{In, Apart}
use Rattle.cells.specs.Pruning.{take_out}
use Rattle.cells.specs.Walking.{number_at}
use Rattle.double_array.specs.Spellings.{is_known, path_of}
use Rattle.double_array.specs.Views.{cells_of, index_of}
use Rattle.link_table.specs.Codes.{path_of_triple, triple_of}
use Rattle.link_table.specs.Numbers.{held_numbers}
use Rattle.link_table.specs.declared.triple.Triple.{Triple}
use Rattle.link_table.specs.declared.table.LinkTable.{LinkTable}

-- the most link numbers that can be held
abbrev pub limit : LinkTable → ℕ
limit s = length (index_of s.array)

-- the number of the triple: walking the cells along its code
abbrev pub found : LinkTable → Triple → Option ℕ
found s t = number_at (cells_of s.array) (path_of_triple t)

-- the triple of the number u: climbing from the leaf that the index gives
abbrev pub coded : LinkTable → ℕ → Option Triple
coded s u = cond (is_known (index_of s.array) u)
    (Some (triple_of (path_of (cells_of s.array) (index_of s.array) u))) None

-- the numbers that present triples have, in rising order
abbrev pub numbers : LinkTable → List ℕ
numbers s = held_numbers (index_of s.array)

-- whether every number is held
abbrev pub all_held : LinkTable → Bool
all_held s = length (numbers s) == limit s

-- whether the placing rule finds every place of the triple's code; which number the leaf gets does not matter
abbrev pub has_place : LinkTable → Triple → Bool
has_place s t = is_some (enter (cells_of s.array) (index_of s.array) (path_of_triple t) 0)

-- what holds of every table
pub record IsConsistent (s : LinkTable) : Type 0 where
  -- number and triple are inverse
  pub to_triple : (t : Triple) (u : ℕ) → found s t ≡ Some u → coded s u ≡ Some t
  pub to_number : (t : Triple) (u : ℕ) → coded s u ≡ Some t → found s t ≡ Some u
  -- numbers are from 1 to the limit, which is at most 1,048,575
  pub bounds : (t : Triple) (u : ℕ) → coded s u ≡ Some t → (1 ≤ u) × (u ≤ limit s)
  pub few : limit s ≤ 1048575
  -- the numbers that are counted are those of the present triples, each once
  pub counted : (u : ℕ) → is_some (coded s u) ≡ true → In (numbers s) u
  pub present : (u : ℕ) → In (numbers s) u → is_some (coded s u) ≡ true
  pub apart : Apart (numbers s)
  -- every path that is held is a triple's
  pub only : (p : List ℕ) (u : ℕ) → number_at (cells_of s.array) p ≡ Some u → path_of_triple (triple_of p) ≡ p

-- a table newly made of n cells, k index entries and so many records: every cell free but the root, every entry 0, and
-- no triple
pub record IsNewTable (n k records : ℕ) (s : LinkTable) : Type 0 where
  pub cells_long : length (cells_of s.array) ≡ min n 1048576
  pub cells_clear : (j : ℕ) → j < length (cells_of s.array) → at (cells_of s.array) j ≡ cleared j
  pub limit_is : limit s ≡ min (min records k) 1048575
  pub index_zero : (n : ℕ) → slice_index (index_of s.array) n ≡ 0
  pub no_triple : (t : Triple) → found s t ≡ None
  pub no_number : (u : ℕ) → coded s u ≡ None
  pub none_held : length (numbers s) ≡ 0

-- the table t is s with a triple more, which has the number u: its arrays are what the placing rule leaves
pub record Put (s : LinkTable) (triple : Triple) (u : ℕ) (t : LinkTable) : Type 0 where
  pub arrays_after : enter (cells_of s.array) (index_of s.array) (path_of_triple triple)
      (u - 1) ≡ Some (record { cells = cells_of t.array; index = index_of t.array })
  -- the number is from 1 to the limit, and no present triple has it
  pub number_low : 1 ≤ u
  pub number_high : u ≤ limit s
  pub number_open : coded s u ≡ None
  -- it is the triple's now, and each other triple and number is as it was
  pub here : found t triple ≡ Some u
  pub others : (q : Triple) → (q ≢ triple) → found t q ≡ found s q
  pub here_coded : coded t u ≡ Some triple
  pub others_coded : (v : ℕ) → (v ≢ u) → coded t v ≡ coded s v
  pub limit_same : limit t ≡ limit s
  pub one_more : length (numbers t) ≡ length (numbers s) + 1

-- the table t is s without the triple, which had the number u: its arrays are what pruning leaves
pub record Out (s : LinkTable) (triple : Triple) (u : ℕ) (t : LinkTable) : Type 0 where
  pub arrays_after : take_out (cells_of s.array) (index_of s.array)
      (path_of_triple triple) ≡ Some (record { cells = cells_of t.array; index = index_of t.array })
  pub had : found s triple ≡ Some u
  -- neither is there now, and each other triple and number is as it was
  pub gone : found t triple ≡ None
  pub others : (q : Triple) → (q ≢ triple) → found t q ≡ found s q
  pub gone_coded : coded t u ≡ None
  pub others_coded : (v : ℕ) → (v ≢ u) → coded t v ≡ coded s v
  pub limit_same : limit t ≡ limit s
  pub one_less : length (numbers t) + 1 ≡ length (numbers s)

-- the first refusal of putting a triple that applies: it is present, all numbers are held, or its code has no place
abbrev pub put_refusal : LinkTable → Triple → Option LinkFault
put_refusal s t = cond (is_some (found s t)) (Some TriplePresent)
    (cond (all_held s) (Some NumbersHeld) (cond (has_place s t) None (Some NoPlace)))

-- a triple was put and has the number u, or it was refused and the table is the very same
abbrev pub Puts : LinkTable → Triple → Result ℕ LinkFault → LinkTable → Type 0
Puts s triple (Ok u) t = (put_refusal s triple ≡ None) × Put s triple u t
Puts s triple (Err e) t = (put_refusal s triple ≡ Some e) × (t ≡ s)

-- a triple was taken out and had the number u, or it is not present and the table is the very same
abbrev pub Takes : LinkTable → Triple → Result ℕ LinkFault → LinkTable → Type 0
Takes s triple (Ok u) t = Out s triple u t
Takes s triple (Err e) t = (found s triple ≡ None) × (e ≡ TripleAbsent) × (t ≡ s)
