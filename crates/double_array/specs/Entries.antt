-- Which paths can be entered, and what an entry leaves.
use Rattle.std.specs.Prelude.{◌≡◌, ℕ, ◌-◌, Bool, cond, not, ◌&&◌, List, [], ◌∷◌, length, Some, None, Ok, Err, Option, Result, ◌==◌, nat_lt, slice_index}
use Rattle.std.specs.Option.{option_map_or}
use Rattle.cells.specs.declared.Cell.{Cell}
use Rattle.cells.specs.Cells.{is_leaf, child, some_code, all_codes}
use Rattle.cells.specs.Placing.{Arrays, extend, enter}
use Rattle.cells.specs.Walking.{number_at}
use Rattle.cells.specs.Counting.{same_path}
use Rattle.double_array.specs.declared.faults.PathFault.{PathFault}
use Rattle.double_array.specs.declared.faults.PathFault.TheVariants as fault

-- a node, and what is left of a path there
pub record Followed : Type 0 where
  pub node : ℕ
  pub rest : List ℕ

-- the way goes on where an edge was found, and stops where none was
abbrev pub or_stop : Option ℕ → Followed → (ℕ → Followed) → Followed
or_stop found here on = option_map_or on found here

-- the edges of the path are followed from s as far as they go
abbrev pub follow : List Cell → ℕ → List ℕ → Followed
follow cs s [] = record { node = s; rest = [] }
follow cs s (a ∷ more) = or_stop (child cs s a) (record { node = s; rest = a ∷ more }) (λ t. follow cs t more)

-- whether it is a path: 1 to 129 codes
abbrev pub is_path : List ℕ → Bool
is_path p = nat_lt 0 (length p) && nat_lt (length p) 130 && all_codes p

-- whether the number u can be given: from 1 to 2,147,483,647, with no leaf in the index
abbrev pub is_open : List ℕ → ℕ → Bool
is_open is u = nat_lt 0 u && nat_lt u 2147483648 && slice_index is (u - 1) == 0

-- whether the path leaves the tree before its end, at a node that is no leaf
abbrev pub is_unblocked : List Cell → List ℕ → Bool
is_unblocked cs p = some_code (follow cs 1 p).rest && not (is_leaf cs (follow cs 1 p).node)

-- there is no place where the entry has no outcome
abbrev pub place_fault : Option Arrays → Option PathFault
place_fault None = Some fault.NoPlace
place_fault (Some xs) = None

-- the first refusal that applies to the path p and the number u
abbrev pub refusal : List Cell → List ℕ → List ℕ → ℕ → Option PathFault
refusal cs is p u =
    cond (is_path p) (cond (is_open is u)
    (cond (is_unblocked cs p) (place_fault (enter cs is p (u - 1))) (Some fault.Blocked)) (Some fault.Number))
    (Some fault.Path)

-- the path was entered by the placing rule, or it was refused and nothing changes
abbrev pub EntersPath : List Cell → List ℕ → List ℕ → ℕ → Result (Unit {0}) PathFault → List Cell → List ℕ → Type 0
EntersPath cs is p u (Ok _) xs js = (refusal cs is p u ≡ None)
    × (enter cs is p (u - 1) ≡ Some (record { cells = xs; index = js }))
EntersPath cs is p u (Err e) xs js = (refusal cs is p u ≡ Some e) × (xs ≡ cs) × (js ≡ is)

-- the path p is held with the number u, and each other path is as it was
abbrev pub Added : List Cell → List ℕ → ℕ → List Cell → Type 0
Added cs p u xs = (q : List ℕ) → number_at xs q ≡ cond (same_path q p) (Some u) (number_at cs q)

-- the codes lead from s to a new leaf with the number n + 1
abbrev pub extended : List ℕ → List Cell → List ℕ → ℕ → ℕ → Option Arrays
extended [] cs is s n = None
extended (a ∷ more) cs is s n = extend more cs is s a n

-- they do, or there is no place and nothing changes
abbrev pub Extended : List Cell → List ℕ → ℕ → List ℕ → ℕ → Result (Unit {0}) PathFault → List Cell → List ℕ → Type 0
Extended cs is s codes n (Ok _) xs js = extended codes cs is s n ≡ Some (record { cells = xs; index = js })
Extended cs is s codes n (Err e) xs js = (e ≡ fault.NoPlace) × (extended codes cs is s n ≡ None) × (xs ≡ cs) × (js ≡ is)
