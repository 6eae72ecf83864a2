-- The placing rule: how a node gets a child, a family moves, and a path is entered.
use Rattle.std.specs.Prelude.{◌≡◌, ℕ, zero, suc, ◌+◌, ◌<◌, ◌≤◌, Bool, true, cond, ◌&&◌, List, [], ◌∷◌, ◌++◌, map, length, ℤ, pos, negsuc, Some, None, Option, ◌==◌, int_lt, nat_lt, slice_index, slice_set}
use Rattle.std.specs.Option.{option_map_or}
use Rattle.std.specs.List.{range_with_len}
use Rattle.cells.specs.declared.Cell.{Cell}
use Rattle.cells.specs.Cells.{free_cell, at, nat, base_of, parent, entry, same_int, is_free, is_leaf, child, child_codes, some_code, all_codes}
use Rattle.cells.specs.Walking.{onward}

-- whether each of the codes has a free cell at the base b
abbrev pub all_free : List Cell → List ℕ → ℕ → Bool
all_free cs [] b = true
all_free cs (a ∷ more) b = is_free cs (b + a) && all_free cs more b

-- the first of n numbers from b up that passes the test
abbrev pub first_from : (ℕ → Bool) → ℕ → ℕ → Option ℕ
first_from p b zero = None
first_from p b (suc n) = cond (p b) (Some b) (first_from p (b + 1) n)

-- the lowest base from 1 up at which each of the codes has a free cell
abbrev pub lowest : List Cell → List ℕ → Option ℕ
lowest cs codes = first_from (all_free cs codes) 1 (length cs)

-- t is below the length and free
abbrev pub Free : List Cell → ℕ → Type 0
Free cs t = (t < length cs) × ((at cs t).base ≡ pos 0) × ((at cs t).check ≡ pos 0)

-- each of the first n codes has a free cell at the base b
abbrev pub FreeUpTo : List Cell → List ℕ → ℕ → ℕ → Type 0
FreeUpTo cs codes b n = (k : ℕ) → k < n → Free cs (b + slice_index codes k)

-- each of the codes has a free cell at the base b
abbrev pub AllFree : List Cell → List ℕ → ℕ → Type 0
AllFree cs codes b = FreeUpTo cs codes b (length codes)

-- no base from 1 up and below n has a free cell for each of the codes
abbrev pub NoneBelow : List Cell → List ℕ → ℕ → Type 0
NoneBelow cs codes n = (b : ℕ) → b < n → 1 ≤ b → AllFree cs codes b → ⊥

-- r is the lowest base from 1 up at which each of the codes has a free cell, or none where there is no such base
abbrev pub Lowest : List Cell → List ℕ → Option ℕ → Type 0
Lowest cs codes None = (b : ℕ) → 1 ≤ b → AllFree cs codes b → ⊥
Lowest cs codes (Some r) = (1 ≤ r) × AllFree cs codes r × NoneBelow cs codes r

-- whether j is a cell of the parent f at the base b, by a code from 1 up and below n
abbrev pub under : List Cell → ℕ → ℕ → ℕ → ℕ → Bool
under cs b f n j = nat_lt b j && nat_lt j (b + n) && same_int (at cs j).check (pos f)

-- what the cell j holds once the cells of the parent f, at the base b and by codes below n, have the parent t
abbrev pub repointed : List Cell → ℕ → ℕ → ℕ → ℕ → ℕ → Cell
repointed cs b f t n j = cond (under cs b f n j) (record { base = (at cs j).base; check = pos t }) (at cs j)

-- what the cell j holds after the node in the cell f has moved to t, and its children's CHECK has followed
abbrev pub moved : List Cell → ℕ → ℕ → ℕ → Cell
moved cs f t j =
    cond (j == f) free_cell
    (cond (j == t) (at cs f)
    (cond (int_lt (pos 0) (at cs f).base) (repointed cs (nat (at cs f).base) f t 258 j) (at cs j)))

-- the cells after the node in f has moved to t
unfoldable pub moved_list : List Cell → ℕ → ℕ → List Cell
moved_list cs f t = map (moved cs f t) (range_with_len 0 (length cs))

-- the cells after the nodes at the base b, by the codes in their order, have moved to the base e
abbrev pub moves : ℕ → ℕ → List Cell → List ℕ → List Cell
moves b e cs [] = cs
moves b e cs (a ∷ more) = moves b e (moved_list cs (b + a) (e + a)) more

-- the index after the node with the BASE z has moved to t: a leaf's entry follows
abbrev pub reindexed : List ℕ → ℤ → ℕ → List ℕ
reindexed is z t = cond (int_lt z (pos 0)) (slice_set is (entry z) t) is

-- the index after the nodes at the base b, by the codes in their order, have moved to the base e
abbrev pub index_moves : ℕ → ℕ → List Cell → List ℕ → List ℕ → List ℕ
index_moves b e cs is [] = is
index_moves b e cs is (a ∷ more) =
    index_moves b e (moved_list cs (b + a) (e + a)) (reindexed is (at cs (b + a)).base (e + a)) more

-- the cells after s, whose children have the codes, has got the BASE e, to which they move
abbrev pub relocated : List Cell → ℕ → List ℕ → ℕ → List Cell
relocated cs s codes e =
    let ds = moves (base_of cs s) e cs codes in
    slice_set ds s (record { base = pos e; check = (at ds s).check })

-- the index after that
abbrev pub index_relocated : List Cell → List ℕ → ℕ → List ℕ → ℕ → List ℕ
index_relocated cs is s codes e = index_moves (base_of cs s) e cs is codes

-- the cells after s has moved its family to the base e, and got a child by a there with the BASE z
abbrev pub placed : List Cell → ℕ → List ℕ → ℕ → ℕ → ℤ → List Cell
placed cs s codes e a z = slice_set (relocated cs s codes e) (e + a) (record { base = z; check = pos s })

-- the cells and the index
pub record Arrays : Type 0 where
  pub cells : List Cell
  pub index : List ℕ

-- the cells and the index, and the cell of the node that was placed last
pub record Spot : Type 0 where
  pub cells : List Cell
  pub index : List ℕ
  pub spot : ℕ

-- a child at the base that was found, none where none was
abbrev pub placed_at : List Cell → List ℕ → ℕ → List ℕ → ℕ → ℤ → Option ℕ → Option Spot
placed_at cs is s codes a z None = None
placed_at cs is s codes a z (Some e) =
    Some (record { cells = placed cs s codes e a z; index = index_relocated cs is s codes e; spot = e + a })

-- s gets a child by the code a, with the BASE z: at the BASE that s has, if it has children and the cell is free there,
-- and else at the lowest base that suits them all
abbrev pub place : List Cell → List ℕ → ℕ → ℕ → ℤ → Option Spot
place cs is s a z =
    let codes = child_codes cs s in
    let t = base_of cs s + a in
    cond (some_code codes && is_free cs t)
    (Some (record { cells = slice_set cs t (record { base = z; check = pos s }); index = is; spot = t }))
    (placed_at cs is s codes a z (lowest cs (codes ++ a ∷ [])))

-- s gets a child by a, that one a child by the next of the codes, and so on; the last has the BASE z, and those above
-- it are open (BASE 0) until they get their child
abbrev pub grow : List ℕ → List Cell → List ℕ → ℕ → ℕ → ℤ → Option Spot
grow [] cs is s a z = place cs is s a z
grow (b ∷ more) cs is s a z = onward (place cs is s a (pos 0)) (λ r. grow more r.cells r.index r.spot b z)

-- the codes a and more lead from s to a new leaf with the number n + 1
abbrev pub extend : List ℕ → List Cell → List ℕ → ℕ → ℕ → ℕ → Option Arrays
extend more cs is s a n =
    onward (grow more cs is s a (negsuc n)) (λ r. Some (record { cells = r.cells; index = slice_set r.index n r.spot }))

-- one answer where nothing was found, and f at what was
abbrev pub found_or : Option ℕ → Option Arrays → (ℕ → Option Arrays) → Option Arrays
found_or found other f = option_map_or f found other

-- the path is entered from s on, with the number n + 1: the edges that are there are followed; at the first code
-- without one s gets the new child, unless s is a leaf
abbrev pub enter_from : List Cell → List ℕ → ℕ → List ℕ → ℕ → Option Arrays
enter_from cs is s [] n = None
enter_from cs is s (a ∷ more) n = found_or (child cs s a) (cond (is_leaf cs s) None (extend more cs is s a n))
    (λ t. enter_from cs is t more n)

-- the cells and the index after the path was entered with the number n + 1: none where it has no place, is empty or no
-- path of codes, runs through a leaf, or is there already
abbrev pub enter : List Cell → List ℕ → List ℕ → ℕ → Option Arrays
enter cs is p n = cond (all_codes p) (enter_from cs is 1 p n) None

-- the cells after n cells were freed, from t up
abbrev pub freed_up : ℕ → List Cell → ℕ → List Cell
freed_up zero cs t = cs
freed_up (suc n) cs t = freed_up n (slice_set cs t free_cell) (parent cs t)

-- the cells and the index after the family of s has moved back to the base b, if it is at another
abbrev pub moved_back : List Cell → List ℕ → ℕ → ℕ → Arrays
moved_back cs is s b =
    cond (base_of cs s == b) (record { cells = cs; index = is })
    (record { cells = relocated cs s (child_codes cs s) b; index = index_relocated cs is s (child_codes cs s) b })

-- an entry is undone: the n new cells are freed from the tip t up, and the family of s, whose BASE was b, moves back
abbrev pub undo : List Cell → List ℕ → ℕ → ℕ → ℕ → ℕ → Arrays
undo cs is s b n t = moved_back (freed_up n cs t) is s b
