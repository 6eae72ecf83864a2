-- The child codes of a node, and the room that a search has found for them.
use Rattle.std.proofs.Common.{◌≡◌, ℕ, zero, suc, ◌+◌, ◌<◌, true, false, cond, ◌&&◌, ltb, List, [], ◌∷◌, ◌++◌, length, get_or, is_some, refl, ap, ◌∙◌, subst, inl, arith}
use Rattle.std.proofs.lemmas.Bool.{both_ways}
use Rattle.cells.specs.declared.Cell.{Cell}
use Rattle.cells.specs.Cells.{nat, base_of, parent, child, codes_below, some_code}
use Rattle.cells.specs.Placing.{AllFree}
use Rattle.cells.specs.Trees.{Edge, Room}
use Rattle.cells.proofs.Trees.{Tree, Lone, Family}
use Rattle.members.proofs.Members.{in_at, at_in}
use Rattle.cells.proofs.Paths.{edge_up, reach_some}
use Rattle.cells.proofs.Counts.{within}

-- what the search for a base has found is room
pub room_from : (cs : List Cell) (codes : List ℕ) (e : ℕ) → AllFree cs codes e → Room cs codes e
room_from cs codes e all a i =
    let h = at_in codes a 0 i in
    let k = all h.0 h.1 in
    subst (λ x. (e + x < length cs) × (parent cs (e + x) ≡ 0)) h.2 (k.0, ap nat k.2)

-- the children of a node lie in the array
pub old_within : (cs : List Cell) (s : ℕ) (codes : List ℕ) → Tree cs → 0 < parent cs s → Family cs s codes → (k : ℕ) → k < length codes → base_of cs s + get_or codes k 0 < length cs
old_within cs s codes tree used fam k h =
    let a : ℕ = get_or codes k 0 in
    let e = fam.sound a (in_at codes k 0 h) in
    within cs (base_of cs s + a) (omega (arith, edge_up cs s a (base_of cs s + a) e, reach_some cs (tree.reach s used).0 s (tree.reach s used).1))

-- a node with a code has a child, and one without has none
pub inner_of : (cs : List Cell) (s : ℕ) (codes : List ℕ) → Family cs s codes → some_code codes ≡ true → 0 < base_of cs s
inner_of cs s [] fam e = absurd (both_ways false refl e)
inner_of cs s (c ∷ more) fam e = (fam.sound c (inl refl)).inner

pub first_of : (cs : List Cell) (s : ℕ) (codes : List ℕ) → Family cs s codes → some_code codes ≡ true → (a : ℕ) × (u : ℕ) × Edge cs s a u
first_of cs s [] fam e = absurd (both_ways false refl e)
first_of cs s (c ∷ more) fam e = (c, base_of cs s + c, fam.sound c (inl refl))

pub none_of : (cs : List Cell) (s : ℕ) (codes : List ℕ) → Family cs s codes → some_code codes ≡ false → Lone cs s
none_of cs s [] fam e a u k = fam.whole a u k
none_of cs s (c ∷ more) fam e a u k = absurd (both_ways true e refl)

pub some_of : (cs : List Cell) (s : ℕ) (codes : List ℕ) → Family cs s codes → (a u : ℕ) → Edge cs s a u → some_code codes ≡ true
some_of cs s [] fam a u k = absurd (fam.whole a u k)
some_of cs s (c ∷ more) fam a u k = refl

pub lone_codes : (cs : List Cell) (s : ℕ) (codes : List ℕ) → Family cs s codes → Lone cs s → codes ≡ []
lone_codes cs s [] fam lone = refl
lone_codes cs s (c ∷ more) fam lone = absurd (lone c (base_of cs s + c) (fam.sound c (inl refl)))

-- the child codes depend on which children there are
pub codes_same : (cs es : List Cell) (s n : ℕ) → ((a : ℕ) → 0 < a → a < n → is_some (child cs s a) ≡ is_some (child es s a)) → codes_below cs s n ≡ codes_below es s n
unfolding codes_below
codes_same cs es s zero h = refl
codes_same cs es s (suc zero) h = refl
codes_same cs es s (suc (suc n)) h =
    ap (λ l. l ++ cond (ltb 0 (suc n) && is_some (child cs s (suc n))) (suc n ∷ []) []) (codes_same cs es s (suc n) (λ a lo hi. h a lo (omega arith)))
    ∙ ap (λ b. codes_below es s (suc n) ++ cond (ltb 0 (suc n) && b) (suc n ∷ []) []) (h (suc n) (omega arith) (omega arith))
