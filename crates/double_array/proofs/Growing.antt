-- A path that grows from a node, one cell more, and what is known when it is undone.
use Rattle.std.proofs.Common.{◌≡◌, ℕ, zero, suc, ◌+◌, ◌<◌, ◌≤◌, true, eqb, ◌⊎◌, List, [], ◌∷◌, ◌++◌, length, get_or, take, drop, set, ℤ, pos, negsuc, Some, None, Option, sym, refl, ap, ◌∙◌, subst, inl, inr, ⊎_elim, arith}
use Rattle.std.proofs.lemmas.List.{at_drop_more, at_drop_all, take_more, length-take-le, get_or-take}
use Rattle.std.proofs.lemmas.Bool.{cases_eq, cond-true, eq-eqb, and_parts, and_from}
use Rattle.cells.specs.declared.Cell.{Cell}
use Rattle.cells.specs.Cells.{at, base_of, parent, child, child_codes, is_code, all_codes}
use Rattle.cells.specs.Placing.{Spot, place, grow, freed_up, relocated, undo}
use Rattle.members.specs.Lists.{In}
use Rattle.cells.specs.Trees.{Reach}
use Rattle.cells.specs.Invariant.{Sound}
use Rattle.cells.specs.Laws.{Open}
use Rattle.cells.specs.Walking.{onward}
use Rattle.cells.proofs.Trees.{Tree, NotLeaf, Family}
use Rattle.cells.proofs.Paths.{edge_up, reach_some}
use Rattle.cells.proofs.Counts.{within}
use Rattle.cells.proofs.Renamings.{up_used}
use Rattle.cells.proofs.Climbs.{codes_from}
use Rattle.cells.proofs.Walks.{listing}
use Rattle.members.proofs.Members.{in_at}
use Rattle.cells.proofs.Returns.{family_after}
use Rattle.cells.proofs.Sounds.{Tidy, tidy_of, reach_of, inner_is, inner_base}
use Rattle.cells.proofs.Grows.{Here, There, some_same, then_some, grow_well}
use Rattle.cells.proofs.Undoes.{mid_of, steps, steps_is, grow_freed, fresh_from, undoing}
use Rattle.double_array.specs.Outcomes.{Parented}
use Rattle.double_array.specs.Entries.{extended}
use Rattle.double_array.proofs.Codes.{codes_within}

-- the codes of a list grow from the last node, the last of them with the BASE z
abbrev pub grow_on : List ℕ → ℤ → Spot → Option Spot
grow_on [] z r = Some r
grow_on (a ∷ more) z r = grow more r.cells r.index r.spot a z

-- the BASE of a new node, with the codes that are to come below it
abbrev pub step_base : List ℕ → ℤ → ℤ
step_base [] z = z
step_base (b ∷ more) z = pos 0

then_all : (o : Option Spot) → o ≡ onward o Some
then_all None = refl
then_all (Some r) = refl

grow_at : (a : ℕ) (more : List ℕ) (z : ℤ) (r : Spot) → grow_on (a ∷ more) z r ≡ onward (place r.cells r.index r.spot a (step_base more z)) (grow_on more z)
grow_at a [] z r = then_all (place r.cells r.index r.spot a z)
grow_at a (b ∷ more) z r = refl

module _ (codes : List ℕ) (i : ℕ) (z : ℤ) where
  pub step_more : i + 1 < length codes → step_base (drop (i + 1) codes) z ≡ pos 0
  step_more h = at_drop_more (λ l. step_base l z) codes (i + 1) 0 h

  pub step_last : length codes ≤ i + 1 → step_base (drop (i + 1) codes) z ≡ z
  step_last h = at_drop_all (λ l. step_base l z) codes (i + 1) h

  module _ (r : Spot) (y : ℤ) (within : i < length codes) (base : y ≡ step_base (drop (i + 1) codes) z) where
    pub grow_next : (o : Option Spot) → place r.cells r.index r.spot (get_or codes i 0) y ≡ o → onward o (grow_on (drop (i + 1) codes) z) ≡ grow_on (drop i codes) z r
    grow_next o e =
        ap (λ x. onward x (grow_on (drop (i + 1) codes) z)) (sym e ∙ ap (place r.cells r.index r.spot (get_or codes i 0)) base)
        ∙ sym (at_drop_more (λ l. grow_on l z r) codes i 0 within ∙ grow_at (get_or codes i 0) (drop (i + 1) codes) z r)

same_base : (xs : List ℕ) → step_base xs (pos 0) ≡ pos 0
same_base [] = refl
same_base (x ∷ xs) = refl

grow_first : (x : ℕ) (xs : List ℕ) (r : Spot) → grow_on (x ∷ xs) (pos 0) r ≡ onward (place r.cells r.index r.spot x (pos 0)) (grow_on xs (pos 0))
grow_first x xs r = grow_at x xs (pos 0) r ∙ ap (λ z. onward (place r.cells r.index r.spot x z) (grow_on xs (pos 0))) (same_base xs)

grow_push : (xs : List ℕ) (a : ℕ) (st r f : Spot) → grow_on xs (pos 0) st ≡ Some r → place r.cells r.index r.spot a (pos 0) ≡ Some f → grow_on (xs ++ a ∷ []) (pos 0) st ≡ Some f
grow_push [] a st r f e p = subst (λ x. place x.cells x.index x.spot a (pos 0) ≡ Some f) (sym (some_same st r e)) p
grow_push (x ∷ xs) a st r f e p =
    let k = then_some (place st.cells st.index st.spot x (pos 0)) (grow_on xs (pos 0)) r (sym (grow_first x xs st) ∙ e) in
    grow_first x (xs ++ a ∷ []) st ∙ ap (λ o. onward o (grow_on (xs ++ a ∷ []) (pos 0))) k.1 ∙ grow_push xs a k.0 r f k.2 p

-- one more of the codes has grown
pub grow_more : (codes : List ℕ) (i : ℕ) (st r f : Spot) → i < length codes → grow_on (take i codes) (pos 0) st ≡ Some r → place r.cells r.index r.spot (get_or codes i 0) (pos 0) ≡ Some f → grow_on (take (i + 1) codes) (pos 0) st ≡ Some f
grow_more codes i st r f within e p = ap (λ l. grow_on l (pos 0) st) (take_more codes i 0 within) ∙ grow_push (take i codes) (get_or codes i 0) st r f e p

-- all of them have grown, or one has no place
pub extended_is : (codes : List ℕ) (cs : List Cell) (is : List ℕ) (s n : ℕ) (o : Option Spot) → 0 < length codes → grow_on codes (negsuc n) (record { cells = cs; index = is; spot = s }) ≡ o
    → extended codes cs is s n ≡ onward o (λ r. Some (record { cells = r.cells; index = set r.index n r.spot }))
extended_is [] cs is s n o some e = absurd (omega arith)
extended_is (a ∷ more) cs is s n o some e = ap (λ x. onward x (λ r. Some (record { cells = r.cells; index = set r.index n r.spot }))) e

-- the parents in a tree are cells
pub tree_parents : (cs : List Cell) → Tree cs → 0 < length cs → Parented cs
tree_parents cs tree some j =
    ⊎_elim (λ z. omega arith)
    (λ nz. let w = tree.reach j (omega arith) in within cs (parent cs j) (up_used cs tree w.0 j w.1))
    (cases_eq (parent cs j) 0)

-- s, of sound cells, has no child by the first of the codes
module _ (cs : List Cell) (is : List ℕ) (s : ℕ) (sound : Sound cs is) where
  module _ (a : ℕ) (more : List ℕ) (at_s : Open cs s (a ∷ more)) (none : child cs s a ≡ None) (z : ℤ) (r : Spot) (grew : grow more cs is s a z ≡ Some r) where
    way : (p : List ℕ) × Reach cs p s
    way = reach_of cs is sound s at_s.used

    some : 0 < s
    some = reach_some cs way.0 s way.1

    tidy : Tidy cs is
    tidy = tidy_of cs is sound (omega (arith, within cs s at_s.used, some))

    leafless : NotLeaf cs s
    leafless = inner_is (at cs s).base at_s.inner

    grown_parents : Parented r.cells
    grown_parents =
        let w = grow_well cs is s a way.0 more z r tidy.tree way.1 leafless (codes_from (a ∷ more) at_s.path) (fresh_from cs s a some none) grew in
        tree_parents r.cells w.tree (omega (arith, w.long, within cs s at_s.used))

    back_room : (y : ℤ) (f : Spot) (w : Here cs is s a y f ⊎ There cs is s a y f) (k : ℕ) → k < length (child_codes (mid_of cs is s a y f w) s) → base_of cs s + get_or (child_codes (mid_of cs is s a y f w) s) k 0 < length cs
    back_room y f (inl h) k lt = codes_within cs s 258 k lt
    back_room y f (inr h) k lt =
        let ms : List Cell = relocated cs s (child_codes cs s) h.0 in
        let c : ℕ = get_or (child_codes ms s) k 0 in
        let fam = listing cs s some in
        let after : Family ms s (child_codes cs s) = family_after cs s (child_codes cs s) h.0 tidy.tree at_s.used h.1 (inner_base cs is tidy s at_s.used leafless) fam (λ b i. h.2 b (inr i)) in
        let i : In (child_codes cs s) c = after.whole c (base_of ms s + c) ((listing ms s some).sound c (in_at (child_codes ms s) k 0 lt)) in
        within cs (base_of cs s + c) (omega (arith, some, edge_up cs s c (base_of cs s + c) (fam.sound c i)))

    grown_room : (k : ℕ) → k < length (child_codes (freed_up (1 + length more) r.cells r.spot) s) → base_of cs s + get_or (child_codes (freed_up (1 + length more) r.cells r.spot) s) k 0 < length cs
    grown_room =
        let g = grow_freed cs is s a way.0 more z r tidy.tree way.1 leafless (codes_from (a ∷ more) at_s.path) (fresh_from cs s a some none) grew in
        let mid : List Cell = mid_of cs is s a g.base g.first g.way in
        let count : 1 + length more ≡ steps more 0 = omega (arith, steps_is more 0) in
        let same : freed_up (1 + length more) r.cells r.spot ≡ mid = ap (λ n. freed_up n r.cells r.spot) count ∙ g.freed 0 in
        subst (λ l. (k : ℕ) → k < length (child_codes l s) → base_of cs s + get_or (child_codes l s) k 0 < length cs) (sym same) (back_room g.base g.first g.way)

codes_take : (n : ℕ) (l : List ℕ) → all_codes l ≡ true → all_codes (take n l) ≡ true
codes_take zero l e = refl
codes_take (suc n) [] e = refl
codes_take (suc n) (a ∷ l) e = let h = and_parts (is_code a) (all_codes l) e in and_from (is_code a) (all_codes (take n l)) h.0 (codes_take n l h.1)

-- what has grown below s, n cells with the tip in r, can be undone, and that leaves the cells and the index of before
pub record Undoable (cs : List Cell) (is : List ℕ) (s n : ℕ) (r : Spot) : Type 0 where
  pub parents : Parented r.cells
  pub room : (k : ℕ) → k < length (child_codes (freed_up n r.cells r.spot) s) → base_of cs s + get_or (child_codes (freed_up n r.cells r.spot) s) k 0 < length cs
  pub back : undo r.cells r.index s (base_of cs s) n r.spot ≡ record { cells = cs; index = is }

module _ (cs : List Cell) (is : List ℕ) (s : ℕ) (codes : List ℕ) (sound : Sound cs is) (at_s : Open cs s codes) (none : child cs s (get_or codes 0 0) ≡ None) (i : ℕ) (lt : i < length codes) (r : Spot) where
  nothing_yet : Undoable cs is s 0 (record { cells = cs; index = is; spot = s })
  nothing_yet =
      let w = reach_of cs is sound s at_s.used in
      let high : 1 < length cs = omega (arith, within cs s at_s.used, reach_some cs w.0 s w.1) in
      record {
        parents = tree_parents cs (tidy_of cs is sound high).tree (omega arith);
        room = codes_within cs s 258;
        back = cond-true (eqb (base_of cs s) (base_of cs s)) (record { cells = cs; index = is }) _ (eq-eqb (base_of cs s) (base_of cs s) refl);
      }

  by_list : (xs : List ℕ) → xs ≡ take i codes → grow_on xs (pos 0) (record { cells = cs; index = is; spot = s }) ≡ Some r → Undoable cs is s i r
  by_list [] e g =
      let same : 0 ≡ i = ap length e ∙ length-take-le i codes (omega arith) in
      subst (λ n. Undoable cs is s n r) same (subst (Undoable cs is s 0) (some_same _ r g) nothing_yet)
  by_list (a ∷ more) e g =
      let same : 1 + length more ≡ i = (let k : 1 + length more ≡ suc (length more) = omega arith in k) ∙ ap length e ∙ length-take-le i codes (omega arith) in
      let first : get_or codes 0 0 ≡ a = sym (ap (λ l. get_or l 0 0) e ∙ get_or-take i codes 0 0 (omega arith)) in
      let here : Open cs s (a ∷ more) = record { used = at_s.used; inner = at_s.inner; path = subst (λ l. all_codes l ≡ true) (sym e) (codes_take i codes at_s.path) } in
      let no_child : child cs s a ≡ None = subst (λ x. child cs s x ≡ None) first none in
      subst (λ n. Undoable cs is s n r) same (record {
        parents = grown_parents cs is s sound a more here no_child (pos 0) r g;
        room = grown_room cs is s sound a more here no_child (pos 0) r g;
        back = undoing cs is s a more (pos 0) r sound here no_child g;
      })

  pub undoable : grow_on (take i codes) (pos 0) (record { cells = cs; index = is; spot = s }) ≡ Some r → Undoable cs is s i r
  undoable g = by_list (take i codes) refl g
