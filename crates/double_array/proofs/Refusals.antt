-- Which refusal applies, from what the code has found.
use Rattle.std.proofs.Common.{◌≡◌, ℕ, ◌+◌, ◌-◌, ◌<◌, ◌≤◌, true, false, cond, not, ◌&&◌, List, [], ◌∷◌, ◌++◌, length, get_or, set, ℤ, pos, negsuc, Some, None, Ok, Err, Option, Result, sym, refl, ap, ◌∙◌, subst, arith, length-append}
use lib.Signed.{lt_z}
use Rattle.std.proofs.lemmas.List.{get_or_push}
use Rattle.std.proofs.lemmas.Bool.{cond-true, cond-false, and_from, and_left, and_right, and_parts, not_from_true, not_from_false, ltb-true, le-ltb}
use Rattle.cells.specs.declared.Cell.{Cell}
use Rattle.cells.specs.Cells.{base_of, is_free, is_leaf, child, child_codes, some_code, all_codes}
use Rattle.cells.specs.Placing.{Arrays, Lowest, lowest, placed_at, place, grow, extend, found_or, enter_from, enter}
use Rattle.cells.specs.Walking.{onward}
use Rattle.cells.proofs.Lowests.{lowest_holds}
use Rattle.cells.proofs.Sounds.{short_root, short_child}
use Rattle.double_array.specs.declared.faults.PathFault.{PathFault}
use Rattle.double_array.specs.declared.faults.PathFault.TheVariants as fault
use Rattle.double_array.specs.Entries.{Followed, follow, or_stop, is_path, is_open, is_unblocked, place_fault, refusal, extended, EntersPath, Extended}
use Rattle.double_array.proofs.Giving.{some_yes, some_no}
use Rattle.double_array.proofs.Follows.{stop}

module _ (cs : List Cell) (is p : List ℕ) (u : ℕ) (path : is_path p ≡ true) (number : is_open is u ≡ true) where
  judged : refusal cs is p u ≡ cond (is_unblocked cs p) (place_fault (enter cs is p (u - 1))) (Some fault.Blocked)
  judged = cond-true (is_path p) _ (Some fault.Path) path ∙ cond-true (is_open is u) _ (Some fault.Number) number

  pub blocked : is_unblocked cs p ≡ false → refusal cs is p u ≡ Some fault.Blocked
  blocked e = judged ∙ cond-false (is_unblocked cs p) _ _ e

  pub judged_by : is_unblocked cs p ≡ true → (o : Option Arrays) → enter cs is p (u - 1) ≡ o → refusal cs is p u ≡ place_fault o
  judged_by e o placed = judged ∙ cond-true (is_unblocked cs p) _ _ e ∙ ap place_fault placed

  pub codes_of : all_codes p ≡ true
  codes_of = (and_parts _ _ path).1

  pub some_of : 0 < length p
  some_of = ltb-true 0 (length p) (and_parts _ _ (and_parts _ _ path).0).0

  -- the node where the path leaves the tree, and what is left of the path there
  module _ (s : ℕ) (rest : List ℕ) (node : s ≡ (follow cs 1 p).node) (left : rest ≡ (follow cs 1 p).rest) where
    pub at_end : length rest ≤ 0 → is_unblocked cs p ≡ false
    at_end none = and_left _ _ (ap some_code (sym left) ∙ some_no rest none)

    pub at_leaf : true ≡ is_leaf cs s → is_unblocked cs p ≡ false
    at_leaf leaf = and_right _ _ (not_from_true _ (ap (is_leaf cs) (sym node) ∙ sym leaf))

    module _ (some : 0 < length rest) (inner : is_leaf cs s ≡ false) where
      pub leaves : is_unblocked cs p ≡ true
      leaves = and_from _ _ (ap some_code (sym left) ∙ some_yes rest some) (not_from_false _ (ap (is_leaf cs) (sym node) ∙ inner))

      pub entered : enter cs is p (u - 1) ≡ extended rest cs is s (u - 1)
      entered =
          cond-true (all_codes p) (enter_from cs is 1 p (u - 1)) None codes_of
          ∙ (stop cs p 1).enters is (u - 1) (ap (is_leaf cs) (sym node) ∙ inner) (subst (λ l. 0 < length l) left some)
          ∙ ap (λ l. extended l cs is (follow cs 1 p).node (u - 1)) (sym left) ∙ ap (λ t. extended rest cs is t (u - 1)) (sym node)

      pub missing : child cs s (get_or rest 0 0) ≡ None
      missing =
          ap (λ t. child cs t (get_or rest 0 0)) node ∙ ap (λ l. child cs (follow cs 1 p).node (get_or l 0 0)) left
          ∙ (stop cs p 1).missing (subst (λ l. 0 < length l) left some)

      -- what came of the rest of the path came of the whole
      pub entry_of : (r : Result (Unit {0}) PathFault) (xs : List Cell) (js : List ℕ) → Extended cs is s rest (u - 1) r xs js → EntersPath cs is p u r xs js
      entry_of (Ok x) xs js h = let done = entered ∙ h in (judged_by leaves _ done, done)
      entry_of (Err e) xs js h = (judged_by leaves None (entered ∙ h.1) ∙ ap Some (sym h.0), h.2, h.3)

-- fewer than two cells have no place
module _ (cs : List Cell) (is : List ℕ) (few : length cs < 2) where
  no_base : (codes : List ℕ) (a : ℕ) (o : Option ℕ) → 0 < a → Lowest cs (codes ++ a ∷ []) o → o ≡ None
  no_base codes a None some h = refl
  no_base codes a (Some b) some h =
      absurd (omega (arith, h.0, (h.1 (length codes) (omega (arith, length-append codes (a ∷ [])))).0, get_or_push codes a 0 (length codes) refl))

  place_short : (s a : ℕ) (z : ℤ) → 0 < a → place cs is s a z ≡ None
  place_short s a z some =
      cond-false (some_code (child_codes cs s) && is_free cs (base_of cs s + a)) _ _
      (and_right _ _ (and_left _ _ (and_left _ _ (le-ltb (base_of cs s + a) (length cs) (omega arith)))))
      ∙ ap (placed_at cs is s (child_codes cs s) a z)
      (no_base (child_codes cs s) a (lowest cs (child_codes cs s ++ a ∷ [])) some (lowest_holds cs (child_codes cs s ++ a ∷ []) (omega (arith, length-append (child_codes cs s) (a ∷ [])))))

  grow_short : (more : List ℕ) (s a : ℕ) (z : ℤ) → 0 < a → grow more cs is s a z ≡ None
  grow_short [] s a z some = place_short s a z some
  grow_short (b ∷ more) s a z some = ap (λ o. onward o (λ r. grow more r.cells r.index r.spot b z)) (place_short s a (pos 0) some)

  inner_short : is_leaf cs 1 ≡ false
  inner_short = ap (λ c. lt_z c.base (pos 0)) (short_root cs few)

  pub short_new : (p : List ℕ) → 0 < length p → is_unblocked cs p ≡ true
  short_new [] h = absurd (omega arith)
  short_new (a ∷ more) h =
      let here : Followed = record { node = 1; rest = a ∷ more } in
      ap (λ f. some_code f.rest && not (is_leaf cs f.node)) (ap (λ o. or_stop o here (λ t. follow cs t more)) (short_child cs few a))
      ∙ not_from_false _ inner_short

  enter_short : (p : List ℕ) (n : ℕ) → all_codes p ≡ true → enter_from cs is 1 p n ≡ None
  enter_short [] n c = refl
  enter_short (a ∷ more) n c =
      let some : 0 < a = ltb-true 0 a (and_parts _ _ (and_parts _ _ c).0).0 in
      ap (λ o. found_or o (cond (is_leaf cs 1) None (extend more cs is 1 a n)) (λ t. enter_from cs is t more n)) (short_child cs few a)
      ∙ cond-false (is_leaf cs 1) None _ inner_short
      ∙ ap (λ o. onward o (λ r. Some (record { cells = r.cells; index = set r.index n r.spot }))) (grow_short more 1 a (negsuc n) some)

  pub short_none : (p : List ℕ) (n : ℕ) → all_codes p ≡ true → enter cs is p n ≡ None
  short_none p n c = cond-true (all_codes p) (enter_from cs is 1 p n) None c ∙ enter_short p n c
