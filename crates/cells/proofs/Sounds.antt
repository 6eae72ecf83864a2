-- The invariant says that the cells are a tree, whole and rightly indexed.
use Rattle.std.proofs.Common.{◌≡◌, ℕ, ◌+◌, ◌<◌, true, false, List, [], length, ℤ, pos, negsuc, Some, None, Option, sym, refl, ap, ◌∙◌, subst, inl, inr, ⊎_elim, arith}
use lib.Signed.{lt_z}
use Rattle.std.proofs.lemmas.List.{get_or_past}
use Rattle.std.proofs.lemmas.Bool.{both_ways, cases_Bool, eqb-true, eq-eqb, ltb-true, or_cases, or_left, or_right, cases_eq, cond-false, and_left}
use Rattle.cells.specs.declared.Cell.{Cell}
use Rattle.cells.specs.Cells.{free_cell, at, nat, base_of, parent, is_leaf, edge, child, child_codes, some_code}
use Rattle.cells.specs.Walking.{cell_at, is_found, turned, path_to}
use Rattle.cells.specs.Trees.{Reach}
use Rattle.cells.specs.Invariant.{Sound}
use Rattle.cells.proofs.Trees.{Tree, LeafOrParent, Whole, NotLeaf}
use Rattle.cells.proofs.Basics.{not_leaf, none_code}
use Rattle.cells.proofs.Paths.{reach_some}
use Rattle.cells.proofs.Walks.{listing}
use Rattle.cells.proofs.Climbs.{turned_back, cell_reach, reach_cell, path_is}
use Rattle.cells.proofs.Leaves.{Indexed, indexed_from, leads_from}
use Rattle.cells.proofs.Families.{first_of, inner_of, some_of}

-- the invariant over the tree, of two cells or more
pub record Tidy (cs : List Cell) (is : List ℕ) : Type 0 where
  pub tree : Tree cs
  pub whole : Whole cs
  pub bare : child_codes cs 1 ≡ [] → (at cs 1).base ≡ pos 1
  pub indexed : Indexed cs is

pub found_is : (o : Option ℕ) (t : ℕ) → is_found o t ≡ true → o ≡ Some t
found_is None t e = absurd (both_ways false refl e)
found_is (Some u) t e = ap Some (eqb-true u t e)

pub leaf_is : (z : ℤ) → lt_z z (pos 0) ≡ true → (n : ℕ) × (z ≡ negsuc n)
leaf_is (pos n) e = absurd (omega (arith, ltb-true n 0 e))
leaf_is (negsuc n) e = (n, refl)

pub inner_is : (z : ℤ) → lt_z z (pos 0) ≡ false → (n : ℕ) → z ≡ negsuc n → ⊥
inner_is (pos k) e n q = not_leaf k n q
inner_is (negsuc k) e n q = both_ways true e refl

module _ (cs : List Cell) (is : List ℕ) (h : Sound cs is) where
  pub used_path : (t : ℕ) → 0 < parent cs t → cell_at cs (path_to cs t) ≡ Some t
  used_path t used = found_is (cell_at cs (path_to cs t)) t (h.reached t used)

  pub reach_of : (t : ℕ) → 0 < parent cs t → (p : List ℕ) × Reach cs p t
  reach_of t used = (turned (path_to cs t) [], cell_reach cs (path_to cs t) t (used_path t used))

  whole_of : Whole cs
  whole_of t used ne =
      let w = reach_of t used in
      ⊎_elim {C = LeafOrParent cs t}
      (λ leaf. inl (leaf_is (at cs t).base leaf))
      (λ some. inr (first_of cs t (child_codes cs t) (listing cs t (reach_some cs w.0 t w.1)) some))
      (or_cases (is_leaf cs t) (some_code (child_codes cs t)) (h.ended t used ne))

  pub tidy_of : 1 < length cs → Tidy cs is
  tidy_of long = record {
    tree = record { root = h.rooted long; blanks = h.blank; reach = reach_of };
    whole = whole_of;
    bare = h.bare long;
    indexed = indexed_from cs is h.leads h.entered;
  }

pub sound_of : (cs : List Cell) (is : List ℕ) → Tidy cs is → Sound cs is
sound_of cs is h = record {
  rooted = λ _. h.tree.root;
  bare = λ _. h.bare;
  blank = h.tree.blanks;
  reached = λ t used.
      let w = h.tree.reach t used in
      let path : path_to cs t ≡ turned w.0 [] = path_is cs h.tree w.0 t w.1 in
      let there : cell_at cs (turned w.0 []) ≡ Some t = reach_cell cs (turned w.0 []) t (subst (λ p. Reach cs p t) (sym (turned_back w.0)) w.1) in
      ap (λ o. is_found o t) (ap (cell_at cs) path ∙ there) ∙ eq-eqb t t refl;
  ended = λ t used ne.
      let w = h.tree.reach t used in
      ⊎_elim
      (λ leaf. or_left (is_leaf cs t) (some_code (child_codes cs t)) (ap (λ z. lt_z z (pos 0)) leaf.1))
      (λ kid. or_right (is_leaf cs t) (some_code (child_codes cs t)) (some_of cs t (child_codes cs t) (listing cs t (reach_some cs w.0 t w.1)) kid.0 kid.1 kid.2))
      (h.whole t used ne);
  leads = leads_from cs is h.indexed;
  entered = h.indexed.entered;
}

-- a node that is no leaf has a BASE of its own
pub inner_base : (cs : List Cell) (is : List ℕ) → Tidy cs is → (s : ℕ) → 0 < parent cs s → NotLeaf cs s → 0 < base_of cs s
inner_base cs is h s used leafless =
    ⊎_elim
    (λ root. ⊎_elim
    (λ none. omega (arith, ap (base_of cs) root, ap nat (h.bare (none_code (child_codes cs 1) none))))
    (λ some. subst (λ x. 0 < base_of cs x) (sym root) (inner_of cs 1 (child_codes cs 1) (listing cs 1 (omega arith)) some))
    (⊎_elim (λ e. inr e) (λ e. inl e) (cases_Bool (some_code (child_codes cs 1)))))
    (λ ne. ⊎_elim (λ leaf. absurd (leafless leaf.0 leaf.1)) (λ kid. kid.2.inner) (h.whole s used ne))
    (cases_eq s 1)

-- fewer than two cells: the root is no cell, and has no child
pub short_root : (cs : List Cell) → length cs < 2 → at cs 1 ≡ free_cell
short_root cs short = get_or_past cs 1 free_cell (omega arith)

pub short_child : (cs : List Cell) → length cs < 2 → (a : ℕ) → child cs 1 a ≡ None
short_child cs short a =
    cond-false (edge cs 1 (base_of cs 1 + a)) (Some (base_of cs 1 + a)) None
    (and_left _ _ (and_left _ _ (ap (λ c. lt_z (pos 0) c.base) (short_root cs short))))
