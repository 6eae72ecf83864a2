-- A path is taken out: it is no longer held, and each other path is as before.
use Rattle.std.proofs.Common.{◌≡◌, ℕ, ◌+◌, ◌<◌, Bool, true, false, List, [], ◌∷◌, length, get_or, set, ℤ, pos, negsuc, is_some, Some, None, Option, sym, refl, ap, ◌∙◌, subst, inl, inr, ⊎_elim, arith}
use Rattle.std.proofs.lemmas.List.{get_or-set_same, get_or-set_other, get_or_past, length-set}
use Rattle.std.proofs.lemmas.Bool.{cond_both, cases_eq, cases_lt}
use Rattle.cells.specs.declared.Cell.{Cell}
use Rattle.cells.specs.Cells.{free_cell, root_cell, at, nat, parent, number, child_codes, some_code}
use Rattle.cells.specs.Placing.{Arrays}
use Rattle.cells.specs.Walking.{onward, cell_at, turned}
use Rattle.cells.specs.Pruning.{prune, root_reset, taken_out, taken_at}
use Rattle.cells.specs.Trees.{Reach, Held}
use Rattle.cells.specs.Invariant.{Sound}
use Rattle.cells.specs.Laws.{TakesOut, TakingOut}
use Rattle.cells.proofs.Trees.{Tree, Lone, Whole}
use Rattle.cells.proofs.Changes.{Same}
use Rattle.cells.proofs.Basics.{no_some, some_same, not_leaf, leaf_same, no_codes, none_code}
use Rattle.cells.proofs.Paths.{reach_some, reach_same}
use Rattle.cells.proofs.Counts.{within}
use Rattle.cells.proofs.Walks.{listing}
use Rattle.cells.proofs.Climbs.{turned_same, cell_reach}
use Rattle.cells.proofs.Edits.{edge_kept, basing}
use Rattle.cells.proofs.Families.{inner_of, none_of}
use Rattle.cells.proofs.Leaves.{Indexed, leaf_used}
use Rattle.cells.proofs.Sounds.{Tidy, tidy_of, sound_of}
use Rattle.cells.proofs.Prunes.{Pruned, pruning, prune_stays, prune_frees, length_prune}
use Rattle.cells.proofs.Numbers.{number_none, numbers_but}

pub length_turned : (p q : List ℕ) → length (turned p q) ≡ length p + length q
length_turned [] q = omega arith
length_turned (a ∷ p) q = omega (arith, length_turned p (a ∷ q))

-- the root is no leaf
pub root_inner : (cs : List Cell) (is : List ℕ) → Tidy cs is → (m : ℕ) → (at cs 1).base ≡ negsuc m → ⊥
root_inner cs is h m b =
    cases (some_code (child_codes cs 1)) refl
  where
    cases : (t : Bool) → some_code (child_codes cs 1) ≡ t → ⊥
    cases true e = omega (arith, inner_of cs 1 (child_codes cs 1) (listing cs 1 (omega arith)) e, ap nat b)
    cases false e = not_leaf 1 m (sym (h.bare (none_code (child_codes cs 1) e)) ∙ b)

-- the same paths are held
record Reset (ys : List Cell) (is : List ℕ) (zs : List Cell) : Type 0 where
  pub tidy : Tidy zs is
  pub held : (q : List ℕ) (m : ℕ) → Held ys q m → Held zs q m
  pub held_again : (q : List ℕ) (m : ℕ) → Held zs q m → Held ys q m
  pub long : length zs ≡ length ys

-- a root without children gets the BASE 1
module _ (ys : List Cell) (is : List ℕ) (tree : Tree ys) (whole : Whole ys) (leafless : (m : ℕ) → (at ys 1).base ≡ negsuc m → ⊥) (ix : Indexed ys is) where
  kept : some_code (child_codes ys 1) ≡ true → Reset ys is ys
  kept some = record {
    tidy = record { tree = tree; whole = whole; bare = λ e. absurd (no_codes (child_codes ys 1) e some); indexed = ix };
    held = λ q m h. h;
    held_again = λ q m h. h;
    long = refl;
  }

  abbrev zs : List Cell
  zs = set ys 1 root_cell

  one_used : 0 < parent ys 1
  one_used = omega (arith, ap nat tree.root)

  here : at zs 1 ≡ root_cell
  here = get_or-set_same ys 1 root_cell free_cell (within ys 1 one_used)

  else : (j : ℕ) → (j ≡ 1 → ⊥) → at zs j ≡ at ys j
  else j ne = get_or-set_other ys 1 j root_cell free_cell ne

  check_same : (j : ℕ) → (at zs j).check ≡ (at ys j).check
  check_same j =
      ⊎_elim
      (λ e. ap (λ x. (at zs x).check) e ∙ ap (λ c. c.check) here ∙ sym tree.root ∙ ap (λ x. (at ys x).check) (sym e))
      (λ ne. ap (λ c. c.check) (else j ne))
      (cases_eq j 1)

  same : Lone ys 1 → Same ys zs
  same lone =
      subst (λ c. Same ys (set ys 1 c)) (ap (λ k. record { base = pos 1; check = k }) tree.root) (basing ys 1 (pos 1) tree one_used lone)

  -- a leaf is not the root
  leaf_else : (u m : ℕ) → (at ys u).base ≡ negsuc m → u ≡ 1 → ⊥
  leaf_else u m b e = leafless m (ap (λ x. (at ys x).base) (sym e) ∙ b)

  leaf_else' : (u m : ℕ) → (at zs u).base ≡ negsuc m → u ≡ 1 → ⊥
  leaf_else' u m b e = not_leaf 1 m (ap (λ c. c.base) (sym here) ∙ ap (λ x. (at zs x).base) (sym e) ∙ b)

  reset : some_code (child_codes ys 1) ≡ false → Reset ys is zs
  reset none =
      let lone : Lone ys 1 = none_of ys 1 (child_codes ys 1) (listing ys 1 (omega arith)) none in
      let w = same lone in
      record {
        tidy = record {
          tree = w.tree;
          whole = λ t h ne. ⊎_elim
              (λ leaf. inl (leaf.0, ap (λ c. c.base) (else t ne) ∙ leaf.1))
              (λ kid. inr (kid.0, kid.1, edge_kept ys zs t kid.0 kid.1 (ap (λ c. nat c.base) (else t ne)) (check_same kid.1) kid.2))
              (whole t (omega (arith, ap nat (check_same t))) ne);
          bare = λ e. ap (λ c. c.base) here;
          indexed = record {
            leads = λ j n b lt. ix.leads j n (ap (λ c. c.base) (sym (else j (leaf_else' j n b))) ∙ b) lt;
            entered = λ n h. let b = ix.entered n h in ap (λ c. c.base) (else (get_or is n 0) (leaf_else (get_or is n 0) n b)) ∙ b;
          };
        };
        held = λ q m h. (h.0, w.ahead q h.0 h.1, ap (λ c. c.base) (else h.0 (leaf_else h.0 m h.2)) ∙ h.2);
        held_again = λ q m h. (h.0, w.again q h.0 h.1, ap (λ c. c.base) (sym (else h.0 (leaf_else' h.0 m h.2))) ∙ h.2);
        long = length-set ys 1 root_cell;
      }

  root_well : Reset ys is (root_reset ys)
  root_well = cond_both (some_code (child_codes ys 1)) ys zs (Reset ys is) kept reset

-- the leaf t of the path p, with the number k + 1, is taken out
module _ (cs : List Cell) (is : List ℕ) (a : ℕ) (p : List ℕ) (t k : ℕ) (h : Tidy cs is) (way : Reach cs (a ∷ p) t) (leaf : (at cs t).base ≡ negsuc k) where
  abbrev ys : List Cell
  ys = prune (length (a ∷ p)) cs t

  lone : Lone cs t
  lone c u e = omega (arith, e.inner, ap nat leaf)

  w : Pruned cs ys (a ∷ p)
  w = pruning cs t (a ∷ p) h.tree (λ u hu nu no. h.whole u hu nu) way (λ e. omega (arith, ap length e)) lone

  ys_leafless : (m : ℕ) → (at ys 1).base ≡ negsuc m → ⊥
  ys_leafless m b =
      let o = (w.held_again [] m (1, refl, b)).0 in
      root_inner cs is h m (ap (λ x. (at cs x).base) (sym o.1) ∙ o.2)

  -- a leaf that is left was there before
  leaf_was : (j n : ℕ) → (at ys j).base ≡ negsuc n → (at cs j).base ≡ negsuc n
  leaf_was j n b =
      ⊎_elim (λ e. ap (λ c. c.base) (sym e) ∙ b) (λ e. absurd (not_leaf 0 n (ap (λ c. c.base) (sym e) ∙ b))) (prune_stays (length (a ∷ p)) cs t j)

  not_t : (j n : ℕ) → (at ys j).base ≡ negsuc n → j ≡ t → ⊥
  not_t j n b e = not_leaf 0 n (ap (λ c. c.base) (sym (prune_frees (length p) cs t)) ∙ ap (λ x. (at ys x).base) (sym e) ∙ b)

  index_out : Indexed ys (set is k 0)
  index_out = record {
    leads = λ j n b lt.
        let was = leaf_was j n b in
        let lt' : n < length is = omega (arith, length-set is k 0) in
        let known : get_or is n 0 ≡ j = h.indexed.leads j n was lt' in
        let ne : n ≡ k → ⊥ = λ e. not_t j n b (sym known ∙ h.indexed.leads t n (leaf ∙ ap negsuc (sym e)) lt') in
        get_or-set_other is k n 0 0 ne ∙ known;
    entered = λ n some.
        let ne : n ≡ k → ⊥ = λ e. gone n e some in
        let same : get_or (set is k 0) n 0 ≡ get_or is n 0 = get_or-set_other is k n 0 0 ne in
        let v : ℕ = get_or is n 0 in
        let hv : 0 < v = omega arith in
        let b : (at cs v).base ≡ negsuc n = h.indexed.entered n hv in
        let r = h.tree.reach v (leaf_used cs h.tree.blanks v n b) in
        let vt : v ≡ t → ⊥ = λ e. ne (leaf_same n k (sym b ∙ ap (λ x. (at cs x).base) e ∙ leaf)) in
        let on = w.held r.0 n (v, r.1, b) (λ e. vt (reach_same cs (a ∷ p) v t (subst (λ x. Reach cs x v) e r.1) way)) in
        let lt : n < length is = ⊎_elim (λ y. y) (λ ge. absurd (omega (arith, get_or_past is n 0 ge))) (cases_lt n (length is)) in
        let there : v ≡ on.0 = h.indexed.leads on.0 n (leaf_was on.0 n on.2) lt in
        ap (λ x. (at ys x).base) (same ∙ there) ∙ on.2;
  }
    where
      gone : (n : ℕ) → n ≡ k → 0 < get_or (set is k 0) n 0 → ⊥
      gone n e some =
          ⊎_elim
          (λ lt. omega (arith, some, ap (λ x. get_or (set is k 0) x 0) e, get_or-set_same is k 0 0 (omega arith)))
          (λ ge. omega (arith, some, get_or_past (set is k 0) n 0 (omega (arith, length-set is k 0))))
          (cases_lt n (length is))

  out_well : Reset ys (set is k 0) (root_reset ys)
  out_well = root_well ys (set is k 0) w.tree w.whole ys_leafless index_out

  pub out_tidy : Tidy (root_reset ys) (set is k 0)
  out_tidy = out_well.tidy

  pub out_held : (q : List ℕ) (m : ℕ) → Held cs q m → (q ≡ a ∷ p → ⊥) → Held (root_reset ys) q m
  out_held q m x ne = out_well.held q m (w.held q m x ne)

  pub out_again : (q : List ℕ) (m : ℕ) → Held (root_reset ys) q m → Held cs q m × (q ≡ a ∷ p → ⊥)
  out_again q m x = w.held_again q m (out_well.held_again q m x)

  pub out_long : length (root_reset ys) ≡ length cs
  out_long = out_well.long ∙ length_prune (length (a ∷ p)) cs t

out_of : (cs : List Cell) (is p : List ℕ) (t k : ℕ) → Tidy cs is → (q : List ℕ) → turned p [] ≡ q → Reach cs q t → (at cs t).base ≡ negsuc k → TakesOut cs is p (record { cells = root_reset (prune (length p) cs t); index = set is k 0 })
out_of cs is p t k h [] same way leaf = absurd (root_inner cs is h k (ap (λ x. (at cs x).base) (sym way) ∙ leaf))
out_of cs is p t k h (a ∷ q) same way leaf =
    let long : length (a ∷ q) ≡ length p = ap length (sym same) ∙ length_turned p [] ∙ omega arith in
    subst (λ n. TakesOut cs is p (record { cells = root_reset (prune n cs t); index = set is k 0 })) long (record {
      sound = sound_of _ _ (out_tidy cs is a q t k h way leaf);
      cells = out_long cs is a q t k h way leaf;
      index = length-set is k 0;
      after = numbers_but cs (root_reset (prune (length (a ∷ q)) cs t)) p None
          (number_none (root_reset (prune (length (a ∷ q)) cs t)) p (λ m x. (out_again cs is a q t k h way leaf (turned p []) m x).1 same))
          (λ r m ne x. out_held cs is a q t k h way leaf (turned r []) m x (λ e. ne (turned_same r p (e ∙ sym same))))
          (λ r m ne x. (out_again cs is a q t k h way leaf (turned r []) m x).0);
    })

module _ (cs : List Cell) (is p : List ℕ) (h : Sound cs is) where
  out_at : (t : ℕ) → Reach cs (turned p []) t → (z : ℤ) → (at cs t).base ≡ z → (xs : Arrays) → taken_out cs is (length p) t z ≡ Some xs → TakesOut cs is p xs
  out_at t way (pos k) b xs e = absurd (no_some xs e)
  out_at t way (negsuc k) b xs e =
      let used : 0 < parent cs t = leaf_used cs h.blank t k b in
      let long : 1 < length cs = omega (arith, within cs t used, reach_some cs (turned p []) t way) in
      subst (TakesOut cs is p) (some_same _ xs e) (out_of cs is p t k (tidy_of cs is h long) (turned p []) refl way b)

  out_by : (o : Option ℕ) → cell_at cs p ≡ o → (xs : Arrays) → taken_at cs is (length p) o ≡ Some xs → TakesOut cs is p xs
  out_by None e xs k = absurd (no_some xs k)
  out_by (Some t) e xs k = out_at t (cell_reach cs p t e) (at cs t).base refl xs k

  when_z : (t : ℕ) (z : ℤ) → is_some (taken_out cs is (length p) t z) ≡ is_some (number z)
  when_z t (pos k) = refl
  when_z t (negsuc k) = refl

  when_o : (o : Option ℕ) → is_some (taken_at cs is (length p) o) ≡ is_some (onward o (λ t. number (at cs t).base))
  when_o None = refl
  when_o (Some t) = when_z t (at cs t).base

  pub taking : TakingOut cs is p
  taking = record { when = when_o (cell_at cs p); out = out_by (cell_at cs p) refl }
