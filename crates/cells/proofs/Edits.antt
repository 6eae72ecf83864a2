-- A cell that is taken, freed or given another base.
use Rattle.std.proofs.Common.{◌≡◌, ℕ, ◌+◌, ◌<◌, ◌⊎◌, List, [], ◌∷◌, length, set, ℤ, pos, sym, refl, ap, ◌∙◌, subst, inl, inr, ⊎_elim, arith}
use Rattle.std.proofs.lemmas.List.{get_or-set_same, get_or-set_other}
use Rattle.std.proofs.lemmas.Bool.{cases_eq}
use Rattle.cells.specs.declared.Cell.{Cell}
use Rattle.cells.specs.Cells.{free_cell, at, nat, base_of, parent}
use Rattle.cells.specs.Trees.{Edge, Reach}
use Rattle.cells.proofs.Trees.{Tree, Lone}
use Rattle.cells.proofs.Changes.{Grown, Shrunk, Same}
use Rattle.cells.proofs.Paths.{edge_up, reach_some, root_apart, reach_unique, reach_used}
use Rattle.cells.proofs.Counts.{within}
use Rattle.cells.proofs.Renamings.{up_used}

-- an edge between cells that stay
pub edge_kept : (cs es : List Cell) (r a u : ℕ) → base_of es r ≡ base_of cs r → (at es u).check ≡ (at cs u).check → Edge cs r a u → Edge es r a u
edge_kept cs es r a u b c e = record { some = e.some; code = e.code; inner = omega (arith, e.inner); place = omega (arith, e.place); check = c ∙ e.check }

module _ (cs : List Cell) (s a : ℕ) (q : List ℕ) (z : ℤ) (tree : Tree cs) (way : Reach cs q s) (some : 0 < a) (code : a < 258) (inner : 0 < base_of cs s) (fits : base_of cs s + a < length cs) (free : parent cs (base_of cs s + a) ≡ 0) where
  abbrev t : ℕ
  t = base_of cs s + a

  abbrev es : List Cell
  es = set cs t (record { base = z; check = pos s })

  pub here : at es t ≡ record { base = z; check = pos s }
  here = get_or-set_same cs t (record { base = z; check = pos s }) free_cell fits

  pub else : (j : ℕ) → (j ≡ t → ⊥) → at es j ≡ at cs j
  else j ne = get_or-set_other cs t j (record { base = z; check = pos s }) free_cell ne

  pub used_else : (u : ℕ) → 0 < parent cs u → u ≡ t → ⊥
  used_else u h e = omega (arith, ap (parent cs) e)

  pub reach_else : (p : List ℕ) (u : ℕ) → Reach cs p u → u ≡ t → ⊥
  reach_else p u r = used_else u (reach_used cs tree p u r)

  ahead : (p : List ℕ) (u : ℕ) → Reach cs p u → Reach es p u
  ahead [] u r = r
  ahead (c ∷ p) u r = (
    r.0,
    ahead p r.0 r.1,
    edge_kept cs es r.0 c u (ap (λ x. nat x.base) (else r.0 (reach_else p r.0 r.1))) (ap (λ x. x.check) (else u (reach_else (c ∷ p) u r))) r.2,
  )

  new : Reach es (a ∷ q) t
  new =
      let low_s : base_of es s ≡ base_of cs s = ap (λ x. nat x.base) (else s (reach_else q s way)) in
      (s, ahead q s way, record { some = some; code = code; inner = omega arith; place = omega arith; check = ap (λ x. x.check) here })

  -- an edge of the new cells from an old one
  step : (p : List ℕ) (r c u : ℕ) → Reach cs p r → Edge es r c u → Reach cs (c ∷ p) u ⊎ ((c ∷ p ≡ a ∷ q) × (u ≡ t))
  step p r c u k e =
      let low_r : base_of es r ≡ base_of cs r = ap (λ x. nat x.base) (else r (reach_else p r k)) in
      ⊎_elim
      (λ same.
      let rs : r ≡ s = sym (edge_up es r c u e) ∙ ap (parent es) same ∙ ap (λ x. nat x.check) here in
      let pq : p ≡ q = reach_unique cs p q s (subst (Reach cs p) rs k) way in
      let ca : c ≡ a = omega (arith, e.place, ap (base_of cs) rs) in
      inr (cc, same))
      (λ ne. inl (r, k, edge_kept es cs r c u (sym low_r) (sym (ap (λ x. x.check) (else u ne))) e))
      (cases_eq u t)

  -- the new cell has no child
  none : (c u : ℕ) → Edge es t c u → ⊥
  none c u e =
      ⊎_elim
      (λ same. reach_else q s way (sym (ap (λ x. nat x.check) here) ∙ ap (parent es) (sym same) ∙ edge_up es t c u e))
      (λ ne.
      let par : parent cs u ≡ t = ap (λ x. nat x.check) (sym (else u ne)) ∙ edge_up es t c u e in
      let w = tree.reach u (omega arith) in
      used_else t (subst (λ x. 0 < parent cs x) par (up_used cs tree w.0 u w.1)) refl)
      (cases_eq u t)

  again : (p : List ℕ) (u : ℕ) → Reach es p u → Reach cs p u ⊎ ((p ≡ a ∷ q) × (u ≡ t))
  again [] u r = inl r
  again (c ∷ p) u r =
      ⊎_elim (λ k. step p r.0 c u k r.2)
      (λ k. absurd (none c u (subst (λ x. Edge es x c u) k.1 r.2)))
      (again p r.0 r.1)

  pub growing : Grown cs es (a ∷ q) t
  growing = record {
    tree = record {
      root = ap (λ x. x.check) (else 1 (reach_else [] 1 refl)) ∙ tree.root;
      blanks = λ j e. ⊎_elim
          (λ same. absurd (omega (arith, reach_some cs q s way, ap (parent es) same, ap (λ x. nat x.check) here)))
          (λ ne. else j ne ∙ tree.blanks j (ap (λ x. nat x.check) (sym (else j ne)) ∙ e))
          (cases_eq j t);
      reach = λ j h. ⊎_elim {C = (p : List ℕ) × Reach es p j}
          (λ same. (a ∷ q, subst (Reach es (a ∷ q)) (sym same) new))
          (λ ne. let w = tree.reach j (omega (arith, ap (λ x. nat x.check) (else j ne))) in (w.0, ahead w.0 j w.1))
          (cases_eq j t);
    };
    new = new;
    ahead = ahead;
    again = again;
  }

module _ (cs : List Cell) (t : ℕ) (tree : Tree cs) (used : 0 < parent cs t) (apart : t ≡ 1 → ⊥) (lone : Lone cs t) where
  abbrev fs : List Cell
  fs = set cs t free_cell

  pub here_f : at fs t ≡ free_cell
  here_f = get_or-set_same cs t free_cell free_cell (within cs t used)

  pub else_f : (j : ℕ) → (j ≡ t → ⊥) → at fs j ≡ at cs j
  else_f j ne = get_or-set_other cs t j free_cell free_cell ne

  ahead_f : (p : List ℕ) (u : ℕ) → Reach cs p u → (u ≡ t → ⊥) → Reach fs p u
  ahead_f [] u r ne = r
  ahead_f (c ∷ p) u r ne =
      let nr : r.0 ≡ t → ⊥ = λ e. lone c u (subst (λ x. Edge cs x c u) e r.2) in
      (r.0, ahead_f p r.0 r.1 nr, edge_kept cs fs r.0 c u (ap (λ x. nat x.base) (else_f r.0 nr)) (ap (λ x. x.check) (else_f u ne)) r.2)

  again_f : (p : List ℕ) (u : ℕ) → Reach fs p u → Reach cs p u × (u ≡ t → ⊥)
  again_f [] u r = (r, λ e. apart (sym e ∙ r))
  again_f (c ∷ p) u r =
      let k = again_f p r.0 r.1 in
      let ne : u ≡ t → ⊥ = λ e. omega (arith, reach_some cs p r.0 k.0, edge_up fs r.0 c u r.2, ap (parent fs) e, ap (λ x. nat x.check) here_f) in
      ((r.0, k.0, edge_kept fs cs r.0 c u (ap (λ x. nat x.base) (sym (else_f r.0 k.1))) (ap (λ x. x.check) (sym (else_f u ne))) r.2), ne)

  pub shrinking : Shrunk cs fs t
  shrinking = record {
    tree = record {
      root = ap (λ x. x.check) (else_f 1 (λ e. apart (sym e))) ∙ tree.root;
      blanks = λ j e. ⊎_elim
          (λ same. ap (at fs) same ∙ here_f)
          (λ ne. else_f j ne ∙ tree.blanks j (ap (λ x. nat x.check) (sym (else_f j ne)) ∙ e))
          (cases_eq j t);
      reach = λ j h.
          let ne : j ≡ t → ⊥ = λ e. omega (arith, ap (parent fs) e, ap (λ x. nat x.check) here_f) in
          let w = tree.reach j (omega (arith, ap (λ x. nat x.check) (else_f j ne))) in (w.0, ahead_f w.0 j w.1 ne);
    };
    ahead = ahead_f;
    again = again_f;
  }

module _ (cs : List Cell) (s : ℕ) (z : ℤ) (tree : Tree cs) (used : 0 < parent cs s) (lone : Lone cs s) where
  abbrev gs : List Cell
  gs = set cs s (record { base = z; check = (at cs s).check })

  check_g : (j : ℕ) → (at gs j).check ≡ (at cs j).check
  check_g j = ⊎_elim (λ e. ap (λ x. (at gs x).check) e ∙ ap (λ x. x.check) (get_or-set_same cs s (record { base = z; check = (at cs s).check }) free_cell (within cs s used)) ∙ ap (λ x. (at cs x).check) (sym e))
      (λ ne. ap (λ x. x.check) (get_or-set_other cs s j (record { base = z; check = (at cs s).check }) free_cell ne)) (cases_eq j s)

  low_g : (j : ℕ) → (j ≡ s → ⊥) → base_of gs j ≡ base_of cs j
  low_g j ne = ap (λ x. nat x.base) (get_or-set_other cs s j (record { base = z; check = (at cs s).check }) free_cell ne)

  ahead_g : (p : List ℕ) (u : ℕ) → Reach cs p u → Reach gs p u
  ahead_g [] u r = r
  ahead_g (c ∷ p) u r =
      (r.0, ahead_g p r.0 r.1, edge_kept cs gs r.0 c u (low_g r.0 (λ e. lone c u (subst (λ x. Edge cs x c u) e r.2))) (check_g u) r.2)

  -- what has the parent s is s, the root
  only : (p : List ℕ) (u : ℕ) → Reach cs p u → parent cs u ≡ s → u ≡ 1
  only [] u r e = r
  only (c ∷ p) u r e = absurd (lone c u (subst (λ x. Edge cs x c u) (sym (edge_up cs r.0 c u r.2) ∙ e) r.2))

  again_g : (p : List ℕ) (u : ℕ) → Reach gs p u → Reach cs p u
  again_g [] u r = r
  again_g (c ∷ p) u r =
      let k = again_g p r.0 r.1 in
      let par : parent cs u ≡ r.0 = sym (ap nat (check_g u)) ∙ edge_up gs r.0 c u r.2 in
      let w = tree.reach u (omega (arith, reach_some cs p r.0 k)) in
      let ne : r.0 ≡ s → ⊥ = λ e. root_apart gs r.0 c (subst (Edge gs r.0 c) (only w.0 u w.1 (par ∙ e)) r.2) in
      (r.0, k, edge_kept gs cs r.0 c u (sym (low_g r.0 ne)) (sym (check_g u)) r.2)

  pub basing : Same cs gs
  basing = record {
    tree = record {
      root = check_g 1 ∙ tree.root;
      blanks = λ j e.
          let ne : j ≡ s → ⊥ = λ q. omega (arith, ap (parent cs) q, ap nat (check_g j)) in
          get_or-set_other cs s j (record { base = z; check = (at cs s).check }) free_cell ne ∙ tree.blanks j (sym (ap nat (check_g j)) ∙ e);
      reach = λ j h. let w = tree.reach j (omega (arith, ap nat (check_g j))) in (w.0, ahead_g w.0 j w.1);
    };
    ahead = ahead_g;
    again = again_g;
  }
