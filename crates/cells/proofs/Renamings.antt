-- A family that moves: each path leads to the same cell as before, at its new place.
use Rattle.std.proofs.Common.{◌≡◌, ℕ, ◌+◌, ◌<◌, List, [], ◌∷◌, length, pos, sym, refl, ap, ◌∙◌, subst, ⊎_elim, arith}
use Rattle.std.proofs.lemmas.Bool.{cases_eq}
use Rattle.cells.specs.declared.Cell.{Cell}
use Rattle.cells.specs.Cells.{at, nat, base_of, parent}
use Rattle.cells.specs.Trees.{Edge, Reach}
use Rattle.cells.proofs.Trees.{Tree}
use Rattle.cells.proofs.Changes.{Renames, Rebased, Shifts, Moved}
use Rattle.cells.proofs.Paths.{edge_up, reach_some, root_apart, reach_unique, reach_used}

-- the parent of a used cell is used
pub up_used : (cs : List Cell) (tree : Tree cs) (p : List ℕ) (t : ℕ) → Reach cs p t → 0 < parent cs (parent cs t)
up_used cs tree [] t r =
    let one : parent cs 1 ≡ 1 = ap nat tree.root in
    let two : parent cs (parent cs t) ≡ parent cs (parent cs 1) = ap (λ x. parent cs (parent cs x)) r in
    let three : parent cs (parent cs 1) ≡ parent cs 1 = ap (parent cs) one in
    omega arith
up_used cs tree (a ∷ p) t r = subst (λ s. 0 < parent cs s) (sym (edge_up cs r.0 a t r.2)) (reach_used cs tree p r.0 r.1)

-- no cell is its own child
pub not_own : (cs : List Cell) (tree : Tree cs) (a s : ℕ) → Edge cs s a s → ⊥
not_own cs tree a s e =
    let k = tree.reach s (omega (arith, edge_up cs s a s e, e.place, e.some)) in
    let same : k.0 ≡ a ∷ k.0 = reach_unique cs k.0 (a ∷ k.0) s k.1 (s, k.1, e) in
    omega (arith, ap length same)

pub own_root : (cs : List Cell) (tree : Tree cs) (p : List ℕ) (s : ℕ) → Reach cs p s → parent cs s ≡ s → s ≡ 1
own_root cs tree [] s k e = k
own_root cs tree (a ∷ p) s k e = absurd (not_own cs tree a s (subst (λ r. Edge cs r a s) (sym (edge_up cs k.0 a s k.2) ∙ e) k.2))

module _ (cs ds es : List Cell) (s b : ℕ) (f : ℕ → ℕ) (tree : Tree cs) (used : 0 < parent cs s) (low_b : 0 < b) (ren : Renames cs ds f) (reb : Rebased ds es s (pos b)) (sh : Shifts cs s b f) where
  pub same_check : (j : ℕ) → (at es j).check ≡ (at ds j).check
  same_check j = ⊎_elim (λ e. rw e (ap (λ c. c.check) reb.here)) (λ ne. ap (λ c. c.check) (reb.else j ne)) (cases_eq j s)

  pub s_stays : f s ≡ s
  s_stays = let k = tree.reach s used in sh.other s used (own_root cs tree k.0 s k.1)

  pub not_s : (u : ℕ) → 0 < parent cs u → (u ≡ s → ⊥) → f u ≡ s → ⊥
  not_s u h ne e = ne (ren.apart u s h used (e ∙ sym s_stays))

  pub check_there : (u : ℕ) → 0 < parent cs u → (at es (f u)).check ≡ pos (f (parent cs u))
  check_there u h = same_check (f u) ∙ ap (λ c. c.check) (ren.there u h)

  pub base_there : (u : ℕ) → 0 < parent cs u → (u ≡ s → ⊥) → (at es (f u)).base ≡ (at cs u).base
  base_there u h ne = ap (λ c. c.base) (reb.else (f u) (not_s u h ne) ∙ ren.there u h)

  pub edge_there : (p : List ℕ) (r a t : ℕ) → Reach cs p r → Edge cs r a t → Edge es (f r) a (f t)
  edge_there p r a t k e =
      let hr : 0 < parent cs r = reach_used cs tree p r k in
      let ht : 0 < parent cs t = reach_used cs tree (a ∷ p) t (r, k, e) in
      let check : (at es (f t)).check ≡ pos (f r) = check_there t ht ∙ ap (λ x. pos (f x)) (edge_up cs r a t e) in
      ⊎_elim
      (λ same.
      let base : base_of es (f r) ≡ b = ap (λ x. base_of es (f x)) same ∙ ap (base_of es) s_stays ∙ ap (λ c. nat c.base) reb.here in
      let at_b : f t ≡ b + a = sh.child a t (subst (λ x. Edge cs x a t) same e) in
      record { some = e.some; code = e.code; inner = omega arith; place = omega arith; check = check })
      (λ ne.
      let base : base_of es (f r) ≡ base_of cs r = ap nat (base_there r hr ne) in
      let stays : f t ≡ t = sh.other t ht (λ q. absurd (ne (sym (edge_up cs r a t e) ∙ q))) in
      record { some = e.some; code = e.code; inner = omega (arith, e.inner); place = omega (arith, e.place); check = check })
      (cases_eq r s)

  ahead : (p : List ℕ) (t : ℕ) → Reach cs p t → Reach es p (f t)
  ahead [] t k = ap f k ∙ ren.root
  ahead (a ∷ p) t k = (f k.0, ahead p k.0 k.1, edge_there p k.0 a t k.1 k.2)

  pub back : (j : ℕ) → 0 < parent es j → (u : ℕ) × (0 < parent cs u) × (f u ≡ j)
  back j h = ren.back j (omega (arith, ap nat (same_check j)))

  -- the path to u in the old tree, taken apart
  known : (p : List ℕ) (r a j u : ℕ) → Reach cs p r → Edge es (f r) a j → f u ≡ j → parent cs u ≡ r → (q : List ℕ) → Reach cs q u → Edge cs r a u
  known p r a j u k e is par [] m = absurd (root_apart es (f r) a (subst (Edge es (f r) a) (sym is ∙ ap f m ∙ ren.root) e))
  known p r a j u k e is par (c ∷ q) m =
      let old : Edge cs r c u = subst (λ x. Edge cs x c u) (sym (edge_up cs m.0 c u m.2) ∙ par) m.2 in
      let new = edge_there p r c u k old in
      let same : c ≡ a = omega (arith, new.place, e.place) in
      subst (λ x. Edge cs r x u) same old

  again : (p : List ℕ) (j : ℕ) → Reach es p j → (t : ℕ) × Reach cs p t × (f t ≡ j)
  again [] j k = (1, refl, ren.root ∙ sym k)
  again (a ∷ p) j k =
      let ih = again p k.0 k.1 in
      let e : Edge es (f ih.0) a j = subst (λ x. Edge es x a j) (sym ih.2) k.2 in
      let from = back j (omega (arith, edge_up es k.0 a j k.2, reach_some es p k.0 k.1)) in
      let way = tree.reach from.0 from.1 in
      let ups : f (parent cs from.0) ≡ f ih.0 = sym (ap nat (check_there from.0 from.1)) ∙ ap (parent es) from.2 ∙ edge_up es (f ih.0) a j e in
      let par : parent cs from.0 ≡ ih.0 = ren.apart (parent cs from.0) ih.0 (up_used cs tree way.0 from.0 way.1) (reach_used cs tree p ih.0 ih.1) ups in
      (from.0, (ih.0, ih.1, known p ih.0 a j from.0 ih.1 e from.2 par way.0 way.1), from.2)

  tree_there : Tree es
  tree_there =
      let one : parent cs 1 ≡ 1 = ap nat tree.root in
      record {
        root = subst (λ x. (at es x).check ≡ pos 1) ren.root (check_there 1 (omega arith) ∙ ap (λ x. pos (f x)) one ∙ ap pos ren.root);
        blanks = λ j e.
            let ne : j ≡ s → ⊥ = λ same. omega (arith, ap (parent es) same, ap (parent es) s_stays, ap nat (check_there s used), ren.some (parent cs s) used) in
            reb.else j ne ∙ ren.blanks j (ap nat (sym (same_check j)) ∙ e);
        reach = λ j h. let from = back j h in let way = tree.reach from.0 from.1 in (way.0, subst (Reach es way.0) from.2 (ahead way.0 from.0 way.1));
      }

  pub moving : Moved cs es s b f
  moving = record { tree = tree_there; ahead = ahead; again = again; bases = base_there }
