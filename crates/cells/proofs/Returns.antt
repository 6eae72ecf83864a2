-- A family that moves keeps what is held, and one that moves back leaves every cell as it was.
use Rattle.std.proofs.Common.{◌≡◌, ℕ, ◌+◌, ◌<◌, List, ◌∷◌, pos, sym, ap, ◌∙◌, subst, inl, inr, ⊎_elim, arith}
use Rattle.std.proofs.lemmas.List.{ext_get_or}
use Rattle.std.proofs.lemmas.Bool.{cases_eq}
use Rattle.cells.specs.declared.Cell.{Cell}
use Rattle.cells.specs.Cells.{free_cell, at, nat, base_of, parent}
use Rattle.cells.specs.Trees.{Edge, Reach, Held, Room}
use Rattle.cells.proofs.Trees.{Tree, LeafOrParent, WholeBut, Family, NotLeaf}
use Rattle.cells.proofs.Changes.{Moved}
use Rattle.cells.specs.Placing.{relocated}
use Rattle.cells.proofs.Paths.{edge_up, reach_some, reach_same, root_apart, reach_used}
use Rattle.cells.proofs.Counts.{within}
use Rattle.cells.proofs.Renamings.{up_used, moving, s_stays, not_s, check_there, base_there, edge_there, back}
use Rattle.cells.proofs.Relocations.{nat_is, kind, FamilyMoved, moves_all}

cell_same : (c d : Cell) → c.base ≡ d.base → c.check ≡ d.check → c ≡ d
cell_same c d p q = λ i. record { base = p i; check = q i }

-- the facts of a move, under one hypothesis
module _ (cs es : List Cell) (s e : ℕ) (tree : Tree cs) (used : 0 < parent cs s) (low_e : 0 < e) (m : FamilyMoved cs s e es) where
  pub well : Moved cs es s e m.to
  well = moving cs m.mid es s e m.to tree used low_e m.ren m.reb m.shifts

  pub stays : m.to s ≡ s
  stays = s_stays cs m.mid es s e m.to tree used low_e m.ren m.reb m.shifts

  pub check_at : (u : ℕ) → 0 < parent cs u → (at es (m.to u)).check ≡ pos (m.to (parent cs u))
  check_at = check_there cs m.mid es s e m.to tree used low_e m.ren m.reb m.shifts

  pub up_at : (u : ℕ) → 0 < parent cs u → parent es (m.to u) ≡ m.to (parent cs u)
  up_at u h = ap nat (check_at u h)

  pub used_at : (u : ℕ) → 0 < parent cs u → 0 < parent es (m.to u)
  used_at u h = omega (arith, up_at u h, m.ren.some (parent cs u) h)

  pub base_at : (u : ℕ) → 0 < parent cs u → (u ≡ s → ⊥) → (at es (m.to u)).base ≡ (at cs u).base
  base_at = base_there cs m.mid es s e m.to tree used low_e m.ren m.reb m.shifts

  pub edge_at : (r a t : ℕ) → 0 < parent cs r → Edge cs r a t → Edge es (m.to r) a (m.to t)
  edge_at r a t h k = let w = tree.reach r h in edge_there cs m.mid es s e m.to tree used low_e m.ren m.reb m.shifts w.0 r a t w.1 k

  pub edge_s : (a t : ℕ) → Edge cs s a t → Edge es s a (m.to t)
  edge_s a t k = subst (λ x. Edge es x a (m.to t)) stays (edge_at s a t used k)

  pub back_at : (j : ℕ) → 0 < parent es j → (u : ℕ) × (0 < parent cs u) × (m.to u ≡ j)
  back_at = back cs m.mid es s e m.to tree used low_e m.ren m.reb m.shifts

  pub base_s : (at es s).base ≡ pos e
  base_s = ap (λ c. c.base) m.reb.here

  pub used_s : 0 < parent es s
  used_s = subst (λ x. 0 < parent es x) stays (used_at s used)

  -- a leaf is none but itself
  pub held_ahead : NotLeaf cs s → (p : List ℕ) (n : ℕ) → Held cs p n → Held es p n
  held_ahead leafless p n h =
      let ne : h.0 ≡ s → ⊥ = λ q. leafless n (ap (λ x. (at cs x).base) (sym q) ∙ h.2) in
      (m.to h.0, well.ahead p h.0 h.1, base_at h.0 (reach_used cs tree p h.0 h.1) ne ∙ h.2)

  pub held_again : (p : List ℕ) (n : ℕ) → Held es p n → Held cs p n
  held_again p n h =
      let o = well.again p h.0 h.1 in
      let ne : o.0 ≡ s → ⊥ = λ q. omega (arith, ap (base_of es) (sym o.2 ∙ ap m.to q ∙ stays), ap nat base_s, ap nat h.2) in
      (o.0, o.1, sym (base_at o.0 (reach_used cs tree p o.0 o.1) ne) ∙ ap (λ x. (at es x).base) o.2 ∙ h.2)

  pub whole_at : NotLeaf cs s → (o : ℕ) → 0 < parent cs o → WholeBut cs o → WholeBut es (m.to o)
  whole_at leafless o ho whole j h one open' =
      let k = back_at j h in
      subst (LeafOrParent es) k.2
      (⊎_elim
      (λ leaf. inl (leaf.0, base_at k.0 k.1 (λ q. leafless leaf.0 (ap (λ x. (at cs x).base) (sym q) ∙ leaf.1)) ∙ leaf.1))
      (λ child. inr (child.0, m.to child.1, edge_at k.0 child.0 child.1 k.1 child.2))
      (whole k.0 k.1 (λ q. one (sym k.2 ∙ ap m.to q ∙ m.ren.root)) (λ q. open' (sym k.2 ∙ ap m.to q))))

-- there and back
module _ (cs es xs : List Cell) (s e : ℕ) (tree : Tree cs) (used : 0 < parent cs s) (low_e : 0 < e) (inner : 0 < base_of cs s) (m : FamilyMoved cs s e es) (n : FamilyMoved es s (base_of cs s) xs) where
  tree_e : Tree es
  tree_e = (well cs es s e tree used low_e m).tree

  used_e : 0 < parent es s
  used_e = used_s cs es s e tree used low_e m

  round : (u : ℕ) → 0 < parent cs u → n.to (m.to u) ≡ u
  round u h =
      let w = tree.reach u h in
      ⊎_elim
      (λ child. n.shifts.child child.0 (m.to u) (edge_s cs es s e tree used low_e m child.0 u child.1) ∙ sym child.1.place)
      (λ other. n.shifts.other (m.to u) (used_at cs es s e tree used low_e m u h)
      (λ q.
      let par : parent cs u ≡ s = m.ren.apart (parent cs u) s (up_used cs tree w.0 u w.1) used (sym (up_at cs es s e tree used low_e m u h) ∙ q ∙ sym (stays cs es s e tree used low_e m)) in
      ap m.to (other par) ∙ m.ren.root)
      ∙ m.shifts.other u h other)
      (kind cs s u w.0 w.1)

  check_same : (u : ℕ) → 0 < parent cs u → (at xs u).check ≡ (at cs u).check
  check_same u h =
      let w = tree.reach u h in
      ap (λ x. (at xs x).check) (sym (round u h))
      ∙ check_at es xs s (base_of cs s) tree_e used_e inner n (m.to u) (used_at cs es s e tree used low_e m u h)
      ∙ ap (λ x. pos (n.to x)) (up_at cs es s e tree used low_e m u h)
      ∙ ap pos (round (parent cs u) (up_used cs tree w.0 u w.1)) ∙ sym (nat_is (at cs u).check h)

  base_same : (u : ℕ) → 0 < parent cs u → (at xs u).base ≡ (at cs u).base
  base_same u h =
      ⊎_elim
      (λ q. ap (λ x. (at xs x).base) q ∙ base_s es xs s (base_of cs s) tree_e used_e inner n ∙ sym (nat_is (at cs s).base inner) ∙ ap (λ x. (at cs x).base) (sym q))
      (λ ne.
      ap (λ x. (at xs x).base) (sym (round u h))
      ∙ base_at es xs s (base_of cs s) tree_e used_e inner n (m.to u) (used_at cs es s e tree used low_e m u h)
      (not_s cs m.mid es s e m.to tree used low_e m.ren m.reb m.shifts u h ne)
      ∙ base_at cs es s e tree used low_e m u h ne)
      (cases_eq u s)

  cell_back : (u : ℕ) → at xs u ≡ at cs u
  cell_back u =
      ⊎_elim
      (λ none.
      ⊎_elim
      (λ z. (well es xs s (base_of cs s) tree_e used_e inner n).tree.blanks u z ∙ sym (tree.blanks u none))
      (λ nz.
      let o = back_at es xs s (base_of cs s) tree_e used_e inner n u (omega arith) in
      let i = back_at cs es s e tree used low_e m o.0 o.1 in
      let same : i.0 ≡ u = sym (round i.0 i.1) ∙ ap n.to i.2 ∙ o.2 in
      absurd (omega (arith, i.1, ap (parent cs) same)))
      (cases_eq (parent xs u) 0))
      (λ some. cell_same (at xs u) (at cs u) (base_same u (omega arith)) (check_same u (omega arith)))
      (cases_eq (parent cs u) 0)

  pub all_back : xs ≡ cs
  all_back = ext_get_or free_cell xs cs (n.reb.long ∙ n.ren.long ∙ m.reb.long ∙ m.ren.long) (λ i h. cell_back i)

module _ (cs : List Cell) (s : ℕ) (codes : List ℕ) (e : ℕ) (tree : Tree cs) (used : 0 < parent cs s) (low_e : 0 < e) (inner : 0 < base_of cs s) (fam : Family cs s codes) (room : Room cs codes e) where
  abbrev es : List Cell
  es = relocated cs s codes e

  m : FamilyMoved cs s e es
  m = moves_all cs s codes e tree used low_e fam room

  pub family_after : Family es s codes
  family_after = record {
    apart = fam.apart;
    sound = λ a i. let k = edge_s cs es s e tree used low_e m a (base_of cs s + a) (fam.sound a i) in subst (Edge es s a) k.place k;
    whole = λ a u k.
        let w = tree.reach s used in
        let o = (well cs es s e tree used low_e m).again (a ∷ w.0) u (s, subst (Reach es w.0) (stays cs es s e tree used low_e m) ((well cs es s e tree used low_e m).ahead w.0 s w.1), k) in
        let same : o.1.0 ≡ s = reach_same cs w.0 o.1.0 s o.1.1 w.1 in
        fam.whole a o.0 (subst (λ x. Edge cs x a o.0) same o.1.2);
  }

  pub room_after : Room es codes (base_of cs s)
  room_after a i =
      let k = fam.sound a i in
      let u : ℕ = base_of cs s + a in
      let h : 0 < parent cs u = omega (arith, edge_up cs s a u k, reach_some cs (tree.reach s used).0 s (tree.reach s used).1) in (
        omega (arith, within cs u h, m.reb.long, m.ren.long),
        ⊎_elim (λ z. z)
            (λ nz.
            let o = back_at cs es s e tree used low_e m u (omega arith) in
            let w = tree.reach o.0 o.1 in
            ⊎_elim
            (λ child. absurd (omega (arith, (room child.0 (fam.whole child.0 o.0 child.1)).1, ap (parent cs) (sym (m.shifts.child child.0 o.0 child.1) ∙ o.2))))
            (λ other.
            let same : o.0 ≡ u = sym (m.shifts.other o.0 o.1 other) ∙ o.2 in
            let one : o.0 ≡ 1 = other (ap (parent cs) same ∙ edge_up cs s a u k) in
            absurd (root_apart cs s a (subst (Edge cs s a) (sym same ∙ one) k)))
            (kind cs s o.0 w.0 w.1))
            (cases_eq (parent es u) 0),
      )

  pub returning : relocated es s codes (base_of cs s) ≡ cs
  returning =
      all_back cs es (relocated es s codes (base_of cs s)) s e tree used low_e inner m
      (moves_all es s codes (base_of cs s) (well cs es s e tree used low_e m).tree (used_s cs es s e tree used low_e m) inner family_after room_after)
