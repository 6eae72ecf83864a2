-- A child that is given to a node, and a node that is freed.
use Rattle.std.proofs.Common.{◌≡◌, ℕ, ◌+◌, ◌<◌, ◌⊎◌, List, ◌∷◌, length, set, ℤ, pos, negsuc, sym, refl, ap, ◌∙◌, subst, inl, inr, ⊎_elim, arith}
use Rattle.std.proofs.lemmas.List.{set-set, set-get_or}
use Rattle.std.proofs.lemmas.Bool.{cases_eq}
use Rattle.cells.specs.declared.Cell.{Cell}
use Rattle.cells.specs.Cells.{free_cell, at, nat, base_of, parent}
use Rattle.members.specs.Lists.{In}
use Rattle.cells.specs.Trees.{Edge, Reach, Held, Room}
use Rattle.cells.proofs.Trees.{Tree, WholeBut, Family, Lone, NotLeaf}
use Rattle.cells.proofs.Changes.{Shifts, Grown, Shrunk, Placed, Freed}
use Rattle.cells.specs.Placing.{relocated, placed}
use Rattle.cells.proofs.Paths.{edge_up, reach_some, reach_same, reach_unique, reach_used}
use Rattle.cells.proofs.Relocations.{kind, FamilyMoved, moves_all}
use Rattle.cells.proofs.Returns.{well, stays, back_at, base_s, held_ahead, held_again, whole_at, returning}
use Rattle.cells.proofs.Edits.{edge_kept, here, else, used_else, growing, here_f, else_f, shrinking}

module _ (cs : List Cell) (s a : ℕ) (q : List ℕ) (z : ℤ) (tree : Tree cs) (way : Reach cs q s) (some : 0 < a) (code : a < 258) (inner : 0 < base_of cs s) (fits : base_of cs s + a < length cs) (free : parent cs (base_of cs s + a) ≡ 0) where
  abbrev t : ℕ
  t = base_of cs s + a

  abbrev es : List Cell
  es = set cs t (record { base = z; check = pos s })

  grown : Grown cs es (a ∷ q) t
  grown = growing cs s a q z tree way some code inner fits free

  at_t : at es t ≡ record { base = z; check = pos s }
  at_t = here cs s a q z tree way some code inner fits free

  kept : (u : ℕ) → 0 < parent cs u → at es u ≡ at cs u
  kept u h = else cs s a q z tree way some code inner fits free u (used_else cs s a q z tree way some code inner fits free u h)

  held_kept : (p : List ℕ) (n : ℕ) → Held cs p n → Held es p n
  held_kept p n h = (h.0, grown.ahead p h.0 h.1, ap (λ c. c.base) (kept h.0 (reach_used cs tree p h.0 h.1)) ∙ h.2)

  held_back : (p : List ℕ) (n : ℕ) → Held es p n → Held cs p n ⊎ ((p ≡ a ∷ q) × (z ≡ negsuc n))
  held_back p n h =
      ⊎_elim
      (λ r. inl (h.0, r, ap (λ c. c.base) (sym (kept h.0 (reach_used cs tree p h.0 r))) ∙ h.2))
      (λ k. inr (k.0, ap (λ c. c.base) (sym at_t) ∙ ap (λ x. (at es x).base) (sym k.1) ∙ h.2))
      (grown.again p h.0 h.1)

  edge_on : (r c u : ℕ) → 0 < parent cs r → 0 < parent cs u → Edge cs r c u → Edge es r c u
  edge_on r c u hr hu = edge_kept cs es r c u (ap (λ x. nat x.base) (kept r hr)) (ap (λ x. x.check) (kept u hu))

  whole_on : WholeBut cs s → WholeBut es t
  whole_on whole j h one nt =
      let hj : 0 < parent cs j = omega (arith, ap (λ x. nat x.check) (else cs s a q z tree way some code inner fits free j nt)) in
      ⊎_elim
      (λ same. inr (a, t, last same))
      (λ ns. ⊎_elim
      (λ leaf. inl (leaf.0, ap (λ c. c.base) (kept j hj) ∙ leaf.1))
      (λ child. inr (child.0, child.1, edge_on j child.0 child.1 hj (omega (arith, edge_up cs j child.0 child.1 child.2, reach_some cs (tree.reach j hj).0 j (tree.reach j hj).1)) child.2))
      (whole j hj one ns))
      (cases_eq j s)
    where
      last : j ≡ s → Edge es j a t
      last e = subst (λ x. Edge es x a t) (reach_same es q grown.new.0 s grown.new.1 (grown.ahead q s way) ∙ sym e) grown.new.2

  pub taking : Placed cs es s (a ∷ q) t z (λ u. u)
  taking = record {
    tree = grown.tree;
    new = grown.new;
    base = ap (λ c. c.base) at_t;
    ahead = grown.ahead;
    again = λ p j r. ⊎_elim (λ k. inl (j, k, refl)) (λ k. inr k) (grown.again p j r);
    held = held_kept;
    held_again = held_back;
    whole = whole_on;
  }

module _ (cs : List Cell) (s a : ℕ) (q codes : List ℕ) (e : ℕ) (z : ℤ) (tree : Tree cs) (way : Reach cs q s) (fam : Family cs s codes) (fresh : In codes a → ⊥) (low_e : 0 < e) (room : Room cs (a ∷ codes) e) where
  abbrev ms : List Cell
  ms = relocated cs s codes e

  used : 0 < parent cs s
  used = reach_used cs tree q s way

  room_m : Room cs codes e
  room_m c i = room c (inr i)

  pub m : FamilyMoved cs s e ms
  m = moves_all cs s codes e tree used low_e fam room_m

  low_m : base_of ms s ≡ e
  low_m = ap nat (base_s cs ms s e tree used low_e m)

  pub long_m : length ms ≡ length cs
  long_m = m.reb.long ∙ m.ren.long

  way_m : Reach ms q s
  way_m = subst (Reach ms q) (stays cs ms s e tree used low_e m) ((well cs ms s e tree used low_e m).ahead q s way)

  pub free_m : parent ms (e + a) ≡ 0
  free_m = ⊎_elim (λ n. n)
      (λ nz.
      let o = back_at cs ms s e tree used low_e m (e + a) (omega arith) in
      let w = tree.reach o.0 o.1 in
      ⊎_elim
      (λ child. let same : child.0 ≡ a = omega (arith, m.shifts.child child.0 o.0 child.1, o.2) in absurd (fresh (subst (In codes) same (fam.whole child.0 o.0 child.1))))
      (λ other. absurd (omega (arith, o.1, (room a (inl refl)).1, ap (parent cs) (sym (m.shifts.other o.0 o.1 other) ∙ o.2))))
      (kind cs s o.0 w.0 w.1))
      (cases_eq (parent ms (e + a)) 0)

  module _ (some : 0 < a) (code : a < 258) (leafless : NotLeaf cs s) where
    took : Placed ms (placed cs s codes e a z) s (a ∷ q) (e + a) z (λ u. u)
    took =
        subst (λ b. Placed ms (set ms (b + a) (record { base = z; check = pos s })) s (a ∷ q) (b + a) z (λ u. u)) low_m
        (taking ms s a q z (well cs ms s e tree used low_e m).tree way_m some code (omega (arith, low_m)) (omega (arith, low_m, long_m, (room a (inl refl)).0)) (ap (λ b. parent ms (b + a)) low_m ∙ free_m))

    pub placing' : (f : ℕ → ℕ) × Shifts cs s e f × Placed cs (placed cs s codes e a z) s (a ∷ q) (e + a) z f
    placing' = (
      m.to,
      m.shifts,
      record {
        tree = took.tree;
        new = took.new;
        base = took.base;
        ahead = λ p u r. took.ahead p (m.to u) ((well cs ms s e tree used low_e m).ahead p u r);
        again = λ p j r. ⊎_elim
            (λ k. let o = (well cs ms s e tree used low_e m).again p k.0 k.1 in inl (o.0, o.1, o.2 ∙ k.2))
            (λ k. inr k)
            (took.again p j r);
        held = λ p n h. took.held p n (held_ahead cs ms s e tree used low_e m leafless p n h);
        held_again = λ p n h. ⊎_elim (λ k. inl (held_again cs ms s e tree used low_e m p n k)) (λ k. inr k) (took.held_again p n h);
        whole = λ w. took.whole (subst (WholeBut ms) (stays cs ms s e tree used low_e m) (whole_at cs ms s e tree used low_e m leafless s used w));
      },
    )

  pub undoing' : 0 < base_of cs s → relocated (set (placed cs s codes e a z) (e + a) free_cell) s codes (base_of cs s) ≡ cs
  undoing' inner =
      let empty : free_cell ≡ at ms (e + a) = sym ((well cs ms s e tree used low_e m).tree.blanks (e + a) free_m) in
      let same : set (placed cs s codes e a z) (e + a) free_cell ≡ ms = set-set ms (e + a) (record { base = z; check = pos s }) free_cell ∙ ap (set ms (e + a)) empty ∙ set-get_or ms (e + a) free_cell in
      ap (λ l. relocated l s codes (base_of cs s)) same ∙ returning cs s codes e tree used low_e inner fam room_m

pub placing : (cs : List Cell) (s a : ℕ) (q codes : List ℕ) (e : ℕ) (z : ℤ) → Tree cs → Reach cs q s → 0 < a → a < 258 → NotLeaf cs s → Family cs s codes → (In codes a → ⊥) → 0 < e → Room cs (a ∷ codes) e → (f : ℕ → ℕ) × Shifts cs s e f × Placed cs (placed cs s codes e a z) s (a ∷ q) (e + a) z f
placing cs s a q codes e z tree way some code leafless fam fresh low_e room = placing' cs s a q codes e z tree way fam fresh low_e room some code leafless

pub undoing : (cs : List Cell) (s a : ℕ) (q codes : List ℕ) (e : ℕ) (z : ℤ) → Tree cs → Reach cs q s → 0 < base_of cs s → Family cs s codes → (In codes a → ⊥) → 0 < e → Room cs (a ∷ codes) e → relocated (set (placed cs s codes e a z) (e + a) free_cell) s codes (base_of cs s) ≡ cs
undoing cs s a q codes e z tree way inner fam fresh low_e room = undoing' cs s a q codes e z tree way fam fresh low_e room inner

module _ (cs : List Cell) (t : ℕ) (p : List ℕ) (tree : Tree cs) (way : Reach cs p t) (apart : t ≡ 1 → ⊥) (lone : Lone cs t) where
  abbrev fs : List Cell
  fs = set cs t free_cell

  gone : 0 < parent cs t
  gone = reach_used cs tree p t way

  shrunk : Shrunk cs fs t
  shrunk = shrinking cs t tree gone apart lone

  stay : (j : ℕ) → (j ≡ t → ⊥) → at fs j ≡ at cs j
  stay = else_f cs t tree gone apart lone

  not_t : (q : List ℕ) (u : ℕ) → Reach cs q u → (q ≡ p → ⊥) → u ≡ t → ⊥
  not_t q u r ne e = ne (reach_unique cs q p t (subst (Reach cs q) e r) way)

  not_p : (q : List ℕ) (u : ℕ) → Reach cs q u → (u ≡ t → ⊥) → q ≡ p → ⊥
  not_p q u r ne e = ne (reach_same cs p u t (subst (λ x. Reach cs x u) e r) way)

  whole_f : WholeBut cs t → WholeBut fs (parent cs t)
  whole_f whole j h one ns =
      let nt : j ≡ t → ⊥ = λ e. omega (arith, ap (parent fs) e, ap (λ x. nat x.check) (here_f cs t tree gone apart lone)) in
      let hj : 0 < parent cs j = omega (arith, ap (λ x. nat x.check) (stay j nt)) in
      ⊎_elim
      (λ leaf. inl (leaf.0, ap (λ c. c.base) (stay j nt) ∙ leaf.1))
      (λ child.
      let nu : child.1 ≡ t → ⊥ = λ e. ns (sym (edge_up cs j child.0 child.1 child.2) ∙ ap (parent cs) e) in
      inr (child.0, child.1, edge_kept cs fs j child.0 child.1 (ap (λ x. nat x.base) (stay j nt)) (ap (λ x. x.check) (stay child.1 nu)) child.2))
      (whole j hj one nt)

  pub freeing' : Freed cs fs p t
  freeing' = record {
    tree = shrunk.tree;
    ahead = λ q u r ne. shrunk.ahead q u r (not_t q u r ne);
    again = λ q u r. let k = shrunk.again q u r in (k.0, not_p q u k.0 k.1);
    held = λ q n h ne. (h.0, shrunk.ahead q h.0 h.1 (not_t q h.0 h.1 ne), ap (λ c. c.base) (stay h.0 (not_t q h.0 h.1 ne)) ∙ h.2);
    held_again = λ q n h. let k = shrunk.again q h.0 h.1 in ((h.0, k.0, ap (λ c. c.base) (sym (stay h.0 k.1)) ∙ h.2), not_p q h.0 k.0 k.1);
    whole = whole_f;
  }

pub freeing : (cs : List Cell) (t : ℕ) (p : List ℕ) → Tree cs → Reach cs p t → (t ≡ 1 → ⊥) → Lone cs t → Freed cs (set cs t free_cell) p t
freeing cs t p tree way apart lone = freeing' cs t p tree way apart lone
