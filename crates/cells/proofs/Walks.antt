-- The walk follows the paths.
use Rattle.std.proofs.Common.{◌≡◌, ℕ, zero, suc, ◌+◌, ◌<◌, true, false, cond, ◌&&◌, ltb, List, [], ◌∷◌, ◌++◌, length, ℤ, pos, negsuc, is_some, Some, None, Option, sym, refl, ap, ◌∙◌, subst, inl, inr, ⊎_elim, append-nil, arith}
use lib.Signed.{lt_z}
use Rattle.std.proofs.lemmas.Bool.{cases_eq, cond-true, cond_both, and_parts, and_from, lt-ltb, ltb-true, eqb-true, both_ways}
use Rattle.cells.specs.declared.Cell.{Cell}
use Rattle.cells.specs.Cells.{at, nat, base_of, parent, same_int, edge, child, codes_below}
use Rattle.members.specs.Lists.{In, Apart}
use Rattle.cells.specs.Trees.{Edge, Reach}
use Rattle.cells.specs.Walking.{onward, walk, turned}
use Rattle.cells.proofs.Trees.{Family}
use Rattle.cells.proofs.Basics.{no_some, some_is}
use Rattle.cells.proofs.Paths.{edge_up, reach_some, reach_same}
use Rattle.members.proofs.Members.{in_append, in_front, in_rest}
use Rattle.cells.proofs.Counts.{within}
use Rattle.cells.proofs.Relocations.{positive, same_int_yes}

-- each of them is a code
abbrev pub Codes : List ℕ → Type 0
Codes [] = Unit {0}
Codes (a ∷ p) = ((0 < a) × (a < 258)) × Codes p

positive_back : (z : ℤ) → lt_z (pos 0) z ≡ true → 0 < nat z
positive_back (pos n) e = ltb-true 0 n e
positive_back (negsuc n) e = absurd (both_ways false refl e)

same_int_back : (z : ℤ) (x : ℕ) → same_int z (pos x) ≡ true → z ≡ pos x
same_int_back (pos n) x e = ap pos (eqb-true n x e)
same_int_back (negsuc n) x e = absurd (both_ways false refl e)

pub onward_some : (o : Option ℕ) (g : ℕ → Option ℕ) (t : ℕ) → onward o g ≡ Some t → (u : ℕ) × (o ≡ Some u) × (g u ≡ Some t)
onward_some None g t e = absurd (no_some t e)
onward_some (Some u) g t e = (u, refl, e)

module _ (cs : List Cell) (s a : ℕ) where
  pub child_edge : 0 < a → a < 258 → (t : ℕ) → child cs s a ≡ Some t → Edge cs s a t
  child_edge some code t =
      cond_both (edge cs s (base_of cs s + a)) (Some (base_of cs s + a)) None (λ (o : Option ℕ). o ≡ Some t → Edge cs s a t)
      (λ e is.
      let same : base_of cs s + a ≡ t = cc in
      let h = and_parts _ _ e in
      subst (Edge cs s a) same (record { some = some; code = code; inner = positive_back (at cs s).base (and_parts _ _ h.0).0; place = refl; check = same_int_back (at cs (base_of cs s + a)).check s h.1 }))
      (λ e is. absurd (no_some t is))

  pub edge_child : 0 < s → (t : ℕ) → Edge cs s a t → child cs s a ≡ Some t
  edge_child h t e =
      let k : Edge cs s a (base_of cs s + a) = subst (Edge cs s a) e.place e in
      let up_k : parent cs (base_of cs s + a) ≡ s = edge_up cs s a (base_of cs s + a) k in
      cond-true (edge cs s (base_of cs s + a)) (Some (base_of cs s + a)) None
      (and_from _ _ (and_from _ _ (positive (at cs s).base e.inner) (lt-ltb (base_of cs s + a) (length cs) (within cs (base_of cs s + a) (omega arith)))) (same_int_yes (at cs (base_of cs s + a)).check s h up_k))
      ∙ ap Some (sym e.place)

module _ (cs : List Cell) where
  -- a path's beginning
  pub begun : (p q : List ℕ) (t : ℕ) → Reach cs (turned p q) t → (u : ℕ) × Reach cs q u
  begun [] q t r = (t, r)
  begun (a ∷ p) q t r = let k = begun p (a ∷ q) t r in (k.1.0, k.1.1)

  pub walk_reach : (p q : List ℕ) (s t : ℕ) → Codes p → Reach cs q s → walk cs s p ≡ Some t → Reach cs (turned p q) t
  walk_reach [] q s t c r e = let same : s ≡ t = cc in subst (Reach cs q) same r
  walk_reach (a ∷ p) q s t c r e =
      let k = onward_some (child cs s a) (λ u. walk cs u p) t e in
      walk_reach p (a ∷ q) k.0 t c.1 (s, r, child_edge cs s a c.0.0 c.0.1 k.0 k.1) k.2

  pub reach_walk : (p q : List ℕ) (s t : ℕ) → Reach cs q s → Reach cs (turned p q) t → walk cs s p ≡ Some t
  reach_walk [] q s t r k = ap Some (reach_same cs q s t r k)
  reach_walk (a ∷ p) q s t r k =
      let w = begun p (a ∷ q) t k in
      let same : w.1.0 ≡ s = reach_same cs q w.1.0 s w.1.1 r in
      let e : Edge cs s a w.0 = subst (λ x. Edge cs x a w.0) same w.1.2 in
      ap (λ o. onward o (λ u. walk cs u p)) (edge_child cs s a (reach_some cs q s r) w.0 e) ∙ reach_walk p (a ∷ q) w.0 t w.1 k

-- the codes of a family
apart_push : (xs : List ℕ) (n : ℕ) → Apart xs → (In xs n → ⊥) → Apart (xs ++ n ∷ [])
apart_push [] n a ne = (λ i. i, tt)
apart_push (x ∷ xs) n a ne =
    (λ i. ⊎_elim a.0 (λ k. ⊎_elim (λ e. ne (inl (sym e))) (λ z. z) k) (in_append xs (n ∷ []) x i), apart_push xs n a.1 (λ i. ne (inr i)))

module _ (cs : List Cell) (s : ℕ) (some : 0 < s) where
  abbrev last : ℕ → List ℕ
  last n = cond (ltb 0 n && is_some (child cs s n)) (n ∷ []) []

  in_last : (n a : ℕ) → In (last n) a → (a ≡ n) × (0 < n) × (is_some (child cs s n) ≡ true)
  in_last n a =
      cond_both (ltb 0 n && is_some (child cs s n)) (n ∷ []) [] (λ l. In l a → (a ≡ n) × (0 < n) × (is_some (child cs s n) ≡ true))
      (λ e i. ⊎_elim (λ q. (q, ltb-true 0 n (and_parts _ _ e).0, (and_parts _ _ e).1)) (λ z. absurd z) i)
      (λ e i. absurd i)

  below : (n a : ℕ) → In (codes_below cs s n) a → (a < n) × (0 < a) × (is_some (child cs s a) ≡ true)
  unfolding codes_below
  below zero a i = absurd i
  below (suc n) a i =
      ⊎_elim (λ k. let h = below n a k in (omega arith, h.1, h.2))
      (λ k. let h = in_last n a k in (omega arith, omega arith, subst (λ x. is_some (child cs s x) ≡ true) (sym h.0) h.2))
      (in_append (codes_below cs s n) (last n) a i)

  listed : (n a : ℕ) → a < n → 0 < a → is_some (child cs s a) ≡ true → In (codes_below cs s n) a
  unfolding codes_below
  listed zero a lt h is = absurd (omega arith)
  listed (suc n) a lt h is =
      ⊎_elim
      (λ e. in_rest (codes_below cs s n) (last n) a
      (subst (λ l. In l a) (sym (cond-true (ltb 0 n && is_some (child cs s n)) (n ∷ []) [] (and_from _ _ (lt-ltb 0 n (omega arith)) (subst (λ x. is_some (child cs s x) ≡ true) e is)))) (inl e)))
      (λ ne. in_front (codes_below cs s n) (last n) a (listed n a (omega arith) h is))
      (cases_eq a n)

  apart_below : (n : ℕ) → Apart (codes_below cs s n)
  unfolding codes_below
  apart_below zero = tt
  apart_below (suc n) =
      cond_both (ltb 0 n && is_some (child cs s n)) (n ∷ []) [] (λ l. Apart (codes_below cs s n ++ l))
      (λ e. apart_push (codes_below cs s n) n (apart_below n) (λ i. omega (arith, (below n n i).0)))
      (λ e. subst Apart (sym (append-nil (codes_below cs s n))) (apart_below n))

  pub listing : Family cs s (codes_below cs s 258)
  listing = record {
    apart = apart_below 258;
    sound = λ a i.
        let h = below 258 a i in
        let k = some_is (child cs s a) h.2 in
        let e = child_edge cs s a h.1 h.0 k.0 k.1 in
        subst (Edge cs s a) e.place e;
    whole = λ a u e. listed 258 a e.code e.some (ap is_some (edge_child cs s a some u e));
  }
