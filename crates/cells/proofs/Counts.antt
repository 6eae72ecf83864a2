-- The used cells are as many as the beginnings of the held paths, and the root.
use Rattle.std.proofs.Common.{◌≡◌, ℕ, zero, suc, ◌+◌, ◌-◌, ◌<◌, ◌≤◌, ltb, List, [], ◌∷◌, ◌++◌, length, sym, refl, ap, subst, inl, inr, ⊎_elim, append_assoc, add-zero, arith}
use Rattle.std.specs.List.{range_with_len}
use Rattle.std.proofs.lemmas.List.{get_or_past}
use Rattle.std.proofs.lemmas.List.FromFn.{length-range_with_len}
use Rattle.std.proofs.lemmas.Bool.{cases_lt, ltb-true, lt-ltb}
use Rattle.cells.specs.declared.Cell.{Cell}
use Rattle.cells.specs.Cells.{free_cell, nat, parent}
use Rattle.members.specs.Lists.{In, Apart}
use Rattle.cells.specs.Trees.{Edge, Reach, Held}
use Rattle.cells.proofs.Trees.{Tree, Whole}
use Rattle.cells.proofs.Begins.{HeldBelow, Beginnings}
use Rattle.cells.specs.Counting.{used}
use Rattle.cells.proofs.Paths.{reach_some, reach_same, root_apart, reach_unique, reach_used}
use Rattle.members.proofs.Pigeons.{pigeons, in_counting, apart_counting, in_kept, from_kept, apart_kept}

pub within : (cs : List Cell) (t : ℕ) → 0 < parent cs t → t < length cs
within cs t h = ⊎_elim (λ lt. lt) (λ ge. absurd (omega (arith, ap (λ c. nat c.check) (get_or_past cs t free_cell ge)))) (cases_lt t (length cs))

-- the cells in use are those with a parent
pub in_used : (cs : List Cell) (t : ℕ) → 0 < t → 0 < parent cs t → In (used cs) t
in_used cs t some h =
    in_kept (λ t. ltb 0 (parent cs t)) (range_with_len 1 (length cs - 1)) t (lt-ltb 0 (parent cs t) h)
    (in_counting 1 (length cs - 1) t some (omega (arith, within cs t h)))

pub used_in : (cs : List Cell) (t : ℕ) → In (used cs) t → 0 < parent cs t
used_in cs t i = ltb-true 0 (parent cs t) (from_kept (λ t. ltb 0 (parent cs t)) (range_with_len 1 (length cs - 1)) t i).0

pub apart_used : (cs : List Cell) → Apart (used cs)
apart_used cs = apart_kept (λ t. ltb 0 (parent cs t)) (range_with_len 1 (length cs - 1)) (apart_counting 1 (length cs - 1))

abbrev tails : List ℕ → List (List ℕ)
tails [] = [] ∷ []
tails (a ∷ p) = (a ∷ p) ∷ tails p

length_tails : (p : List ℕ) → length (tails p) ≡ suc (length p)
length_tails [] = refl
length_tails (a ∷ p) = ap suc (length_tails p)

tails_short : (p q : List ℕ) → In (tails p) q → length q ≤ length p
tails_short [] q (inl e) = omega (arith, ap length e)
tails_short [] q (inr i) = absurd i
tails_short (a ∷ p) q (inl e) = omega (arith, ap length e)
tails_short (a ∷ p) q (inr i) = omega (arith, tails_short p q i)

apart_tails : (p : List ℕ) → Apart (tails p)
apart_tails [] = (λ i. i, tt)
apart_tails (a ∷ p) = (λ i. omega (arith, tails_short p (a ∷ p) i), apart_tails p)

-- the beginnings of a path that leads somewhere lead somewhere
reach_tails : (cs : List Cell) (p : List ℕ) (t : ℕ) → Reach cs p t → (q : List ℕ) → In (tails p) q → (u : ℕ) × Reach cs q u
reach_tails cs [] t r q (inl e) = (1, subst (λ x. Reach cs x 1) (sym e) refl)
reach_tails cs [] t r q (inr i) = absurd i
reach_tails cs (a ∷ p) t r q (inl e) = (t, subst (λ x. Reach cs x t) (sym e) r)
reach_tails cs (a ∷ p) t r q (inr i) = reach_tails cs p r.0 r.1 q i

reach_rest : (cs : List Cell) (q p : List ℕ) (t : ℕ) → Reach cs (q ++ p) t → (u : ℕ) × Reach cs p u
reach_rest cs [] p t r = (t, r)
reach_rest cs (a ∷ q) p t r = reach_rest cs q p r.0 r.1

module _ (cs : List Cell) (tree : Tree cs) where
  pub depth : (p : List ℕ) (t : ℕ) → Reach cs p t → length p < length cs
  depth p t r =
      let few = pigeons (λ q u. Reach cs q u) (λ q m u. reach_unique cs q m u) (tails p) (range_with_len 0 (length cs)) (apart_tails p)
      (λ q i. let k = reach_tails cs p t r q i in (k.0, in_counting 0 (length cs) k.0 (omega arith) (omega (arith, within cs k.0 (reach_used cs tree q k.0 k.1))), k.1)) in
      omega (arith, few, length_tails p, length-range_with_len 0 (length cs))

  module _ (whole : Whole cs) where
    -- each path leads on to a leaf
    pub extends : (k : ℕ) (p : List ℕ) (t : ℕ) → length cs ≤ length p + k → Reach cs p t → (t ≡ 1 → ⊥) → HeldBelow cs p
    extends zero p t far r ne = absurd (omega (arith, depth p t r, add-zero (length p)))
    extends (suc k) p t far r ne =
        ⊎_elim
        (λ leaf. ([], leaf.0, (t, r, leaf.1)))
        (λ child.
        let a : ℕ = child.0 in
        let u : ℕ = child.1 in
        let on = extends k (a ∷ p) u (omega arith) (t, r, child.2) (λ e. root_apart cs t a (subst (Edge cs t a) e child.2)) in
        (on.0 ++ a ∷ [], on.1, subst (λ l. Held cs l on.1) (sym (append_assoc on.0 (a ∷ []) p)) on.2))
        (whole t (reach_used cs tree p t r) ne)

    module _ (bs : List (List ℕ)) (all : Beginnings cs bs) where
      path_in : (p : List ℕ) (t : ℕ) → Reach cs p t → In ([] ∷ bs) p
      path_in [] t r = inl refl
      path_in (a ∷ p) t r =
          let ne : a ∷ p ≡ [] → ⊥ = λ e. omega (arith, ap length e) in
          inr (all.whole (a ∷ p) ne (extends (length cs) (a ∷ p) t (omega arith) r (λ e. root_apart cs r.0 a (subst (Edge cs r.0 a) e r.2))))

      cell_in : (p : List ℕ) → In ([] ∷ bs) p → (t : ℕ) × Reach cs p t
      cell_in p (inl e) = (1, subst (λ x. Reach cs x 1) (sym e) refl)
      cell_in p (inr i) = let h = all.sound p i in reach_rest cs h.0 p h.2.0 h.2.1

      counts_them : length (used cs) ≡ 1 + length bs
      counts_them =
          let some = λ (p : List ℕ). λ (t : ℕ). λ (r : Reach cs p t). in_used cs t (reach_some cs p t r) (reach_used cs tree p t r) in
          let few = pigeons (λ t p. Reach cs p t) (λ t u p. reach_same cs p t u) (used cs) ([] ∷ bs) (apart_used cs)
          (λ t i. let r = tree.reach t (used_in cs t i) in (r.0, path_in r.0 t r.1, r.1)) in
          let many = pigeons (λ p t. Reach cs p t) (λ p q t. reach_unique cs p q t) ([] ∷ bs) (used cs) (λ i. all.some [] i refl, all.apart)
          (λ p i. let r = cell_in p i in (r.0, some p r.0 r.1, r.1)) in
          omega (arith, few, many)

pub counts : (cs : List Cell) (bs : List (List ℕ)) → Tree cs → Whole cs → Beginnings cs bs → length (used cs) ≡ 1 + length bs
counts cs bs tree whole all = counts_them cs tree whole bs all
