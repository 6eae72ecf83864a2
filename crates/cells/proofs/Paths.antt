-- Paths and cells go together one to one.
use Rattle.std.proofs.Common.{◌≡◌, ℕ, ◌+◌, ◌<◌, List, [], ◌∷◌, sym, refl, ap, ◌∙◌, subst, arith}
use Rattle.cells.specs.declared.Cell.{Cell}
use Rattle.cells.specs.Cells.{nat, base_of, parent}
use Rattle.cells.specs.Trees.{Edge, Reach}
use Rattle.cells.proofs.Trees.{Tree}

pub edge_up : (cs : List Cell) (s a t : ℕ) → Edge cs s a t → parent cs t ≡ s
edge_up cs s a t e = ap nat e.check

pub reach_some : (cs : List Cell) (p : List ℕ) (t : ℕ) → Reach cs p t → 0 < t
reach_some cs [] t r = omega arith
reach_some cs (a ∷ p) t r = omega (arith, r.2.some, r.2.place)

-- one cell for a path
pub reach_same : (cs : List Cell) (p : List ℕ) (t u : ℕ) → Reach cs p t → Reach cs p u → t ≡ u
reach_same cs [] t u r k = r ∙ sym k
reach_same cs (a ∷ p) t u r k =
    let e : r.0 ≡ k.0 = reach_same cs p r.0 k.0 r.1 k.1 in
    r.2.place ∙ ap (λ s. base_of cs s + a) e ∙ sym k.2.place

-- the root is no child
pub root_apart : (cs : List Cell) (s a : ℕ) → Edge cs s a 1 → ⊥
root_apart cs s a e = omega (arith, e.some, e.inner, e.place)

-- one path to a cell
pub reach_unique : (cs : List Cell) (p q : List ℕ) (t : ℕ) → Reach cs p t → Reach cs q t → p ≡ q
reach_unique cs [] [] t r k = refl
reach_unique cs [] (b ∷ q) t r k = absurd (root_apart cs k.0 b (subst (Edge cs k.0 b) r k.2))
reach_unique cs (a ∷ p) [] t r k = absurd (root_apart cs r.0 a (subst (Edge cs r.0 a) k r.2))
reach_unique cs (a ∷ p) (b ∷ q) t r k =
    let e : r.0 ≡ k.0 = sym (edge_up cs r.0 a t r.2) ∙ edge_up cs k.0 b t k.2 in
    let one : p ≡ q = reach_unique cs p q k.0 (subst (Reach cs p) e r.1) k.1 in
    let places : t ≡ base_of cs k.0 + a = subst (λ s. t ≡ base_of cs s + a) e r.2.place in
    let two : a ≡ b = omega (arith, k.2.place) in
    cc

module _ (cs : List Cell) (tree : Tree cs) where
  -- what a path leads to is used
  pub reach_used : (p : List ℕ) (t : ℕ) → Reach cs p t → 0 < parent cs t
  reach_used [] t r = omega (arith, ap (parent cs) r, ap nat tree.root)
  reach_used (a ∷ p) t r = omega (arith, reach_some cs p r.0 r.1, edge_up cs r.0 a t r.2)
