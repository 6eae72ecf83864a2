-- One step of the walks.
use Rattle.std.proofs.Common.{◌≡◌, ℕ, zero, suc, ◌+◌, ◌-◌, ◌<◌, ◌≤◌, List, [], ◌∷◌, ◌++◌, Some, None, sym, refl, ap, ◌∙◌, arith}
use Rattle.cells.specs.declared.Cell.{Cell}
use Rattle.cells.specs.Cells.{at, number, child}
use Rattle.subtrie.specs.Below.{at_found, leaf_or, edge_numbers, numbers_below}

module _ (cs : List Cell) (s : ℕ) where
  -- a leaf
  pub below_leaf : (left n : ℕ) → Some n ≡ number (at cs s).base → numbers_below left cs s ≡ n ∷ []
  unfolding numbers_below
  below_leaf zero n e = ap (λ o. leaf_or o []) (sym e)
  below_leaf (suc left) n e = ap (λ o. leaf_or o (edge_numbers (numbers_below left cs) cs s 257)) (sym e)

  -- no codes are left
  pub below_none : (left : ℕ) → left ≡ 0 → None ≡ number (at cs s).base → numbers_below left cs s ≡ []
  unfolding numbers_below
  below_none zero z e = ap (λ o. leaf_or o []) (sym e)
  below_none (suc left) z e = absurd (omega arith)

  below_suc : (left : ℕ) → None ≡ number (at cs s).base → numbers_below (suc left) cs s ≡ edge_numbers (numbers_below left cs) cs s 257
  unfolding numbers_below
  below_suc left e = ap (λ o. leaf_or o (edge_numbers (numbers_below left cs) cs s 257)) (sym e)

  -- the edges of a cell that is no leaf
  pub below_edges : (left : ℕ) → (left ≡ 0 → ⊥) → None ≡ number (at cs s).base → numbers_below left cs s ≡ edge_numbers (numbers_below (left - 1) cs) cs s 257
  below_edges zero z e = absurd (z refl)
  below_edges (suc left) z e = let back : left ≡ suc left - 1 = omega arith in below_suc left e ∙ ap (λ k. edge_numbers (numbers_below k cs) cs s 257) back

module _ (f : ℕ → List ℕ) (cs : List Cell) (s : ℕ) where
  -- past the last code
  pub edges_end : (code : ℕ) → 258 ≤ code → edge_numbers f cs s (258 - code) ≡ []
  unfolding edge_numbers
  edges_end code h = let z : 258 - code ≡ 0 = omega arith in ap (edge_numbers f cs s) z

  -- the edge by one code, and those past it
  edges_more : (code : ℕ) → code < 258 → edge_numbers f cs s (258 - code) ≡ at_found f (child cs s code) ++ edge_numbers f cs s (258 - (code + 1))
  unfolding edge_numbers
  edges_more code h =
      let up : 258 - code ≡ suc (258 - (code + 1)) = omega arith in
      let back : 258 - suc (258 - (code + 1)) ≡ code = omega arith in
      ap (edge_numbers f cs s) up ∙ ap (λ a. at_found f (child cs s a) ++ edge_numbers f cs s (258 - (code + 1))) back

  pub edge_some : (code t : ℕ) → code < 258 → Some t ≡ child cs s code → edge_numbers f cs s (258 - code) ≡ f t ++ edge_numbers f cs s (258 - (code + 1))
  edge_some code t h e = edges_more code h ∙ ap (λ o. at_found f o ++ edge_numbers f cs s (258 - (code + 1))) (sym e)

  pub edge_none : (code : ℕ) → code < 258 → None ≡ child cs s code → edge_numbers f cs s (258 - code) ≡ edge_numbers f cs s (258 - (code + 1))
  edge_none code h e = edges_more code h ∙ ap (λ o. at_found f o ++ edge_numbers f cs s (258 - (code + 1))) (sym e)
