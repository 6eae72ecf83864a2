-- Where nothing is below.
use Rattle.std.proofs.Common.{◌≡◌, ℕ, zero, suc, ◌-◌, ◌<◌, cond, ltb, List, [], ◌∷◌, ◌++◌, length, Some, None, Option, sym, refl, ap, ◌∙◌, ⊎_elim, arith}
use Rattle.std.proofs.lemmas.Bool.{cases_eq, cond_both, ltb-false}
use Rattle.output.specs.Written.{written, Filled}
use Rattle.output.proofs.Writes.{written_none}
use Rattle.cells.specs.declared.Cell.{Cell}
use Rattle.cells.specs.Cells.{at, number, child, all_codes}
use Rattle.cells.specs.Walking.{onward, walk, cell_at}
use Rattle.cells.proofs.Sounds.{short_root, short_child}
use Rattle.subtrie.specs.Below.{at_found, edge_numbers, numbers_below, numbers_from}
use Rattle.subtrie.proofs.Steps.{below_none, below_edges}

-- nothing is written where there are no numbers
pub filled_none : (ns out : List ℕ) → ns ≡ [] → Filled ns out (Some 0) out
filled_none ns out e = (omega (arith, ap length e), sym (ap length e), sym (ap (written out 0) e ∙ written_none out 0))

-- a path that leads to no cell
pub numbers_none : (cs : List Cell) (p : List ℕ) → cell_at cs p ≡ None → numbers_from cs p ≡ []
numbers_none cs p e = ap (at_found (numbers_below (length cs) cs)) e

edgeless : (f : ℕ → List ℕ) (cs : List Cell) (s : ℕ) → ((a : ℕ) → child cs s a ≡ None) → (k : ℕ) → edge_numbers f cs s k ≡ []
unfolding edge_numbers
edgeless f cs s none zero = refl
edgeless f cs s none (suc k) = ap (λ o. at_found f o ++ edge_numbers f cs s k) (none (258 - suc k)) ∙ edgeless f cs s none k

-- fewer than two cells
module _ (cs : List Cell) (few : length cs < 2) where
  at_root : (left : ℕ) → numbers_below left cs 1 ≡ []
  at_root left =
      let inner : None ≡ number (at cs 1).base = sym (ap (λ c. number c.base) (short_root cs few)) in
      ⊎_elim
      (λ z. below_none cs 1 left z inner)
      (λ nz. below_edges cs 1 left nz inner ∙ edgeless (numbers_below (left - 1) cs) cs 1 (short_child cs few) 257)
      (cases_eq left 0)

  walked : (p : List ℕ) → at_found (numbers_below (length cs) cs) (walk cs 1 p) ≡ []
  walked [] = at_root (length cs)
  walked (a ∷ p) = ap (λ o. at_found (numbers_below (length cs) cs) (onward o (λ t. walk cs t p))) (short_child cs few a)

  pub numbers_few : (p : List ℕ) → numbers_from cs p ≡ []
  numbers_few p =
      cond_both (all_codes p) (walk cs 1 p) None (λ (o : Option ℕ). at_found (numbers_below (length cs) cs) o ≡ []) (λ c. walked p) (λ c. refl)

-- a beginning that leads to no cell, or an array without a root
pub numbers_absent : (cs : List Cell) (p : List ℕ) → None ≡ cond (ltb 1 (length cs)) (cell_at cs p) None → numbers_from cs p ≡ []
numbers_absent cs p =
    cond_both (ltb 1 (length cs)) (cell_at cs p) None (λ o. None ≡ o → numbers_from cs p ≡ [])
    (λ two none. numbers_none cs p (sym none))
    (λ few none. let short : length cs < 2 = omega (arith, ltb-false 1 (length cs) few) in numbers_few cs short p)
