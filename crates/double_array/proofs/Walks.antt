-- Paths that are not held.
use Rattle.std.proofs.Common.{◌≡◌, ℕ, ◌<◌, cond, ltb, List, [], ◌∷◌, length, None, sym, refl, ap, arith}
use Rattle.std.proofs.lemmas.Bool.{cond_both, ltb-false}
use Rattle.cells.specs.declared.Cell.{Cell}
use Rattle.cells.specs.Cells.{at, number, all_codes}
use Rattle.cells.proofs.Sounds.{short_root, short_child}
use Rattle.cells.specs.Walking.{onward, walk, cell_at, number_at}

-- fewer than two cells hold no path
module _ (cs : List Cell) (few : length cs < 2) where
  walk_none : (p : List ℕ) → onward (walk cs 1 p) (λ t. number (at cs t).base) ≡ None
  walk_none [] = ap (λ c. number c.base) (short_root cs few)
  walk_none (a ∷ more) = ap (λ o. onward (onward o (λ t. walk cs t more)) (λ t. number (at cs t).base)) (short_child cs few a)

  pub number_none : (p : List ℕ) → None ≡ number_at cs p
  number_none p = sym (cond_both (all_codes p) (walk cs 1 p) None (λ o. onward o (λ t. number (at cs t).base) ≡ None) (λ e. walk_none p) (λ e. refl))

-- and so does a path that leads to no cell
pub number_missing : (cs : List Cell) (p : List ℕ) → None ≡ cond (ltb 1 (length cs)) (cell_at cs p) None → None ≡ number_at cs p
number_missing cs p =
    cond_both (ltb 1 (length cs)) (cell_at cs p) None (λ o. None ≡ o → None ≡ number_at cs p)
    (λ two none. ap (λ o. onward o (λ t. number (at cs t).base)) none)
    (λ few none. let short : length cs < 2 = omega (arith, ltb-false 1 (length cs) few) in number_none cs short p)
