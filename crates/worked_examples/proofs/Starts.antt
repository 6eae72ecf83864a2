-- The arrays of a new list or table.
use Rattle.std.proofs.Common.{◌≡◌, ℕ, ◌<◌, eqb, List, length, get_or, set, replicate, sym, ◌∙◌, subst, ⊎_elim, arith}
use Rattle.std.proofs.lemmas.List.{length-set, length-replicate, get_or-set_same, get_or-set_other, get_or-replicate, ext_get_or}
use Rattle.std.proofs.lemmas.Bool.{cases_eq, cond-false, ne_eqb}
use Rattle.cells.specs.declared.Cell.{Cell}
use Rattle.cells.specs.Cells.{free_cell, root_cell, at}
use Rattle.cells.specs.Laws.{cleared}
use Rattle.cells.specs.Examples.{new_arrays}

-- cells that were all cleared
pub new_cells : (n : ℕ) (cs : List Cell) → length cs ≡ n → ((j : ℕ) → j < length cs → at cs j ≡ cleared j) → cs ≡ (new_arrays n 3).cells
new_cells n cs long all =
    let free = replicate n free_cell in
    ext_get_or free_cell cs (set free 1 root_cell) (long ∙ sym (length-set free 1 root_cell ∙ length-replicate n free_cell))
    (λ j lt. all j lt ∙ sym (⊎_elim
    (λ (e : j ≡ 1). subst (λ (i : ℕ). at (set free 1 root_cell) i ≡ cleared i) (sym e) (get_or-set_same free 1 root_cell free_cell (rw length-replicate (omega arith))))
    (λ (ne : j ≡ 1 → ⊥). get_or-set_other free 1 j root_cell free_cell ne ∙ get_or-replicate n j free_cell free_cell (omega arith) ∙ sym (cond-false (eqb j 1) root_cell free_cell (ne_eqb j 1 ne)))
    (cases_eq j 1)))

-- an index of zeros
pub new_index : (k : ℕ) (is : List ℕ) → length is ≡ k → ((n : ℕ) → get_or is n 0 ≡ 0) → is ≡ replicate k 0
new_index k is long zeros = ext_get_or 0 is (replicate k 0) (long ∙ sym (length-replicate k 0)) (λ j lt. zeros j ∙ sym (get_or-replicate k j 0 0 (omega arith)))
