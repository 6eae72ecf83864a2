-- One node that moves.
use Rattle.std.proofs.Common.{◌≡◌, ℕ, ◌<◌, cond, eqb, List, length, set, pos, sym, ap, ◌∙◌, ⊎_elim, arith}
use lib.Signed.{lt_z}
use Rattle.std.proofs.lemmas.List.FromFn.{fill_by_all}
use Rattle.std.proofs.lemmas.List.{get_or-set_same, get_or-set_other, length-set}
use Rattle.std.proofs.lemmas.Bool.{cases_eq, cond-true, cond-false, eq-eqb, ne_eqb}
use Rattle.cells.specs.declared.Cell.{Cell}
use Rattle.cells.specs.Cells.{at, nat, free_cell}
use Rattle.cells.specs.Placing.{repointed, moved, moved_list}

-- cells that are known one by one are known as a list
pub list_is : (cs ds : List Cell) (f t : ℕ) → length ds ≡ length cs → ((j : ℕ) → j < length cs → at ds j ≡ moved cs f t j) → ds ≡ moved_list cs f t
unfolding moved_list
list_is cs ds f t long all = fill_by_all (moved cs f t) ds (length cs) free_cell long all

-- the node is written into its new cell and its old cell is freed, after its children have followed
module _ (cs ms : List Cell) (f t : ℕ) (long : length ms ≡ length cs) (hf : f < length cs) (ht : t < length cs) where
  pub moved_is : ((j : ℕ) → j < length cs → at ms j ≡ cond (lt_z (pos 0) (at cs f).base) (repointed cs (nat (at cs f).base) f t 258 j) (at cs j)) → set (set ms t (at cs f)) f free_cell ≡ moved_list cs f t
  moved_is all =
      list_is cs (set (set ms t (at cs f)) f free_cell) f t (simp length-set long)
      (λ j h.
      ⊎_elim
      (λ e. ap (at (set (set ms t (at cs f)) f free_cell)) e ∙ get_or-set_same (set ms t (at cs f)) f free_cell free_cell (simp length-set (omega arith)) ∙ sym (cond-true (eqb j f) _ _ (eq-eqb j f e)))
      (λ ne.
      get_or-set_other (set ms t (at cs f)) f j free_cell free_cell ne
      ∙ ⊎_elim
      (λ e. ap (at (set ms t (at cs f))) e ∙ get_or-set_same ms t (at cs f) free_cell (omega arith) ∙ sym (cond-true (eqb j t) _ _ (eq-eqb j t e)))
      (λ nt. get_or-set_other ms t j (at cs f) free_cell nt ∙ all j h ∙ sym (cond-false (eqb j t) _ _ (ne_eqb j t nt)))
      (cases_eq j t)
      ∙ sym (cond-false (eqb j f) _ _ (ne_eqb j f ne)))
      (cases_eq j f))
