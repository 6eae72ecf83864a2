-- Each cell of sound cells is either free or counted as in use.
use Rattle.std.proofs.Common.{◌≡◌, ℕ, ◌<◌, ◌⊎◌, List, length, ap, inl, inr, ⊎_elim, arith}
use Rattle.std.proofs.lemmas.Bool.{cases_eq}
use Rattle.cells.specs.declared.Cell.{Cell}
use Rattle.cells.specs.Cells.{nat, parent}
use Rattle.cells.specs.Placing.{Free}
use Rattle.cells.specs.Counting.{used}
use Rattle.members.specs.Lists.{In}
use Rattle.cells.specs.Invariant.{Sound}
use Rattle.cells.specs.Laws.{Uses}
use Rattle.cells.proofs.Counts.{within, in_used, used_in, apart_used}
use Rattle.cells.proofs.Starts.{unused}

module _ (cs : List Cell) (is : List ℕ) (h : Sound cs is) where
  free_of : (t : ℕ) → t < length cs → parent cs t ≡ 0 → Free cs t
  free_of t lt e = (lt, ap (λ (c : Cell). c.base) (h.blank t e), ap (λ (c : Cell). c.check) (h.blank t e))

  either : (t : ℕ) → t < length cs → Free cs t ⊎ In (used cs) t
  either t lt =
      ⊎_elim {C = Free cs t ⊎ In (used cs) t}
      (λ none. inl (free_of t lt none))
      (λ some.
      let up : t ≡ 0 → ⊥ = λ e. omega (arith, ap (parent cs) e, ap (λ (c : Cell). nat c.check) (unused cs is h)) in
      ⊎_elim {C = Free cs t ⊎ In (used cs) t} (λ zero. absurd (up zero)) (λ one. inr (in_used cs t (omega arith) (omega arith))) (cases_eq t 0))
      (cases_eq (parent cs t) 0)

  pub uses : Uses cs
  uses = record {
    either = either;
    other = λ t i free. omega (arith, used_in cs t i, ap nat free.2);
    within = λ t i. within cs t (used_in cs t i);
    once = apart_used cs;
  }
