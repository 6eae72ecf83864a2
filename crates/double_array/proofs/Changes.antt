-- An entry and a removal leave a sound array, and change one path.
use Rattle.std.proofs.Common.{◌≡◌, ℕ, suc, ◌-◌, ◌<◌, true, cond, List, get_or, IfOk, Some, None, Ok, Err, Option, Result, sym, refl, ap, ◌∙◌, subst₂, ⊎_elim, arith}
use Rattle.std.proofs.lemmas.Bool.{cases_Bool, cond-true, cond-false, cond_both, and_parts, eqb-true, ltb-true}
use Rattle.cells.specs.declared.Cell.{Cell}
use Rattle.cells.specs.Walking.{number_at}
use Rattle.cells.specs.Counting.{same_path}
use Rattle.cells.specs.Invariant.{Sound}
use Rattle.cells.specs.Laws.{Enters}
use Rattle.cells.proofs.Numbers.{decides_same}
use Rattle.cells.proofs.Enters.{entering}
use Rattle.cells.proofs.TakesOut.{taking}
use Rattle.double_array.specs.declared.faults.PathFault.{PathFault}
use Rattle.double_array.specs.declared.faults.PathFault.TheVariants as fault
use Rattle.double_array.specs.Outcomes.{Taken, Removed}
use Rattle.double_array.specs.Entries.{is_path, is_open, refusal, EntersPath, Added}

no_fault : (e : PathFault) → ◌≡◌ {A = Option PathFault} (Some e) None → ⊥
no_fault e h = let z : ◌≡◌ {A = ℕ} 0 1 = cc in omega arith

module _ (cs : List Cell) (is p : List ℕ) (u : ℕ) where
  -- what is not refused is open
  accepted : refusal cs is p u ≡ None → is_open is u ≡ true
  accepted ok =
      ⊎_elim
      (λ path.
      ⊎_elim (λ number. number)
      (λ number. absurd (no_fault fault.Number (sym (cond-true (is_path p) _ _ path ∙ cond-false (is_open is u) _ _ number) ∙ ok)))
      (cases_Bool (is_open is u)))
      (λ path. absurd (no_fault fault.Path (sym (cond-false (is_path p) _ _ path) ∙ ok)))
      (cases_Bool (is_path p))

  module _ (xs : List Cell) (js : List ℕ) (sound : Sound cs is) where
    entered : EntersPath cs is p u (Ok tt) xs js → Enters cs is p (u - 1) (record { cells = xs; index = js })
    entered h = entering cs is p (u - 1) (record { cells = xs; index = js }) sound (eqb-true (get_or is (u - 1) 0) 0 (and_parts _ _ (accepted h.0)).1) h.1

    pub entry_sound : (r : Result (Unit {0}) PathFault) → EntersPath cs is p u r xs js → Sound xs js
    entry_sound (Ok x) h = (entered h).sound
    entry_sound (Err e) h = subst₂ Sound (sym h.1) (sym h.2) sound

    pub entry_added : (r : Result (Unit {0}) PathFault) → EntersPath cs is p u r xs js → IfOk r (λ _. Added cs p u xs)
    entry_added (Ok x) h = λ q.
        let some : 0 < u = ltb-true 0 u (and_parts _ _ (and_parts _ _ (accepted h.0)).0).0 in
        let same : suc (u - 1) ≡ u = omega arith in
        (entered h).after q ∙ ap (λ n. cond (same_path q p) (Some n) (number_at cs q)) same
    entry_added (Err e) h = tt

module _ (cs : List Cell) (is p : List ℕ) (xs : List Cell) (js : List ℕ) (sound : Sound cs is) where
  pub taken_sound : (r : Option ℕ) → Taken cs is p r xs js → Sound xs js
  taken_sound None h = subst₂ Sound (sym h.1) (sym h.2) sound
  taken_sound (Some n) h = ((taking cs is p sound).out (record { cells = xs; index = js }) h.1).sound

  pub taken_removed : (r : Option ℕ) → Taken cs is p r xs js → Removed cs p xs
  taken_removed None h q =
      ap (λ l. number_at l q) h.1
      ∙ cond_both (same_path q p) None (number_at cs q) (λ o. number_at cs q ≡ o)
      (λ e. ap (number_at cs) ((decides_same q p).0 e) ∙ h.0) (λ e. refl)
  taken_removed (Some n) h q = ((taking cs is p sound).out (record { cells = xs; index = js }) h.1).after q
