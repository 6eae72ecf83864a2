-- The cells in use, one by one, by their numbers, and by the held paths.
use Rattle.std.proofs.Common.{◌≡◌, ℕ, suc, ◌+◌, Bool, cond, ltb, List, [], ◌∷◌, length, drop, filter, ℤ, pos, negsuc, sym, refl, ap, ◌∙◌, ⊎_elim, arith}
use lib.Signed.{lt_z}
use Rattle.std.specs.List.{range_with_len}
use Rattle.std.proofs.lemmas.List.{get_or-drop, drop-drop}
use Rattle.std.proofs.lemmas.Bool.{cond_both, cases_lt, cond-true, cond-false, lt-ltb, le-ltb}
use Rattle.cells.specs.declared.Cell.{Cell}
use Rattle.cells.specs.Cells.{free_cell, at, nat, parent}
use Rattle.cells.specs.Counting.{in_use, held_paths, beginnings}
use Rattle.cells.specs.Invariant.{Sound}
use Rattle.cells.proofs.Enters.{short}
use Rattle.cells.proofs.HeldPaths.{holding}
use Rattle.cells.proofs.Tallies.{counting}
use Rattle.double_array.specs.Outcomes.{CountsBeginnings}

-- whether the cell is in use
abbrev pub is_used : Cell → Bool
is_used cell = lt_z (pos 0) cell.check

same_test : (z : ℤ) → ltb 0 (nat z) ≡ lt_z (pos 0) z
same_test (pos n) = refl
same_test (negsuc n) = refl

-- as many from the cell k up
module _ (cs : List Cell) where
  abbrev numbers : ℕ → ℕ → List ℕ
  numbers k n = filter (λ t. ltb 0 (parent cs t)) (range_with_len k n)

  pub used_from : (ds : List Cell) (k : ℕ) → drop k cs ≡ ds → length (filter is_used ds) ≡ length (numbers k (length ds))
  used_from [] k e = refl
  used_from (d ∷ ds) k e =
      let same : at cs (k + 0) ≡ d = sym (get_or-drop k cs 0 free_cell) ∙ ap (λ l. at l 0) e in
      let here : k + 0 ≡ k = omega arith in
      let test : ltb 0 (parent cs k) ≡ is_used d = ap (λ t. ltb 0 (parent cs t)) (sym here) ∙ ap (λ c. ltb 0 (nat c.check)) same ∙ same_test d.check in
      let rest : length (filter is_used ds) ≡ length (numbers (k + 1) (length ds)) = used_from ds (k + 1) (sym (drop-drop 1 k cs) ∙ ap (drop 1) e) in
      cond_both (is_used d) (d ∷ filter is_used ds) (filter is_used ds)
      (λ l. length l ≡ length (cond (is_used d) (k ∷ numbers (k + 1) (length ds)) (numbers (k + 1) (length ds))))
      (λ y. ap (λ n. suc n) rest ∙ ap (λ b. length (cond b (k ∷ numbers (k + 1) (length ds)) (numbers (k + 1) (length ds)))) (sym y))
      (λ y. rest ∙ ap (λ b. length (cond b (k ∷ numbers (k + 1) (length ds)) (numbers (k + 1) (length ds)))) (sym y))
      ∙ ap (λ b. length (cond b (k ∷ numbers (k + 1) (length ds)) (numbers (k + 1) (length ds)))) (sym test)

-- so the count is one more than the beginnings of the held paths
pub counted_of : (cs : List Cell) (is : List ℕ) → Sound cs is → (n : ℕ) → n ≡ in_use cs → CountsBeginnings cs n
counted_of cs is h n e = record {
  held = holding cs is h;
  count = e
      ∙ ⊎_elim
      (λ two.
      counting cs is (held_paths cs) two h (holding cs is h)
      ∙ sym (cond-true (ltb 1 (length cs)) (1 + length (beginnings (held_paths cs))) 0 (lt-ltb 1 (length cs) two)))
      (λ few.
      (short cs is [] 0 (omega arith)).2
      ∙ sym (cond-false (ltb 1 (length cs)) (1 + length (beginnings (held_paths cs))) 0 (le-ltb 1 (length cs) few)))
      (cases_lt 1 (length cs));
  any = λ ks two holds. e ∙ counting cs is ks two h holds;
}
