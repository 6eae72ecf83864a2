-- Laws of `fields`: up to the first tab, without a tab, and how many there are.
use Rattle.std.proofs.Common.{◌≡◌, ℕ, zero, suc, ◌+◌, ◌-◌, ◌≤◌, Bool, true, false, List, [], ◌∷◌, length, take, drop, Some, None, sym, refl, ap, ◌∙◌, add-one, arith, eqb}
use Rattle.std.specs.List.{position}
use Rattle.std.proofs.lemmas.List.{take_rest}
use Rattle.std.proofs.lemmas.Bool.{cond-true, cond-false, cond_both}
use Rattle.command.specs.Fields.{is_tab, before_first, fields}

pub fields_none : (s : List ℕ) → None ≡ position is_tab s → fields s ≡ s ∷ []
unfolding fields
fields_none [] e = refl
fields_none (b ∷ bs) e = by (fields_none bs) (is_tab b) refl
  where
    by : (None ≡ position is_tab bs → fields bs ≡ bs ∷ []) → (t : Bool) → is_tab b ≡ t → fields (b ∷ bs) ≡ (b ∷ bs) ∷ []
    by rest true h = absurd (grind (arith, e, h))
    by rest false h = cond-false (is_tab b) _ _ h ∙ ap (before_first b) (rest (grind (arith, e, h)))

cut_at : (s : List ℕ) (i : ℕ) → Some i ≡ position is_tab s → fields s ≡ take i s ∷ fields (drop (suc i) s)
unfolding fields
cut_at [] i e = absurd (grind (arith, e))
cut_at (b ∷ bs) i e = by (cut_at bs) (is_tab b) refl i e
  where
    by : ((i : ℕ) → Some i ≡ position is_tab bs → fields bs ≡ take i bs ∷ fields (drop (suc i) bs)) → (t : Bool) → is_tab b ≡ t → (i : ℕ) → Some i ≡ position is_tab (b ∷ bs) → fields (b ∷ bs) ≡ take i (b ∷ bs) ∷ fields (drop (suc i) (b ∷ bs))
    by rest true h i e = let first : i ≡ 0 = grind (arith, e, h) in cond-true (is_tab b) _ _ h ∙ ap (λ (n : ℕ). take n (b ∷ bs) ∷ fields (drop (suc n) (b ∷ bs))) (sym first)
    by rest false h zero e = absurd (grind (arith, e, h))
    by rest false h (suc i) e = cond-false (is_tab b) _ _ h ∙ ap (before_first b) (rest i (grind (arith, e, h)))

-- the same with the rest as the code has it
pub fields_at : (s : List ℕ) (i : ℕ) → Some i ≡ position is_tab s → fields s ≡ take i s ∷ fields (take (length s - (i + 1)) (drop (i + 1) s))
fields_at s i e = cut_at s i e ∙ ap (λ (l : List ℕ). take i s ∷ fields l) (sym (take_rest s (i + 1) ∙ ap (λ (n : ℕ). drop n s) (add-one i)))

-- there is a field at least
some_before : (b : ℕ) (fs : List (List ℕ)) → 1 ≤ length (before_first b fs)
some_before b [] = omega arith
some_before b (f ∷ fs) = omega arith

pub fields_some : (s : List ℕ) → 1 ≤ length (fields s)
unfolding fields
fields_some [] = omega arith
fields_some (b ∷ bs) =
    cond_both (eqb b 9) ([] ∷ fields bs) (before_first b (fields bs)) (λ (fs : List (List ℕ)). 1 ≤ length fs) (λ e. omega arith) (λ e. some_before b (fields bs))
