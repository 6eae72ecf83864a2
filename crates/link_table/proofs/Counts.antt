-- How many numbers pass a test.
use Rattle.std.proofs.Common.{◌≡◌, ℕ, zero, suc, ◌+◌, ◌<◌, ◌≤◌, Bool, true, false, cond, List, ◌∷◌, length, filter, sym, refl, ap, ◌∙◌, ⊎_elim, arith}
use Rattle.std.specs.List.{range_with_len}
use Rattle.std.proofs.lemmas.Bool.{cases_eq}

abbrev kept : (ℕ → Bool) → ℕ → ℕ → ℕ
kept f a n = length (filter f (range_with_len a n))

first : (b : Bool) (x : ℕ) (xs : List ℕ) → length (cond b (x ∷ xs) xs) ≡ cond b 1 0 + length xs
first true x xs = omega arith
first false x xs = omega arith

kept_step : (f : ℕ → Bool) (a n : ℕ) (b : Bool) → f a ≡ b → kept f a (suc n) ≡ cond b 1 0 + kept f (a + 1) n
kept_step f a n b e = first (f a) a (filter f (range_with_len (a + 1) n)) ∙ ap (λ (v : Bool). cond v 1 0 + kept f (a + 1) n) e

kept_same : (f g : ℕ → Bool) (a n : ℕ) → ((k : ℕ) → a ≤ k → g k ≡ f k) → kept g a n ≡ kept f a n
kept_same f g a zero h = refl
kept_same f g a (suc n) h =
    kept_step g a n (f a) (h a (omega arith)) ∙ ap (λ (m : ℕ). cond (f a) 1 0 + m) (kept_same f g (a + 1) n (λ k low. h k (omega arith))) ∙ sym (kept_step f a n (f a) refl)

-- one number more passes
pub kept_more : (f g : ℕ → Bool) (u a n : ℕ) → a ≤ u → u < a + n → f u ≡ false → g u ≡ true → ((k : ℕ) → (k ≡ u → ⊥) → g k ≡ f k) → kept g a n ≡ kept f a n + 1
kept_more f g u a zero low high before after others = absurd (omega arith)
kept_more f g u a (suc n) low high before after others =
    ⊎_elim
    (λ here.
    let x = kept_step g a n true (ap g here ∙ after) in
    let y = kept_step f a n false (ap f here ∙ before) in
    let z = kept_same f g (a + 1) n (λ k h. others k (λ e. omega arith)) in
    omega (arith, x, y, z))
    (λ past.
    let x = kept_step g a n (f a) (others a past) in
    let y = kept_step f a n (f a) refl in
    let z = kept_more f g u (a + 1) n (let w : a + 1 ≤ u = ⊎_elim (λ e. absurd (past e)) (λ ne. omega arith) (cases_eq a u) in w) (omega arith) before after others in
    x ∙ ap (λ (m : ℕ). cond (f a) 1 0 + m) z ∙ (let w : cond (f a) 1 0 + (kept f (a + 1) n + 1) ≡ cond (f a) 1 0 + kept f (a + 1) n + 1 = omega arith in w) ∙ ap (λ (m : ℕ). m + 1) (sym y))
    (cases_eq a u)

-- all of them pass
pub kept_all : (f : ℕ → Bool) (a n : ℕ) → ((k : ℕ) → a ≤ k → k < a + n → f k ≡ true) → kept f a n ≡ n
kept_all f a zero h = refl
kept_all f a (suc n) h =
    let x = kept_step f a n true (h a (omega arith) (omega arith)) in
    let y = kept_all f (a + 1) n (λ k low high. h k (omega arith) (omega arith)) in
    omega (arith, x, y)

-- none of them passes
pub kept_none : (f : ℕ → Bool) (a n : ℕ) → ((k : ℕ) → f k ≡ false) → kept f a n ≡ 0
kept_none f a zero h = refl
kept_none f a (suc n) h =
    let x = kept_step f a n false (h a) in
    let y = kept_none f (a + 1) n h in
    omega (arith, x, y)

at_most_one : (b : Bool) → cond b 1 0 ≤ 1
at_most_one true = omega arith
at_most_one false = omega arith

-- no more pass than there are
pub kept_few : (f : ℕ → Bool) (a n : ℕ) → kept f a n ≤ n
kept_few f a zero = omega arith
kept_few f a (suc n) = omega (arith, kept_step f a n (f a) refl, at_most_one (f a), kept_few f (a + 1) n)
