-- The share is nearest, and at most a million.
use Rattle.std.proofs.Common.{◌≡◌, ℕ, zero, suc, ◌+◌, ◌*◌, ◌%◌, ◌<◌, ◌≤◌, sym, ap, ◌∙◌, ⊎_elim, le_of_eq, lt_of_lt_of_le, le_of_lt, lt_irrefl, mul-le-mul_right, mod-lt, mul_assoc, suc-mul, mul_comm, le_antisymm, arith}
use native.Mathlib.Nat.{div-add-mod, div-zero}
use Rattle.std.proofs.lemmas.Bool.{cases_lt}
use Rattle.share.specs.Rounding.{share_of, distance, Nearest}

-- a greater number is at least one more total on
further : (total a b : ℕ) → a < b → a * total + total ≤ b * total
further total a b h = let k = mul-le-mul_right total h in omega (arith, suc-mul a total)

-- distances of multiples p and w of the total from n, where p is at most half a total off, and below n by less
nearer : (n total p w : ℕ) → 2 * p ≤ 2 * n + total → 2 * n < 2 * p + total → p + total ≤ w → distance p n < distance w n
nearer n total p w low high on = omega arith

nearer_below : (n total p w : ℕ) → 2 * p ≤ 2 * n + total → w + total ≤ p → distance p n ≤ distance w n
nearer_below n total p w low on = omega arith

module _ (c total : ℕ) (some : 1 ≤ total) where
  -- the remainder of the division that makes the share
  abbrev rest : ℕ
  rest = (2 * (1000000 * c) + total) % (2 * total)

  whole : 2 * (share_of c total * total) + rest ≡ 2 * (1000000 * c) + total
  whole =
      let d = div-add-mod (2 * (1000000 * c) + total) (2 * total) in
      let m : 2 * total * share_of c total ≡ 2 * (share_of c total * total) = mul_assoc 2 total (share_of c total) ∙ ap (λ (n : ℕ). 2 * n) (mul_comm total (share_of c total)) in
      ap (λ (n : ℕ). n + rest) (sym m) ∙ d

  small : rest < 2 * total
  small = mod-lt (2 * (1000000 * c) + total) (omega arith)

  -- twice the share of the total is at most a total above, and less than a total below
  low : 2 * (share_of c total * total) ≤ 2 * (1000000 * c) + total
  low = let w = whole in omega arith

  high : 2 * (1000000 * c) < 2 * (share_of c total * total) + total
  high = let w = whole in let s = small in omega arith

  -- a greater number is farther, and a lower one no nearer
  above : (n : ℕ) → share_of c total < n → distance (share_of c total * total) (1000000 * c) < distance (n * total) (1000000 * c)
  above n h = nearer (1000000 * c) total (share_of c total * total) (n * total) low high (further total (share_of c total) n h)

  below : (n : ℕ) → n < share_of c total → distance (share_of c total * total) (1000000 * c) ≤ distance (n * total) (1000000 * c)
  below n h = nearer_below (1000000 * c) total (share_of c total * total) (n * total) low (further total n (share_of c total) h)

  few_millionths : c ≤ total → share_of c total ≤ 1000000
  few_millionths part =
      ⊎_elim
      (λ more. let on = further total 1000000 (share_of c total) more in let l = low in absurd (omega arith))
      (λ few. few)
      (cases_lt 1000000 (share_of c total))

-- the share of a part is at most a million
pub at_most : (c total : ℕ) → c ≤ total → share_of c total ≤ 1000000
at_most c zero part = omega (arith, div-zero (2 * (1000000 * c) + 0))
at_most c (suc total) part = few_millionths c (suc total) (omega arith) part

pub nearest : Nearest
nearest = record {
  near = λ c total n some.
      ⊎_elim
      (below c total some n)
      (λ no. ⊎_elim
      (λ more. le_of_lt (above c total some n more))
      (λ few. let same : n ≡ share_of c total = le_antisymm few no in le_of_eq (ap (λ (k : ℕ). distance (k * total) (1000000 * c)) (sym same)))
      (cases_lt (share_of c total) n))
      (cases_lt n (share_of c total));
  upward = λ c total n some near.
      ⊎_elim
      (λ more. let far = above c total some n more in absurd (lt_irrefl _ (lt_of_lt_of_le far near)))
      (λ few. few)
      (cases_lt (share_of c total) n);
}
