-- The rows of a listing part by part, and how many they are at most.
use Rattle.std.proofs.Common.{◌≡◌, ℕ, zero, suc, ◌+◌, ◌*◌, ◌≤◌, [], ◌++◌, length, Some, None, Option, sym, refl, ap, ◌∙◌, append_assoc, append-nil, add-zero, add-suc, add-one, arith, length-append}
use Rattle.link_table.specs.Tables.{found}
use Rattle.link_table.specs.declared.table.LinkTable.{LinkTable}
use Rattle.listing.specs.Rows.{row, rows_below, rows_by, rows_to}
use Rattle.listing.specs.Parts.{rows_from}

row_few : (o : Option ℕ) (k b : ℕ) → length (row o k b) ≤ 1
row_few None k b = omega arith
row_few (Some u) k b = omega arith

module _ (t : LinkTable) (x : ℕ) where
  pub from_none : (k b : ℕ) → rows_from t x k b 0 ≡ []
  unfolding rows_from
  from_none k b = refl

  pub from_more : (k b n : ℕ) → rows_from t x k b (n + 1) ≡ rows_from t x k b n ++ row (found t (record { x = x; relation = k; y = b + n })) k (b + n)
  unfolding rows_from
  from_more k b n = ap (rows_from t x k b) (add-one n)

  pub below_none : (k : ℕ) → rows_below t x k 0 ≡ []
  unfolding rows_below
  below_none k = refl

  -- those below b, and those from b up
  pub below_more : (k b n : ℕ) → rows_below t x k (b + n) ≡ rows_below t x k b ++ rows_from t x k b n
  unfolding rows_below rows_from
  below_more k b zero = ap (rows_below t x k) (add-zero b) ∙ sym (append-nil (rows_below t x k b))
  below_more k b (suc n) =
      let one = row (found t (record { x = x; relation = k; y = b + n })) k (b + n) in
      ap (rows_below t x k) (add-suc b n) ∙ ap (λ l. l ++ one) (below_more k b n) ∙ append_assoc (rows_below t x k b) (rows_from t x k b n) one

  -- those of one upper byte more
  pub below_next : (k h : ℕ) → rows_below t x k (256 * (h + 1)) ≡ rows_below t x k (256 * h) ++ rows_from t x k (256 * h) 256
  below_next k h = let n : 256 * (h + 1) ≡ 256 * h + 256 = omega arith in ap (rows_below t x k) n ∙ below_more k (256 * h) 256

  pub to_none : rows_to t x 0 ≡ []
  unfolding rows_to
  to_none = refl

  pub to_more : (n : ℕ) → rows_to t x (n + 1) ≡ rows_to t x n ++ rows_by t x (n + 1)
  unfolding rows_to
  to_more n = ap (rows_to t x) (add-one n) ∙ ap (λ m. rows_to t x n ++ rows_by t x m) (sym (add-one n))

  pub from_few : (k b n : ℕ) → length (rows_from t x k b n) ≤ n
  unfolding rows_from
  from_few k b zero = omega arith
  from_few k b (suc n) =
      let o = found t (record { x = x; relation = k; y = b + n }) in
      omega (arith, from_few k b n, row_few o k (b + n), length-append (rows_from t x k b n) (row o k (b + n)))

  pub below_few : (k n : ℕ) → length (rows_below t x k n) ≤ n
  unfolding rows_below
  below_few k zero = omega arith
  below_few k (suc n) =
      let o = found t (record { x = x; relation = k; y = n }) in
      omega (arith, below_few k n, row_few o k n, length-append (rows_below t x k n) (row o k n))

  pub to_few : (n : ℕ) → length (rows_to t x n) ≤ 65536 * n
  unfolding rows_to
  to_few zero = omega arith
  to_few (suc n) = omega (arith, to_few n, below_few (suc n) 65536, length-append (rows_to t x n) (rows_by t x (suc n)))
