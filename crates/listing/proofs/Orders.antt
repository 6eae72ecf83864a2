-- The rows stand in order.
use Rattle.std.proofs.Common.{ℕ, zero, suc, Some, None, Option, sym, ◌∙◌, inl, inr, arith}
use Rattle.members.specs.Lists.{Rises}
use Rattle.members.proofs.Orders.{rises_append}
use Rattle.link_table.specs.Tables.{found}
use Rattle.link_table.specs.declared.table.LinkTable.{LinkTable}
use Rattle.listing.specs.Rows.{row, rows_below, rows_by, rows_to, rows_of, Earlier}
use Rattle.listing.proofs.Members.{row_is, below_known, to_known}

rising_row : (o : Option ℕ) (k b : ℕ) → Rises Earlier (row o k b)
rising_row None k b = tt
rising_row (Some u) k b = (λ s i. absurd i, tt)

module _ (t : LinkTable) (x : ℕ) where
  pub below_rising : (k n : ℕ) → Rises Earlier (rows_below t x k n)
  unfolding rows_below
  below_rising k zero = tt
  below_rising k (suc n) =
      let o = found t (record { x = x; relation = k; y = n }) in
      rises_append Earlier (rows_below t x k n) (row o k n) (below_rising k n) (rising_row o k n)
      (λ r s i j.
      let before = below_known t x k n r i in
      let last = row_is o k n s j in
      inr (before.by ∙ sym last.0, omega (arith, before.low, last.1)))

  pub to_rising : (n : ℕ) → Rises Earlier (rows_to t x n)
  unfolding rows_to
  to_rising zero = tt
  to_rising (suc n) =
      rises_append Earlier (rows_to t x n) (rows_by t x (suc n)) (to_rising n) (below_rising (suc n) 65536)
      (λ r s i j. inl (omega (arith, (to_known t x n r i).1, (below_known t x (suc n) 65536 s j).by)))

  pub rising : (q : ℕ) → Rises Earlier (rows_of t x q)
  rising zero = to_rising 255
  rising (suc q) = below_rising (suc q) 65536
