-- The total of a word's rows, one upper byte after the other.
use Rattle.std.proofs.Common.{◌≡◌, ℕ, ◌+◌, ◌*◌, List, length, take, drop, Some, sym, ap, ◌∙◌}
use Rattle.std.proofs.lemmas.List.{take_at}
use Rattle.std.proofs.lemmas.List.Sums.{sum_by-append}
use Rattle.output.specs.Written.{written, Filled}
use Rattle.record.specs.declared.Tally.{Tally}
use Rattle.link_table.specs.declared.table.LinkTable.{LinkTable}
use Rattle.listing.specs.Parts.{rows_from}
use Rattle.listing.specs.Rows.{rows_below}
use Rattle.listing.specs.declared.row.LinkRow.{LinkRow}
use Rattle.listing.proofs.Parts.{below_none, below_next}
use Rattle.share.specs.Shares.{count_at, sum_at}

-- the rows stand at the start of an output that they fill
pub front : (rows out after : List LinkRow) (n : ℕ) → Filled rows out (Some n) after → take n after ≡ rows
unfolding written
front rows out after n f = ap (take n) f.2 ∙ take_at rows (drop (0 + length rows) out) n (sym f.1)

module _ (t : LinkTable) (records : List Tally) (x k : ℕ) where
  pub total_none : 0 ≡ sum_at records (rows_below t x k 0)
  total_none = sym (ap (sum_at records) (below_none t x k))

  -- the rows of one upper byte more
  pub total_more : (upper sum block : ℕ) → sum ≡ sum_at records (rows_below t x k (256 * upper)) → block ≡ sum_at records (rows_from t x k (256 * upper) 256)
      → sum + block ≡ sum_at records (rows_below t x k (256 * (upper + 1)))
  total_more upper sum block e f =
      let before = rows_below t x k (256 * upper) in
      let more = rows_from t x k (256 * upper) 256 in
      ap (λ (n : ℕ). n + block) e ∙ ap (λ (n : ℕ). sum_at records before + n) f
      ∙ sym (ap (sum_at records) (below_next t x k upper) ∙ sum_by-append (λ r. count_at records r.link) before more)
