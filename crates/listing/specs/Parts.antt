-- What the walks of a listing write, part by part.
use Rattle.std.specs.Prelude.{◌≡◌, ℕ, zero, suc, ◌+◌, Bool, ◌&&◌, List, [], ◌++◌, length, is_some, nat_lt}
use Rattle.std.proofs.lemmas.List.Edits.{sets}
use Rattle.cells.specs.declared.Cell.{Cell}
use Rattle.cells.specs.Walking.{cell_at}
use Rattle.link_table.specs.Tables.{found}
use Rattle.link_table.specs.declared.table.LinkTable.{LinkTable}
use Rattle.listing.specs.declared.row.LinkRow.{LinkRow}
use Rattle.listing.specs.Rows.{row}

-- the rows of x by the relation k whose second word has one of the n numbers from b up
unfoldable pub rows_from : LinkTable → ℕ → ℕ → ℕ → ℕ → List LinkRow
rows_from t x k b zero = []
rows_from t x k b (suc n) = rows_from t x k b n ++ row (found t (record { x = x; relation = k; y = b + n })) k (b + n)

-- the rows were set in the output one after another from `at` on, as far as it has places: they end at `end`, and it
-- then holds `after`
pub record RowsWritten (out : List LinkRow) (at : ℕ) (rows : List LinkRow) (end : ℕ)
    (after : List LinkRow) : Type 0 where
  pub ends : end ≡ at + length rows
  pub holds : after ≡ sets out at rows

-- whether the path leads to a cell; fewer than two cells have no root
abbrev pub leads_on : List Cell → List ℕ → Bool
leads_on cs p = nat_lt 1 (length cs) && is_some (cell_at cs p)
