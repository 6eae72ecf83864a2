-- The rows of a listing, what a call leaves of them, and what they are in terms of the table.
use Rattle.std.specs.Prelude.{◌≡◌, ℕ, zero, suc, ◌<◌, ◌≤◌, ◌⊎◌, List, [], ◌∷◌, ◌++◌, Some, None, Option}
use Rattle.members.specs.Lists.{In}
use Rattle.link_table.specs.Tables.{found}
use Rattle.link_table.specs.declared.table.LinkTable.{LinkTable}
use Rattle.listing.specs.declared.row.LinkRow.{LinkRow}

-- what is listed of a triple by the relation k and with the second word b, where its link number was sought
abbrev pub row : Option ℕ → ℕ → ℕ → List LinkRow
row None k b = []
row (Some u) k b = record { relation = k; y = b; link = u } ∷ []

-- the rows of x by the relation k whose second word has a number below n, in rising order of that number
unfoldable pub rows_below : LinkTable → ℕ → ℕ → ℕ → List LinkRow
rows_below t x k zero = []
rows_below t x k (suc n) = rows_below t x k n ++ row (found t (record { x = x; relation = k; y = n })) k n

-- the rows of x by the relation k
abbrev pub rows_by : LinkTable → ℕ → ℕ → List LinkRow
rows_by t x k = rows_below t x k 65536

-- the rows of x by the relations 1 to n, in rising order of the relation
unfoldable pub rows_to : LinkTable → ℕ → ℕ → List LinkRow
rows_to t x zero = []
rows_to t x (suc n) = rows_to t x n ++ rows_by t x (suc n)

-- the rows of x by the relation q; 0 means by any relation from 1 to 255
abbrev pub rows_of : LinkTable → ℕ → ℕ → List LinkRow
rows_of t x zero = rows_to t x 255
rows_of t x (suc k) = rows_by t x (suc k)

-- the relation q asks for the relation k: it is k, or 0 and k any relation from 1 up
abbrev pub Asks : ℕ → ℕ → Type 0
Asks zero k = 1 ≤ k
Asks (suc q) k = k ≡ suc q

-- a row is listed exactly if the table has its triple with its link number and q asks for its relation
pub record ListsExactly (t : LinkTable) (x q : ℕ) (rows : List LinkRow) : Type 0 where
  pub present : (r : LinkRow) → In rows r → (found t (record { x = x; relation = r.relation; y = r.y }) ≡ Some r.link)
      × Asks q r.relation
  pub whole : (k b u : ℕ) → found t (record { x = x; relation = k; y = b }) ≡ Some u → Asks q k
      → In rows (record { relation = k; y = b; link = u })

-- one row comes before another: its relation is lower, or the relation is the same and its second word's number is
-- lower
abbrev pub Earlier : LinkRow → LinkRow → Type 0
Earlier r s = (r.relation < s.relation) ⊎ ((r.relation ≡ s.relation) × (r.y < s.y))
