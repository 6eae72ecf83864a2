-- The share of a triple, by the table and the records.
use Rattle.std.specs.Prelude.{ℕ, ◌-◌, List, Some, None, Ok, Err, sum_by, filter_map, Option, Result, ◌==◌}
use Rattle.std.specs.List.{slice_get}
use Rattle.refusal.specs.declared.Refusal.{Refusal}
use Rattle.record.specs.declared.Tally.{Tally}
use Rattle.link_table.specs.Tables.{coded, numbers}
use Rattle.link_table.specs.declared.table.LinkTable.{LinkTable}
use Rattle.link_table.specs.declared.triple.Triple.{Triple}
use Rattle.listing.specs.declared.row.LinkRow.{LinkRow}
use Rattle.history.specs.declared.replies.Link.{Link}
use Rattle.history.specs.Kits.{Kit, State}
use Rattle.store.specs.Links.{link_answer}
use Rattle.share.specs.Rounding.{share_of}
use Rattle.share.specs.Totals.{CountedTriple, total_of}

-- the count of a tally, 0 of none
abbrev pub count_of : Option Tally → ℕ
count_of None = 0
count_of (Some tally) = tally.count

-- the count at the link number u, 0 where the records do not reach it
abbrev pub count_at : List Tally → ℕ → ℕ
count_at records u = count_of (slice_get records (u - 1))

-- the sum of the counts at the rows' link numbers
abbrev pub sum_at : List Tally → List LinkRow → ℕ
sum_at records rows = sum_by (λ r. count_at records r.link) rows

-- a triple in word numbers, with a count; none where there is none
abbrev pub counted_as : Option Triple → ℕ → Option (CountedTriple ℕ)
counted_as None n = None
counted_as (Some c) n = Some (record { x = c.x; relation = c.relation; count = n })

-- the present triples of a table, in word numbers, each with the count at its link number
abbrev pub present_in : LinkTable → List Tally → List (CountedTriple ℕ)
present_in t records = filter_map (λ u. counted_as (coded t u) (count_at records u)) (numbers t)

-- the share of the triple whose link was sought, or the refusal
abbrev pub share_answer : LinkTable → List Tally → ℕ → Result Link Refusal → Result ℕ Refusal
share_answer t records k (Ok link) =
    Ok (share_of (count_at records link.number) (total_of ◌==◌ (present_in t records) link.x k))
share_answer t records k (Err e) = Err e

-- the share of the words x and y with the relation q in a store
abbrev pub share_in : {S L : Type 0} → Kit S L Tally → State L Tally → List S → List S → ℕ → Result ℕ Refusal
share_in K s x y q = share_answer s.table s.records q (link_answer K s.list s.table x y q)
