-- The total over the present triples of a table is the sum over the rows of a word and a relation.
use Rattle.std.proofs.Common.{◌≡◌, ℕ, ◌+◌, Bool, true, false, cond, ◌&&◌, eqb, List, [], ◌∷◌, is_some, Some, None, sum_by, filter, Option, sym, refl, ap, ◌∙◌, le_of_eq, le_antisymm}
use Rattle.std.specs.List.{filter_map, cons_option}
use Rattle.std.proofs.lemmas.Bool.{eqb-true, eq-eqb, and_parts, and_from, both_ways}
use Rattle.std.proofs.lemmas.List.Sums.{sum_by-cons}
use Rattle.record.specs.declared.Tally.{Tally}
use Rattle.members.specs.Lists.{In}
use Rattle.members.proofs.Pigeons.{in_kept, from_kept, apart_kept, sums_under}
use Rattle.link_table.specs.Tables.{found, coded, numbers}
use Rattle.link_table.specs.declared.table.LinkTable.{LinkTable}
use Rattle.link_table.specs.declared.triple.Triple.{Triple}
use Rattle.link_table.proofs.Tables.{lawful}
use Rattle.listing.specs.Rows.{rows_by}
use Rattle.listing.specs.declared.row.LinkRow.{LinkRow}
use Rattle.listing.proofs.Members.{bounds, below_in, below_known}
use Rattle.listing.proofs.Orders.{below_rising}
use Rattle.history.proofs.Listings.{rising_apart, row_same}
use Rattle.share.specs.Shares.{count_at, sum_at, counted_as, present_in}
use Rattle.share.specs.Totals.{CountedTriple, total_of}

module _ (t : LinkTable) (records : List Tally) (x k : ℕ) where
  -- whether a present triple has the word and the relation
  abbrev has : CountedTriple ℕ → Bool
  has c = eqb c.x x && eqb c.relation k

  -- whether there is a triple that has them
  abbrev there : Option Triple → Bool
  there None = false
  there (Some c) = eqb c.x x && eqb c.relation k

  -- one number more, by what it is the number of
  one_more : (o : Option Triple) (u : ℕ) (cs : List (CountedTriple ℕ)) (us : List ℕ) → sum_by (λ c. c.count) (filter has cs) ≡ sum_by (count_at records) us
      → sum_by (λ c. c.count) (filter has (cons_option (counted_as o (count_at records u)) cs)) ≡ sum_by (count_at records) (cond (there o) (u ∷ us) us)
  one_more None u cs us e = e
  one_more (Some c) u cs us e = kept (there (Some c))
    where
      kept : (b : Bool) → sum_by (λ (d : CountedTriple ℕ). d.count) (cond b (record { x = c.x; relation = c.relation; count = count_at records u } ∷ filter has cs) (filter has cs)) ≡ sum_by (count_at records) (cond b (u ∷ us) us)
      kept true = sum_by-cons (λ (d : CountedTriple ℕ). d.count) (record { x = c.x; relation = c.relation; count = count_at records u }) (filter has cs) ∙ ap (λ (n : ℕ). count_at records u + n) e ∙ sym (sum_by-cons (count_at records) u us)
      kept false = e

  -- the total is the sum of the counts at the numbers whose triples have the word and the relation
  by_number : (us : List ℕ) → sum_by (λ c. c.count) (filter has (filter_map (λ u. counted_as (coded t u) (count_at records u)) us)) ≡ sum_by (count_at records) (filter (λ u. there (coded t u)) us)
  by_number [] = refl
  by_number (u ∷ us) = one_more (coded t u) u (filter_map (λ v. counted_as (coded t v) (count_at records v)) us) (filter (λ v. there (coded t v)) us) (by_number us)

  -- those numbers
  abbrev links : List ℕ
  links = filter (λ u. there (coded t u)) (numbers t)

  -- a row's number is one of them
  to_link : (r : LinkRow) → In (rows_by t x k) r → (found t (record { x = x; relation = r.relation; y = r.y }) ≡ Some r.link) × In links r.link
  to_link r i =
      let known = below_known t x k 65536 r i in
      let code = (lawful t).to_triple (record { x = x; relation = r.relation; y = r.y }) r.link known.held in
      (known.held, in_kept (λ u. there (coded t u)) (numbers t) r.link (ap there code ∙ and_from (eqb x x) (eqb r.relation k) (eq-eqb x x refl) (eq-eqb r.relation k known.by)) ((lawful t).counted r.link (ap is_some code)))

  -- a triple that has the word and the relation, by its second word
  there_is : (o : Option Triple) → there o ≡ true → (b : ℕ) × (o ≡ Some (record { x = x; relation = k; y = b }))
  there_is (Some c) e =
      let same = and_parts (eqb c.x x) (eqb c.relation k) e in
      (c.y, λ i. Some (record { x = eqb-true c.x x same.0 i; relation = eqb-true c.relation k same.1 i; y = c.y }))
  there_is None e = absurd (both_ways false refl e)

  -- each of them has its row
  to_row : (u : ℕ) → In links u → (r : LinkRow) × In (rows_by t x k) r × (u ≡ r.link)
  to_row u i =
      let has_code = there_is (coded t u) (from_kept (λ v. there (coded t v)) (numbers t) u i).0 in
      let held = (lawful t).to_number (record { x = x; relation = k; y = has_code.0 }) u has_code.1 in
      (record { relation = k; y = has_code.0; link = u }, below_in t x k has_code.0 u 65536 (bounds t x k has_code.0 u held).1 held, refl)

  -- so the counts at the rows add up to the total
  pub rows_total : sum_at records (rows_by t x k) ≡ total_of eqb (present_in t records) x k
  rows_total =
      let Shows : LinkRow → ℕ → Type 0 = λ r u. (found t (record { x = x; relation = r.relation; y = r.y }) ≡ Some r.link) × (r.link ≡ u) in
      le_antisymm
      (sums_under (λ (r : LinkRow). count_at records r.link) (count_at records) Shows (λ r s u i j. row_same t x r s u i.0 j.0 i.1 j.1) (λ r u i. le_of_eq (ap (count_at records) i.1))
      (rows_by t x k) links (rising_apart (rows_by t x k) (below_rising t x k 65536)) (λ r i. let to = to_link r i in (r.link, to.1, (to.0, refl))))
      (sums_under (count_at records) (λ (r : LinkRow). count_at records r.link) (λ u r. u ≡ r.link) (λ u v r i j. i ∙ sym j) (λ u r i. le_of_eq (ap (count_at records) i))
      links (rows_by t x k) (apart_kept (λ u. there (coded t u)) (numbers t) (lawful t).apart) to_row)
      ∙ sym (by_number (numbers t))
