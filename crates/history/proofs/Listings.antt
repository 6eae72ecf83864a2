-- Listing a word gives its present triples.
use Rattle.std.proofs.Common.{◌≡◌, ℕ, zero, suc, Bool, true, ◌&&◌, List, [], ◌∷◌, length, Some, sum_by, Option, unwrap_or, sym, refl, ap, ◌∙◌, subst, ⊎_elim, le_of_eq, le_antisymm, arith}
use Rattle.std.proofs.lemmas.Slice.Eq.{bytes_eq-Decides}
use Rattle.std.proofs.lemmas.Bool.{eqb-true, eqb-false, eq-eqb, and_parts, and_from}
use Rattle.members.specs.Lists.{In, Apart, Rises}
use Rattle.cells.proofs.Basics.{some_same}
use Rattle.members.proofs.Pigeons.{sums_under, ones, in_kept, from_kept, apart_kept}
use Rattle.lexicon.specs.Rolls.{number_of}
use Rattle.link_table.specs.Tables.{found, coded}
use Rattle.link_table.specs.declared.table.LinkTable.{LinkTable}
use Rattle.link_table.specs.declared.triple.Triple.{Triple}
use Rattle.link_table.proofs.Tables.{lawful}
use Rattle.listing.specs.Rows.{rows_of, Asks, Earlier}
use Rattle.listing.specs.declared.row.LinkRow.{LinkRow}
use Rattle.listing.proofs.Members.{members}
use Rattle.listing.proofs.Orders.{rising}
use Rattle.history.specs.Kits.{Kit, state_of, labels_of, number_in}
use Rattle.history.specs.Refusals.{word_refusals}
use Rattle.history.specs.Runs.{PresentTriple, same_word}
use Rattle.history.specs.Laws.{asks, listed_triples, ListsTriples}
use Rattle.members.proofs.Filters.{apart_from}
use Rattle.history.proofs.Options.{none_applies}
use Rattle.history.proofs.Standing.{link_at, Fits, triple_known, same_words, same_link}

-- rows in rising order are without repeats
pub rising_apart : (rs : List LinkRow) → Rises Earlier rs → Apart rs
rising_apart [] h = tt
rising_apart (r ∷ rs) h = (λ i. ⊎_elim (λ k. omega arith) (λ k. omega (arith, k.1)) (h.0 r i), rising_apart rs h.1)

-- a relation that is asked for passes the test
asks_from : (q k : ℕ) → Asks q k → asks q k ≡ true
asks_from zero k h = refl
asks_from (suc q) k h = eq-eqb k (suc q) h

-- and back, of a relation that is not 0
from_asks : (q k : ℕ) → (k ≡ 0 → ⊥) → asks q k ≡ true → Asks q k
from_asks zero zero some e = absurd (some refl)
from_asks zero (suc k) some e = omega arith
from_asks (suc q) k some e = eqb-true k (suc q) e

-- rows of the same word with the same number are the same
pub row_same : (t : LinkTable) (x : ℕ) (r s : LinkRow) (u : ℕ) → found t (record { x = x; relation = r.relation; y = r.y }) ≡ Some r.link → found t (record { x = x; relation = s.relation; y = s.y }) ≡ Some s.link
    → r.link ≡ u → s.link ≡ u → r ≡ s
row_same t x r s u f g i j =
    let a : Triple = record { x = x; relation = r.relation; y = r.y } in
    let b : Triple = record { x = x; relation = s.relation; y = s.y } in
    let same : a ≡ b = some_same a b (sym ((lawful t).to_triple a r.link f) ∙ ap (coded t) (i ∙ sym j) ∙ (lawful t).to_triple b s.link g) in
    λ k. record { relation = (same k).relation; y = (same k).y; link = (i ∙ sym j) k }

module _ {S L R : Type 0} (K : Kit S L R) {es : List (PresentTriple S R)} {us : List ℕ} {l : L} {t : LinkTable} {rs : List R} (F : Fits K es us l t rs) (x : List S) (q a : ℕ) (number : number_in K l x ≡ Some a) where
  -- the number of the word
  abbrev word : ℕ
  word = unwrap_or (number_in K l x) 0

  -- its rows
  abbrev rows : List LinkRow
  rows = rows_of t word q

  -- whether a present triple is asked for
  abbrev test : PresentTriple S R → Bool
  test e = same_word K e.x x && asks q e.relation

  -- each row is that of a present triple that is asked for
  from_row : (r : LinkRow) → In rows r → (e : PresentTriple S R) × In (listed_triples K es x q) e × (r.relation ≡ e.relation) × (number_in K l e.y ≡ Some r.y) × (r.link ≡ e.link)
  from_row r i =
      let m = (members t word q).present r i in
      let k = F.back (record { x = word; relation = r.relation; y = r.y }) r.link m.0 in
      let e = k.0 in
      let known = (F.stands e k.1).known in
      let same = sym k.2 ∙ triple_known K l e known in
      let relation : r.relation ≡ e.relation = ap (λ (c : Triple). c.relation) same in
      let passes : test e ≡ true = and_from (same_word K e.x x) (asks q e.relation) (same_words K l e.x x known.a known.x_number (ap (λ (c : Triple). c.x) same))
      (ap (asks q) (sym relation) ∙ asks_from q r.relation m.1) in
      (e, in_kept test es e passes k.1, relation, known.y_number ∙ ap (λ (n : ℕ). Some n) (sym (ap (λ (c : Triple). c.y) same)), sym k.3)

  -- and each such triple has its row
  to_row : (e : PresentTriple S R) → In (listed_triples K es x q) e → (r : LinkRow) × In rows r × (r.relation ≡ e.relation) × (number_in K l e.y ≡ Some r.y) × (r.link ≡ e.link)
  to_row e i =
      let k = from_kept test es e i in
      let parts = and_parts (same_word K e.x x) (asks q e.relation) k.0 in
      let h = F.stands e k.1 in
      let known = h.known in
      let some : e.relation ≡ 0 → ⊥ = eqb-false e.relation 0 (none_applies (word_refusals e.x e.y e.relation) known.fit).1.1.0 in
      let alike : number_in K l e.x ≡ number_in K l x = ap (number_of (K.roll l)) ((bytes_eq-Decides (labels_of K e.x) (labels_of K x)).0 parts.0) in
      let at : known.a ≡ word = ap (λ (o : Option ℕ). unwrap_or o 0) (sym known.x_number ∙ alike) in
      let has = ap (λ (n : ℕ). found t (record { x = n; relation = e.relation; y = known.b })) (sym at) ∙ sym (ap (found t) (triple_known K l e known)) ∙ h.held in
      (record { relation = e.relation; y = known.b; link = e.link }, (members t word q).whole e.relation known.b e.link has (from_asks q e.relation some parts.1), refl, known.y_number, refl)

  -- they add up to the same, where a row adds what the present triple with its number does
  pub same_sums : (f : LinkRow → ℕ) (g : PresentTriple S R → ℕ) → ((r : LinkRow) (e : PresentTriple S R) → In es e → r.link ≡ e.link → f r ≡ g e) → sum_by f rows ≡ sum_by g (listed_triples K es x q)
  same_sums f g same =
      let Shows : LinkRow → PresentTriple S R → Type 0 = λ r e. (found t (record { x = word; relation = r.relation; y = r.y }) ≡ Some r.link) × In es e × (r.link ≡ e.link) in
      let Shown : PresentTriple S R → LinkRow → Type 0 = λ e r. In es e × (e.link ≡ r.link) in
      le_antisymm
      (sums_under f g Shows (λ r s e i j. row_same t word r s e.link i.0 j.0 i.2 j.2) (λ r e i. le_of_eq (same r e i.1 i.2)) rows (listed_triples K es x q) (rising_apart rows (rising t word q))
      (λ r i. let k = from_row r i in (k.0, k.1, (((members t word q).present r i).0, (from_kept test es k.0 k.1).1, k.4))))
      (sums_under g f Shown (λ e d r i j. same_link K F e d i.0 j.0 (i.1 ∙ sym j.1)) (λ e r i. le_of_eq (sym (same r e i.0 (sym i.1)))) (listed_triples K es x q) rows
      (apart_kept test es (apart_from link_at es (subst Apart F.numbers F.unlike)))
      (λ e i. let k = to_row e i in (k.0, k.1, ((from_kept test es e i).1, sym k.4))))

  -- so they are as many
  pub as_many_rows : length rows ≡ length (listed_triples K es x q)
  as_many_rows = sym (ones rows) ∙ same_sums (λ _. 1) (λ _. 1) (λ r e i z. refl) ∙ ones (listed_triples K es x q)

  -- so listing the word gives its present triples
  pub listing_of : ListsTriples K (state_of l t rs) es x q
  listing_of = record { rows = from_row; triples = to_row; as_many = as_many_rows }
