-- The share is that of the present triples.
use Rattle.std.proofs.Common.{◌≡◌, ℕ, zero, suc, ◌≤◌, Bool, true, false, not, ◌&&◌, leb, eqb, List, map, Some, None, Ok, sum_by, filter, Option, Result, unwrap_or, sym, refl, ap, ◌∙◌, subst, le_trans}
use Rattle.std.proofs.lemmas.Slice.Eq.{bytes_eq-Decides}
use Rattle.std.proofs.lemmas.Bool.{and_parts, and_from, leb-true, eqb-true, eqb-false}
use Rattle.refusal.specs.declared.Refusal.{Refusal}
use Rattle.script.specs.Words.{word_sized, WordsApart}
use Rattle.record.specs.Soundness.{sound_tally}
use Rattle.record.specs.declared.Tally.{Tally}
use Rattle.members.specs.Lists.{In}
use Rattle.members.proofs.Pigeons.{in_kept, part_of_sum}
use Rattle.link_table.specs.Tables.{found}
use Rattle.link_table.specs.declared.table.LinkTable.{LinkTable}
use Rattle.history.specs.declared.replies.Link.{Link}
use Rattle.history.specs.Kits.{Kit, state_of, labels_of, number_in, triple_in}
use Rattle.history.specs.Refusals.{first, none, word_refusals, sought_refusals}
use Rattle.history.specs.Calls.{answered, link_in, held_in, refusal_of_sought}
use Rattle.history.specs.Runs.{PresentTriple, same_word, same_triple, present}
use Rattle.history.specs.Laws.{Unless}
use Rattle.members.proofs.Filters.{kept_map}
use Rattle.history.proofs.Options.{none_applies, applies_none}
use Rattle.history.proofs.Standing.{Fits, triple_from}
use Rattle.history.proofs.Steps.{held_of}
use Rattle.history.proofs.Listings.{same_sums}
use Rattle.history.proofs.Runs.{held_is, law_of}
use Rattle.store.specs.Links.{link_answer}
use Rattle.share.specs.Rounding.{share_of}
use Rattle.share.specs.Shares.{count_of, count_at, present_in, share_answer}
use Rattle.share.specs.Totals.{CountedTriple, total_of}
use Rattle.share.specs.Laws.{with_count, ShareLaw}
use Rattle.share.proofs.Present.{rows_total}
use Rattle.share.proofs.Sums.{sum_map}

-- the total is the sum of the counts of the present triples that have the word and the relation
total_entries : {S L : Type 0} (K : Kit S L Tally) (es : List (PresentTriple S Tally)) (x : List S) (q : ℕ)
    → total_of (same_word K) (map with_count es) x q ≡ sum_by (λ e. e.kept.count) (filter (λ e. same_word K e.x x && eqb e.relation q) es)
total_entries {S} K es x q =
    let has : CountedTriple (List S) → Bool = λ c. same_word K c.x x && eqb c.relation q in
    let asked : PresentTriple S Tally → Bool = λ e. has (with_count e) in
    ap (sum_by (λ (c : CountedTriple (List S)). c.count)) (kept_map with_count has asked es (λ e i. refl)) ∙ sum_map with_count (λ (c : CountedTriple (List S)). c.count) (filter asked es)

-- the count of a present triple of the triple is a part of it
part_of_entries : {S L : Type 0} (K : Kit S L Tally) (es : List (PresentTriple S Tally)) (x y : List S) (q : ℕ) (e : PresentTriple S Tally) → In es e → same_triple K x y q e ≡ true
    → e.kept.count ≤ total_of (same_word K) (map with_count es) x q
part_of_entries {S} K es x y q e i same =
    let asked : PresentTriple S Tally → Bool = λ d. same_word K d.x x && eqb d.relation q in
    let one = and_parts (same_word K e.x x) (same_word K e.y y && eqb e.relation q) same in
    let two = and_parts (same_word K e.y y) (eqb e.relation q) one.1 in
    let there = in_kept asked es e (and_from (same_word K e.x x) (eqb e.relation q) one.0 two.1) i in
    subst (λ (n : ℕ). e.kept.count ≤ n) (sym (total_entries K es x q)) (part_of_sum (λ (d : PresentTriple S Tally). d.kept.count) (filter asked es) e there)

module _ {S L : Type 0} (K : Kit S L Tally) {es : List (PresentTriple S Tally)} {us : List ℕ} {l : L} {t : LinkTable} {records : List Tally} (F : Fits K es us l t records) where
  -- the count at a present triple's number is its own
  count_is : (e : PresentTriple S Tally) → In es e → count_at records e.link ≡ e.kept.count
  count_is e i = ap count_of (F.stands e i).kept

  -- the total of a known word and a relation, over the present triples of the table, is that over the present triples
  pub same_total : (x : List S) (q a : ℕ) → eqb q 0 ≡ false → number_in K l x ≡ Some a → total_of eqb (present_in t records) (unwrap_or (number_in K l x) 0) q ≡ total_of (same_word K) (map with_count es) x q
  same_total x zero a some number = absurd (eqb-false 0 0 some refl)
  same_total x (suc q) a some number =
      sym (rows_total t records (unwrap_or (number_in K l x) 0) (suc q)) ∙ same_sums K F x (suc q) a number (λ r. count_at records r.link) (λ e. e.kept.count) (λ r e i z. ap (count_at records) z ∙ count_is e i) ∙ sym (total_entries K es x (suc q))

-- a sound tally counts at least 1
sound_some : (tally : Tally) → sound_tally tally ≡ true → 1 ≤ tally.count
sound_some tally e = leb-true 1 tally.count (and_parts (leb 1 tally.count) (leb tally.count 1000000000) e).0

-- an answer that is given unless a refusal applies, as a share
unless_share : (t : LinkTable) (records : List Tally) (k : ℕ) (o : Option Refusal) (v : Link) → Unless o (share_answer t records k (answered o v))
unless_share t records k (Some f) v = refl
unless_share t records k None v = refl

module _ {S L : Type 0} (K : Kit S L Tally) (apart : WordsApart K.spelling) (good : (tally : Tally) → K.good tally ≡ true → sound_tally tally ≡ true) (l : L) (t : LinkTable) (records : List Tally) (x y : List S) (q : ℕ) where
  -- the refusals, judged by the table
  abbrev refusal : Option Refusal
  refusal = refusal_of_sought K l t x y q

  -- the link of a present triple of the triple is not refused, and it is answered
  link_is : {es : List (PresentTriple S Tally)} {us : List ℕ} (F : Fits K es us l t records) (e : PresentTriple S Tally) → In es e → same_triple K x y q e ≡ true
      → (link_answer K l t x y q ≡ Ok (link_in K l x y e.link)) × (eqb q 0 ≡ false) × ((a : ℕ) × (number_in K l x ≡ Some a))
  link_is F e i same =
      let one = and_parts (same_word K e.x x) (same_word K e.y y && eqb e.relation q) same in
      let two = and_parts (same_word K e.y y) (eqb e.relation q) one.1 in
      let ex : e.x ≡ x = apart e.x x ((bytes_eq-Decides (labels_of K e.x) (labels_of K x)).0 one.0) in
      let ey : e.y ≡ y = apart e.y y ((bytes_eq-Decides (labels_of K e.y) (labels_of K y)).0 two.0) in
      let eq : e.relation ≡ q = eqb-true e.relation q two.1 in
      let stands = F.stands e i in
      let known = stands.known in
      let x_number : number_in K l x ≡ Some known.a = ap (number_in K l) (sym ex) ∙ known.x_number in
      let y_number : number_in K l y ≡ Some known.b = ap (number_in K l) (sym ey) ∙ known.y_number in
      let there : found t (triple_in K l x y q) ≡ Some e.link = ap (found t) (sym (triple_from K l x y q e same)) ∙ stands.held in
      let fit = none_applies (word_refusals e.x e.y e.relation) known.fit in
      let some : eqb q 0 ≡ false = ap (λ (k : ℕ). eqb k 0) (sym eq) ∙ fit.1.1.0 in
      let fine : refusal ≡ None = applies_none (sought_refusals x y q (number_in K l x) (number_in K l y) (held_in K l t x y q)) (
        ap (λ (w : List S). not (word_sized w)) (sym ex) ∙ fit.0,
        (ap (λ (w : List S). not (word_sized w)) (sym ey) ∙ fit.1.0, (some, (ap none x_number, (ap none y_number, (ap none there, tt))))),
      ) in (
        ap (λ (o : Option Refusal). answered o (link_in K l x y (unwrap_or (found t (triple_in K l x y q)) 0))) fine ∙ ap (λ (o : Option ℕ). Ok (link_in K l x y (unwrap_or o 0))) there,
        some,
        (known.a, x_number),
      )

  -- what the share says of every history that led to the state
  pub share_law : (r : Result ℕ Refusal) → r ≡ share_answer t records q (link_answer K l t x y q) → ShareLaw K (state_of l t records) x y q r
  share_law r answer = record {
    shared = λ h run e i same.
        let F = (held_of K run).fits in
        let k = link_is F e i same in
        answer
        ∙ ap (share_answer t records q) k.0
        ∙ ap (λ (c : ℕ). Ok (share_of c (total_of eqb (present_in t records) (unwrap_or (number_in K l x) 0) q))) (count_is K F e i)
        ∙ ap (λ (n : ℕ). Ok (share_of e.kept.count n)) (same_total K F x q k.2.0 k.1 k.2.1);
    positive = λ h run e i same. le_trans (sound_some e.kept (good e.kept ((law_of K run).sound e i))) (part_of_entries K (present K h) x y q e i same);
    refused = λ h run.
        subst (λ (b : Bool). Unless (first (sought_refusals x y q (number_in K l x) (number_in K l y) b)) r) (held_is K (held_of K run).fits x y q)
        (subst (Unless refusal) (sym answer) (unless_share t records q refusal (link_in K l x y (unwrap_or (found t (triple_in K l x y q)) 0))));
  }
