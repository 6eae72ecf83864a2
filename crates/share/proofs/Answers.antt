-- The link that the share is of, its count as a part of the total, and the answer.
use Rattle.std.proofs.Common.{◌≡◌, ℕ, ◌≤◌, true, eqb, List, is_some, Some, None, Ok, Option, unwrap_or, sym, refl, ap, ◌∙◌, subst, arith}
use Rattle.std.proofs.lemmas.Bool.{not-false}
use Rattle.refusal.specs.declared.Refusal.{Refusal}
use Rattle.record.specs.declared.Tally.{Tally}
use Rattle.cells.proofs.Basics.{some_is}
use Rattle.members.proofs.Pigeons.{part_of_sum}
use Rattle.link_table.specs.Tables.{found}
use Rattle.link_table.specs.declared.table.LinkTable.{LinkTable}
use Rattle.listing.specs.Rows.{rows_by}
use Rattle.listing.proofs.Members.{bounds, below_in}
use Rattle.history.specs.declared.replies.Link.{Link}
use Rattle.history.specs.Kits.{Kit, number_in, triple_in}
use Rattle.history.specs.Refusals.{sought_refusals}
use Rattle.history.specs.Calls.{answered, link_in, held_in, refusal_of_sought}
use Rattle.history.proofs.Options.{none_applies}
use Rattle.store.specs.Links.{link_answer}
use Rattle.share.specs.Rounding.{share_of}
use Rattle.share.specs.Shares.{count_at, present_in, share_answer}
use Rattle.share.specs.Totals.{total_of}
use Rattle.share.proofs.Present.{rows_total}

-- what was answered was not refused
accepted : {A : Type 0} (o : Option Refusal) (v w : A) → Ok w ≡ answered o v → (o ≡ None) × (w ≡ v)
accepted (Some f) v w e = let z : ◌≡◌ {A = ℕ} 0 1 = cc in absurd (omega arith)
accepted None v w e = (refl, cc)

-- an option that has something has its value
value_is : (o : Option ℕ) → is_some o ≡ true → o ≡ Some (unwrap_or o 0)
value_is o e = let k = some_is o e in k.1 ∙ ap (λ (p : Option ℕ). Some (unwrap_or p 0)) (sym k.1)

-- the table has the link that was answered
pub link_held : {S L R : Type 0} (K : Kit S L R) (l : L) (t : LinkTable) (x y : List S) (q : ℕ) (link : Link) → Ok link ≡ link_answer K l t x y q → found t (record { x = link.x; relation = q; y = link.y }) ≡ Some link.number
link_held K l t x y q link e =
    let there = found t (triple_in K l x y q) in
    let k = accepted (refusal_of_sought K l t x y q) (link_in K l x y (unwrap_or there 0)) link e in
    let none = none_applies (sought_refusals x y q (number_in K l x) (number_in K l y) (held_in K l t x y q)) k.0 in
    subst (λ (w : Link). found t (record { x = w.x; relation = q; y = w.y }) ≡ Some w.number) (sym k.1) (value_is there (not-false (is_some there) none.1.1.1.1.1.0))

-- the count of a present triple is a part of the total of its word and relation
pub part_of_total : (t : LinkTable) (records : List Tally) (x k y u : ℕ) → found t (record { x = x; relation = k; y = y }) ≡ Some u → count_at records u ≤ total_of eqb (present_in t records) x k
part_of_total t records x k y u e =
    subst (λ (n : ℕ). count_at records u ≤ n) (rows_total t records x k) (part_of_sum (λ r. count_at records r.link) (rows_by t x k) (record { relation = k; y = y; link = u }) (below_in t x k y u 65536 (bounds t x k y u e).1 e))

-- the share of the link's count in the total of its first word is what is answered
pub share_is : {S L R : Type 0} (K : Kit S L R) (l : L) (t : LinkTable) (records : List Tally) (x y : List S) (q : ℕ) (link : Link) → Ok link ≡ link_answer K l t x y q → (share count total : ℕ)
    → count ≡ count_at records link.number → total ≡ total_of eqb (present_in t records) link.x q → (count ≤ total → share ≡ share_of count total) → Ok share ≡ share_answer t records q (link_answer K l t x y q)
share_is K l t records x y q link e share count total ec et es =
    let part = part_of_total t records link.x q link.y link.number (link_held K l t x y q link e) in
    let fits : count ≤ total = omega (arith, part, ec, et) in
    ap (λ (n : ℕ). Ok n) (es fits ∙ ap (λ (n : ℕ). share_of n total) ec ∙ ap (share_of (count_at records link.number)) et)
    ∙ ap (share_answer t records q) e
