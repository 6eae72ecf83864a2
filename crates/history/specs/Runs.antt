-- Runs of calls, and the triples that are present after them.
use Rattle.std.specs.Prelude.{ℕ, suc, Bool, true, false, cond, not, ◌&&◌, List, [], ◌∷◌, map, length, is_ok, Some, None, Ok, Err, filter, Option, Result, ◌==◌}
use Rattle.std.specs.Str.{bytes_eq}
use Rattle.refusal.specs.declared.Refusal.{Refusal}
use Rattle.lexicon.specs.Rolls.{Lawful}
use Rattle.link_table.specs.Tables.{IsNewTable}
use Rattle.link_table.specs.declared.table.LinkTable.{LinkTable}
use Rattle.listing.specs.declared.row.LinkRow.{LinkRow}
use Rattle.history.specs.declared.replies.Reply.{Reply}
use Rattle.history.specs.declared.replies.Reply.TheVariants.{Linked, Deleted, Found, Read, Changed, Listed, Counted}
use Rattle.lexicon.specs.Growths.{any_growth}
use Rattle.history.specs.Kits.{Kit, State, state_of, labels_of}
use Rattle.history.specs.Calls.{Call, add, tie, delete, find, read, change, list, figures, Steps}

-- a call and its answer
pub record Event (S R : Type 0) : Type 0 where
  pub call : Call S R
  pub answer : Result (Reply R) Refusal

abbrev pub event_of : {S R : Type 0} → Call S R → Result (Reply R) Refusal → Event S R
event_of c n = record { call = c; answer = n }

-- the calls of a run with their answers, the last one first
abbrev pub History : Type 0 → Type 0 → Type 0
History S R = List (Event S R)

-- a triple that is present after a history: its words and relation, its number, and the record that it has by then
pub record PresentTriple (S R : Type 0) : Type 0 where
  pub x : List S
  pub y : List S
  pub relation : ℕ
  pub link : ℕ
  pub kept : R

abbrev pub present_triple : {S R : Type 0} → List S → List S → ℕ → ℕ → R → PresentTriple S R
present_triple w v q u r = record { x = w; y = v; relation = q; link = u; kept = r }

-- the link number that an answer hands out
abbrev pub handed_by : {R : Type 0} → Result (Reply R) Refusal → Option ℕ
handed_by (Ok (Linked link)) = Some link.number
handed_by (Ok (Deleted u)) = None
handed_by (Ok (Found link)) = None
handed_by (Ok (Read reading)) = None
handed_by (Ok Changed) = None
handed_by (Ok (Listed k)) = None
handed_by (Ok (Counted pair)) = None
handed_by (Err f) = None

-- the link number that an answer takes back
abbrev pub taken_by : {R : Type 0} → Result (Reply R) Refusal → Option ℕ
taken_by (Ok (Linked link)) = None
taken_by (Ok (Deleted u)) = Some u
taken_by (Ok (Found link)) = None
taken_by (Ok (Read reading)) = None
taken_by (Ok Changed) = None
taken_by (Ok (Listed k)) = None
taken_by (Ok (Counted pair)) = None
taken_by (Err f) = None

-- whether two words are the same: their labels are, and no two words are spelled alike
abbrev pub same_word : {S L R : Type 0} → Kit S L R → List S → List S → Bool
same_word K x y = bytes_eq (labels_of K x) (labels_of K y)

-- whether the present triple is of these words and this relation
abbrev pub same_triple : {S L R : Type 0} → Kit S L R → List S → List S → ℕ → PresentTriple S R → Bool
same_triple K x y q e = same_word K e.x x && (same_word K e.y y && e.relation == q)

-- the triples with the one that was handed a link number
abbrev pub put_in : {S R : Type 0} → List S → List S → ℕ → R → Option ℕ → List (PresentTriple S R)
    → List (PresentTriple S R)
put_in x y q r None es = es
put_in x y q r (Some u) es = present_triple x y q u r ∷ es

-- the triples without this one, if it was accepted that it be taken out
abbrev pub triples_without : {S L R : Type 0} → Kit S L R → List S → List S → ℕ → Bool → List (PresentTriple S R)
    → List (PresentTriple S R)
triples_without K x y q false es = es
triples_without K x y q true es = filter (λ e. not (same_triple K x y q e)) es

-- the present triple with the record r if its link number is u
abbrev pub rewritten : {S R : Type 0} → ℕ → R → PresentTriple S R → PresentTriple S R
rewritten u r e = cond (e.link == u) (present_triple e.x e.y e.relation e.link r) e

-- the triples with the record r given to the one that has the link number u, if that was accepted
abbrev pub given : {S R : Type 0} → ℕ → R → Bool → List (PresentTriple S R) → List (PresentTriple S R)
given u r false es = es
given u r true es = map (rewritten u r) es

-- what a call does to the present triples: nothing, or a triple is put in, taken out, or given another record
pub data Effect (S R : Type 0) : Type 0 where
  quiet : Effect S R
  puts_in : (x y : List S) (q : ℕ) (r : R) → Effect S R
  takes_out : (x y : List S) (q : ℕ) → Effect S R
  gives : (u : ℕ) (r : R) → Effect S R

-- what each call does, if it is accepted: the one place where a further call says so
abbrev pub effect_of : {S R : Type 0} → Call S R → Effect S R
effect_of (add x y q r) = puts_in x y q r
effect_of (tie x y q r) = puts_in x y q r
effect_of (delete x y q) = takes_out x y q
effect_of (find x y q) = quiet
effect_of (read u) = quiet
effect_of (change u r) = gives u r
effect_of (list x q) = quiet
effect_of figures = quiet

-- the triples after an effect that was answered n
abbrev pub present_by : {S L R : Type 0} → Kit S L R → Effect S R → Result (Reply R) Refusal → List (PresentTriple S R)
    → List (PresentTriple S R)
present_by K quiet n es = es
present_by K (puts_in x y q r) n es = put_in x y q r (handed_by n) es
present_by K (takes_out x y q) n es = triples_without K x y q (is_ok n) es
present_by K (gives u r) n es = given u r (is_ok n) es

-- the triples after a call that was answered n
abbrev pub present_after : {S L R : Type 0} → Kit S L R → Call S R → Result (Reply R) Refusal → List (PresentTriple S R)
    → List (PresentTriple S R)
present_after K c n es = present_by K (effect_of c) n es

-- the triples that are present after a history, by its arguments and answers alone
abbrev pub present : {S L R : Type 0} → Kit S L R → History S R → List (PresentTriple S R)
present K [] = []
present K (e ∷ h) = present_after K e.call e.answer (present K h)

-- the numbers with the one handed out
abbrev pub hand_out : Option ℕ → List ℕ → List ℕ
hand_out None us = us
hand_out (Some u) us = u ∷ us

-- the numbers without the one taken back
abbrev pub take_back : Option ℕ → List ℕ → List ℕ
take_back None us = us
take_back (Some u) us = filter (λ v. not (v == u)) us

-- the link numbers after an effect that was answered n
abbrev pub handed_by_effect : {S R : Type 0} → Effect S R → Result (Reply R) Refusal → List ℕ → List ℕ
handed_by_effect quiet n us = us
handed_by_effect (puts_in x y q r) n us = hand_out (handed_by n) us
handed_by_effect (takes_out x y q) n us = take_back (taken_by n) us
handed_by_effect (gives u r) n us = us

-- the link numbers after a call that was answered n
abbrev pub handed_after : {S R : Type 0} → Call S R → Result (Reply R) Refusal → List ℕ → List ℕ
handed_after c n us = handed_by_effect (effect_of c) n us

-- the link numbers handed out and not since taken back, the last one first
abbrev pub handed : {S R : Type 0} → History S R → List ℕ
handed [] = []
handed (e ∷ h) = handed_after e.call e.answer (handed h)

-- one more, if it was accepted
abbrev pub one_if : Bool → ℕ → ℕ
one_if true k = suc k
one_if false k = k

-- one more, if the effect was accepted and puts a triple in
abbrev pub put_by_effect : {S R : Type 0} → Effect S R → Bool → ℕ → ℕ
put_by_effect quiet b k = k
put_by_effect (puts_in x y q r) b k = one_if b k
put_by_effect (takes_out x y q) b k = k
put_by_effect (gives u r) b k = k

-- one more, if the call was an accepted add or tie
abbrev pub put_after : {S R : Type 0} → Call S R → Bool → ℕ → ℕ
put_after c b k = put_by_effect (effect_of c) b k

-- how many adds and ties were accepted
abbrev pub puts : {S R : Type 0} → History S R → ℕ
puts [] = 0
puts (e ∷ h) = put_after e.call (is_ok e.answer) (puts h)

-- one more, if the effect was accepted and takes a triple out
abbrev pub delete_by_effect : {S R : Type 0} → Effect S R → Bool → ℕ → ℕ
delete_by_effect quiet b k = k
delete_by_effect (puts_in x y q r) b k = k
delete_by_effect (takes_out x y q) b k = one_if b k
delete_by_effect (gives u r) b k = k

-- one more, if the call was an accepted delete
abbrev pub delete_after : {S R : Type 0} → Call S R → Bool → ℕ → ℕ
delete_after c b k = delete_by_effect (effect_of c) b k

-- how many deletes were accepted
abbrev pub deletes : {S R : Type 0} → History S R → ℕ
deletes [] = 0
deletes (e ∷ h) = delete_after e.call (is_ok e.answer) (deletes h)

-- the histories that lead from a new store to a state. A store is new when its link table was made for its records; its
-- list may hold words. Each call keeps its rule, refused ones too, whichever words have room and whatever the list's
-- own arrays hold
pub data Reached {S L R : Type 0} (K : Kit S L R) : History S R → State L R → Type 0 where
  new : {l : L} {t : LinkTable} {rs : List R} {n k : ℕ} → Lawful (K.roll l) → IsNewTable n k (length rs) t
      → Reached K [] (state_of l t rs)
  after : {h : History S R} {s t : State L R} {c : Call S R} {n : Result (Reply R) Refusal} (room : L → List ℕ → Bool)
      (out out' : List LinkRow) → Reached K h s → Steps K (any_growth room) s out c n t out'
      → Reached K (event_of c n ∷ h) t
