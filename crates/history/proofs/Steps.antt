-- What each call keeps of the present triples, and so every run of calls.
use Rattle.std.proofs.Common.{◌≡◌, ℕ, ◌+◌, ◌-◌, Bool, true, false, not, ◌&&◌, List, ◌∷◌, map, length, set, is_some, is_ok, Some, None, Ok, Option, Result, sym, refl, ap, ◌∙◌, subst, ⊎_elim, arith}
use Rattle.std.proofs.lemmas.List.{length-map}
use Rattle.std.proofs.lemmas.Bool.{cases_Bool, and_from, not-false, not_from_false}
use Rattle.refusal.specs.declared.Refusal.{Refusal}
use Rattle.cells.proofs.Basics.{some_is}
use Rattle.lexicon.specs.Answers.{EnterLeaves}
use Rattle.lexicon.specs.Rolls.{number_of, Lawful}
use Rattle.lexicon.proofs.Numbers.{number_from_kept, number_from_last}
use Rattle.link_table.specs.Tables.{coded, Out}
use Rattle.link_table.specs.declared.table.LinkTable.{LinkTable}
use Rattle.listing.specs.declared.row.LinkRow.{LinkRow}
use Rattle.history.specs.declared.replies.Link.{Link}
use Rattle.history.specs.declared.replies.Reply.{Reply}
use Rattle.history.specs.declared.replies.Reply.TheVariants.{Linked, Deleted, Changed}
use Rattle.lexicon.specs.Growths.{Growth, any_growth}
use Rattle.history.specs.Kits.{Kit, State, state_of, labels_of, number_in, triple_in}
use Rattle.history.specs.Refusals.{none, word_refusals, put_refusals, add_refusals, tie_refusals, change_refusals}
use Rattle.history.specs.Calls.{Call, add, tie, delete, find, read, change, list, figures, Decided, LinkMade, Adds, Ties, Deletes, Changes, Steps, links_in, lacks, grows, fine, refusal_of_tie, refusal_of_add, refusal_of_sought, refusal_of_change, replied}
use Rattle.history.specs.Runs.{History, PresentTriple, present_triple, rewritten, put_in, triples_without, given, present, present_after, hand_out, take_back, handed, handed_after, handed_by, taken_by, one_if, put_after, puts, delete_after, deletes, Reached, new, after}
use Rattle.history.proofs.Options.{none_from, none_applies, applies_none}
use Rattle.history.proofs.Standing.{KnownPresent, Fits, Grows, grown, new_fits, counts, put_fits, out_fits, change_fits}

-- a word list that was asked to enter a word has its words with their numbers
pub grows_from : {S L R : Type 0} (K : Kit S L R) (G : Growth L) (l l' : L) (x : List S) (b : Bool) → EnterLeaves K.roll G.enters l (labels_of K x) l' b → Grows K l l'
grows_from K G l l' x true e y n h = ap (λ (roll : List (List ℕ)). number_of roll (labels_of K y)) e.1 ∙ number_from_kept 1 (K.roll l) (labels_of K x) (labels_of K y) n h
grows_from {S} {L} K G l l' x false e y n h = ap (λ (z : L). number_in K z y) e ∙ h

-- and a lawful roll
pub roll_from : {S L R : Type 0} (K : Kit S L R) (G : Growth L) (l l' : L) (x : List S) (b : Bool) → EnterLeaves K.roll G.enters l (labels_of K x) l' b → Lawful (K.roll l) → Lawful (K.roll l')
roll_from K G l l' x true e s = e.2
roll_from {S} {L} K G l l' x false e s = subst (λ (z : L). Lawful (K.roll z)) (sym e) s

-- and, unless the word lacks room, has the word
pub known_from : {S L R : Type 0} (K : Kit S L R) (G : Growth L) (l l' : L) (x : List S) (go : Bool) →
    EnterLeaves K.roll G.enters l (labels_of K x) l' (go && grows K G l x) → go ≡ true → lacks K G l x ≡ false → (a : ℕ) × (number_in K l' x ≡ Some a)
known_from K G l l' x go e on fits =
    ⊎_elim
    (λ has. let a = some_is (number_in K l x) has in (a.0, grows_from K G l l' x (go && grows K G l x) e x a.0 a.1))
    (λ no.
    let absent = none_from (number_in K l x) no in
    let is_new : none (number_in K l x) ≡ true = not_from_false (is_some (number_in K l x)) no in
    let free : G.room l (labels_of K x) ≡ true = not-false (G.room l (labels_of K x)) (sym (ap (λ (b : Bool). b && not (G.room l (labels_of K x))) is_new) ∙ fits) in
    let all = and_from go (grows K G l x) on (and_from (none (number_in K l x)) (G.room l (labels_of K x)) is_new free) in
    let entered = subst (EnterLeaves K.roll G.enters l (labels_of K x) l') all e in
    (1 + length (K.roll l), ap (λ (roll : List (List ℕ)). number_of roll (labels_of K x)) entered.1 ∙ number_from_last 1 (K.roll l) (labels_of K x) absent))
    (cases_Bool (is_some (number_in K l x)))

-- the present triples and the numbers are those that the state holds, after p accepted puts and d accepted deletes
pub record Accounted {S L R : Type 0} (K : Kit S L R) (es : List (PresentTriple S R)) (us : List ℕ) (p d : ℕ) (s : State L R) : Type 0 where
  pub fits : Fits K es us s.list s.table s.records
  pub tally : length es + d ≡ p

module _ {S L R : Type 0} (K : Kit S L R) {es : List (PresentTriple S R)} {us : List ℕ} {p d : ℕ} where
  -- a triple is put, unless a refusal applies
  put_held : (s t : State L R) (x y : List S) (q : ℕ) (r : R) (m : Result Link Refusal) (n : Result (Reply R) Refusal) (o : Option Refusal) → Accounted K es us p d s → n ≡ replied Linked m
      → (o ≡ None → (u : ℕ) → KnownPresent K s.list (present_triple x y q u r)) → Decided o s m t (LinkMade K s x y q r m t) → Accounted K (put_in x y q r (handed_by n) es) (hand_out (handed_by n) us) (one_if (is_ok n) p) d t
  put_held s t x y q r m n (Some f) H e known k =
      subst (λ (z : Result (Reply R) Refusal). Accounted K (put_in x y q r (handed_by z) es) (hand_out (handed_by z) us) (one_if (is_ok z) p) d t) (sym (e ∙ ap (replied Linked) k.0))
      (subst (Accounted K es us p d) (sym k.1) H)
  put_held s t x y q r m n None H e known k =
      let F = put_fits K H.fits x y q r k.u t.table (known refl k.u) k.table in
      subst (λ (z : Result (Reply R) Refusal). Accounted K (put_in x y q r (handed_by z) es) (hand_out (handed_by z) us) (one_if (is_ok z) p) d t) (sym (e ∙ ap (replied Linked) k.answer))
      (record {
        fits = subst (λ (l : L). Fits K (present_triple x y q k.u r ∷ es) (k.u ∷ us) l t.table t.records) (sym k.list)
            (subst (λ (rs : List R). Fits K (present_triple x y q k.u r ∷ es) (k.u ∷ us) s.list t.table rs) (sym k.records) F);
        tally = omega (arith, H.tally);
      })

  -- tie
  tie_held : (s t : State L R) (x y : List S) (q : ℕ) (r : R) (m : Result Link Refusal) (n : Result (Reply R) Refusal) → Accounted K es us p d s → n ≡ replied Linked m → Ties K s x y q r m t
      → Accounted K (put_in x y q r (handed_by n) es) (hand_out (handed_by n) us) (one_if (is_ok n) p) d t
  tie_held s t x y q r m n H e k = put_held s t x y q r m n (refusal_of_tie K s.list s.table x y q r) H e known k
    where
      -- where nothing is refused both words are known
      known : refusal_of_tie K s.list s.table x y q r ≡ None → (u : ℕ) → KnownPresent K s.list (present_triple x y q u r)
      known z u =
          let c = none_applies (tie_refusals x y q (K.good r) (number_in K s.list x) (number_in K s.list y) (links_in K s.list s.table x y q)) z in
          let a = some_is (number_in K s.list x) (not-false (is_some (number_in K s.list x)) c.1.1.1.1.0) in
          let b = some_is (number_in K s.list y) (not-false (is_some (number_in K s.list y)) c.1.1.1.1.1.0) in
          record {
            fit = applies_none (word_refusals x y q) (c.0, (c.1.0, (c.1.1.0, tt)));
            sound = not-false (K.good r) c.1.1.1.0;
            a = a.0;
            b = b.0;
            x_number = a.1;
            y_number = b.1;
          }

  -- the list after an add, with the table and the records as they were
  pub add_grown : (G : Growth L) (s t : State L R) (x y : List S) (q : ℕ) (r : R) (m : Result Link Refusal) → Accounted K es us p d s → (k : Adds K G s x y q r m t)
      → Accounted K es us p d (state_of k.last s.table s.records)
  add_grown G s t x y q r m H k = record {
    fits = grown K s.list k.last (λ z n h. grows_from K G k.mid k.last y _ k.y_entered z n (grows_from K G s.list k.mid x _ k.x_entered z n h)) H.fits
        (roll_from K G k.mid k.last y _ k.y_entered (roll_from K G s.list k.mid x _ k.x_entered H.fits.roll));
    tally = H.tally;
  }

  -- add
  add_held : (G : Growth L) (s t : State L R) (x y : List S) (q : ℕ) (r : R) (m : Result Link Refusal) (n : Result (Reply R) Refusal) → Accounted K es us p d s → n ≡ replied Linked m → Adds K G s x y q r m t
      → Accounted K (put_in x y q r (handed_by n) es) (hand_out (handed_by n) us) (one_if (is_ok n) p) d t
  add_held G s t x y q r m n H e k =
      put_held (state_of k.last s.table s.records) t x y q r m n (refusal_of_add K G s.list k.mid k.last s.table x y q r) (add_grown G s t x y q r m H k) e known k.result
    where
      -- where nothing is refused both words are known by then
      known : refusal_of_add K G s.list k.mid k.last s.table x y q r ≡ None → (u : ℕ) → KnownPresent K k.last (present_triple x y q u r)
      known z u =
          let c = none_applies (add_refusals x y q (K.good r) (lacks K G s.list x) (lacks K G k.mid y) (links_in K k.last s.table x y q)) z in
          let well : fine K x y q r ≡ true = ap none (applies_none (put_refusals x y q (K.good r)) (c.0, (c.1.0, (c.1.1.0, (c.1.1.1.0, tt))))) in
          let x_fits : lacks K G s.list x ≡ false = c.1.1.1.1.0 in
          let y_fits : lacks K G k.mid y ≡ false = c.1.1.1.1.1.0 in
          let a = known_from K G s.list k.mid x (fine K x y q r) k.x_entered well x_fits in
          let b = known_from K G k.mid k.last y (fine K x y q r && not (lacks K G s.list x)) k.y_entered
          (and_from (fine K x y q r) (not (lacks K G s.list x)) well (not_from_false (lacks K G s.list x) x_fits)) y_fits in
          record {
            fit = applies_none (word_refusals x y q) (c.0, (c.1.0, (c.1.1.0, tt)));
            sound = not-false (K.good r) c.1.1.1.0;
            a = a.0;
            b = b.0;
            x_number = grows_from K G k.mid k.last y _ k.y_entered x a.0 a.1;
            y_number = b.1;
          }

  -- delete
  delete_held : (l : L) (t t' : LinkTable) (rs : List R) (x y : List S) (q : ℕ) (m : Result ℕ Refusal) (n : Result (Reply R) Refusal) → Accounted K es us p d (state_of l t rs) → n ≡ replied Deleted m → Deletes K l t x y q m t'
      → Accounted K (triples_without K x y q (is_ok n) es) (take_back (taken_by n) us) p (one_if (is_ok n) d) (state_of l t' rs)
  delete_held l t t' rs x y q m n H e does = go (refusal_of_sought K l t x y q) does
    where
      -- what is held after the answer
      Done : Result (Reply R) Refusal → Type 0
      Done z = Accounted K (triples_without K x y q (is_ok z) es) (take_back (taken_by z) us) p (one_if (is_ok z) d) (state_of l t' rs)

      go : (o : Option Refusal) → Decided o t m t' ((u : ℕ) × (m ≡ Ok u) × Out t (triple_in K l x y q) u t') → Done n
      go (Some f) k = subst Done (sym (e ∙ ap (replied Deleted) k.0)) (subst (λ (z : LinkTable). Accounted K es us p d (state_of l z rs)) (sym k.1) H)
      go None k =
          let F = out_fits K H.fits x y q k.0 t' k.2 in
          subst Done (sym (e ∙ ap (replied Deleted) k.1)) (record { fits = F; tally = omega (arith, H.tally, counts K H.fits, counts K F, k.2.one_less) })

  -- change
  change_held : (l : L) (t : LinkTable) (rs rs' : List R) (u : ℕ) (r : R) (m : Result (Unit {0}) Refusal) (n : Result (Reply R) Refusal) → Accounted K es us p d (state_of l t rs) → n ≡ replied (λ _. Changed) m → Changes K t rs u r m rs'
      → Accounted K (given u r (is_ok n) es) us p d (state_of l t rs')
  change_held l t rs rs' u r m n H e does = go (refusal_of_change K t u r) refl does
    where
      -- what is held after the answer
      Done : Result (Reply R) Refusal → Type 0
      Done z = Accounted K (given u r (is_ok z) es) us p d (state_of l t rs')

      go : (o : Option Refusal) → refusal_of_change K t u r ≡ o → Decided o rs m rs' ((m ≡ Ok tt) × (rs' ≡ set rs (u - 1) r)) → Done n
      go (Some f) z k = subst Done (sym (e ∙ ap (replied (λ _. Changed)) k.0)) (subst (λ (w : List R). Accounted K es us p d (state_of l t w)) (sym k.1) H)
      go None z k =
          let fine = none_applies (change_refusals (is_some (coded t u)) (K.good r)) z in
          let c = some_is (coded t u) (not-false (is_some (coded t u)) fine.0) in
          let good = not-false (K.good r) fine.1.0 in
          subst Done (sym (e ∙ ap (replied (λ _. Changed)) k.0)) (subst (λ (w : List R). Accounted K (map (rewritten u r) es) us p d (state_of l t w)) (sym k.1)
          (record { fits = change_fits K H.fits u r good c.0 c.1; tally = omega (arith, H.tally, length-map es (rewritten u r)) }))

  -- each call
  step_held : (G : Growth L) (s t : State L R) (out out' : List LinkRow) (c : Call S R) (n : Result (Reply R) Refusal) → Accounted K es us p d s → Steps K G s out c n t out'
      → Accounted K (present_after K c n es) (handed_after c n us) (put_after c (is_ok n) p) (delete_after c (is_ok n) d) t
  step_held G s t out out' (add x y q r) n H k = add_held G s t x y q r k.0 n H k.1 k.2
  step_held G s t out out' (tie x y q r) n H k = tie_held s t x y q r k.0 n H k.1 k.2
  step_held G s t out out' (delete x y q) n H k =
      subst (Accounted K (triples_without K x y q (is_ok n) es) (take_back (taken_by n) us) p (one_if (is_ok n) d)) (sym k.3) (delete_held s.list s.table t.table s.records x y q k.0 n H k.1 k.2)
  step_held G s t out out' (find x y q) n H k = subst (Accounted K es us p d) (sym k.1) H
  step_held G s t out out' (read u) n H k = subst (Accounted K es us p d) (sym k.1) H
  step_held G s t out out' (change u r) n H k = subst (Accounted K (given u r (is_ok n) es) us p d) (sym k.3) (change_held s.list s.table s.records t.records u r k.0 n H k.1 k.2)
  step_held G s t out out' (list x q) n H k = subst (Accounted K es us p d) (sym k.3) H
  step_held G s t out out' figures n H k = subst (Accounted K es us p d) (sym k.1) H

-- every run
pub held_of : {S L R : Type 0} (K : Kit S L R) {h : History S R} {s : State L R} → Reached K h s → Accounted K (present K h) (handed h) (puts h) (deletes h) s
held_of K (new {l} {t} {rs} {n} {k} roll made) = record { fits = new_fits K l t rs n k roll made; tally = refl }
held_of K (after {h} {s} {t} {c} {n} room out out' before steps) = step_held K (any_growth room) s t out out' c n (held_of K before) steps
