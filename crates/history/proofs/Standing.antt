-- What a state holds of the present triples, and what each kind of step keeps of it.
use Rattle.std.proofs.Common.{◌≡◌, ℕ, ◌-◌, ◌≤◌, min, true, false, not, ◌&&◌, eqb, List, [], ◌∷◌, map, length, set, is_some, Some, None, filter, Option, unwrap_or, sym, refl, ap, ◌∙◌, subst, inl, inr, ⊎_elim, arith}
use native.Mathlib.Nat.{min-le_left}
use Rattle.std.specs.List.{slice_get}
use Rattle.std.proofs.lemmas.Slice.Eq.{bytes_eq-Decides}
use Rattle.std.proofs.lemmas.List.{length-map, length-set}
use Rattle.std.proofs.lemmas.Bool.{cases_eq, cases_Bool, both_ways, eqb-true, eqb-false, eq-eqb, and_parts, and_from, not-true, not_from_false, cond_both}
use Rattle.members.specs.Lists.{In, Apart}
use Rattle.cells.proofs.Basics.{no_some, some_same, some_is}
use Rattle.members.proofs.Pigeons.{in_kept, from_kept, apart_kept}
use Rattle.lexicon.specs.Rolls.{number_of, Lawful}
use Rattle.lexicon.proofs.Numbers.{number_some}
use Rattle.link_table.specs.Tables.{found, coded, limit, numbers, IsNewTable, Put, Out}
use Rattle.link_table.specs.declared.table.LinkTable.{LinkTable}
use Rattle.link_table.specs.declared.triple.Triple.{Triple}
use Rattle.link_table.proofs.Tables.{lawful}
use Rattle.history.specs.Kits.{Kit, labels_of, number_in, triple_in}
use Rattle.history.specs.Refusals.{first, word_refusals}
use Rattle.history.specs.Runs.{PresentTriple, present_triple, same_word, same_triple, rewritten}
use Rattle.members.proofs.Members.{in_map, map_in}
use Rattle.members.proofs.Filters.{same_from, as_long, kept_map, nth_set, nth_set_other}
use Rattle.history.proofs.Options.{same_test, some_from}

-- a present triple
abbrev pub triple_at : {S L R : Type 0} → Kit S L R → L → PresentTriple S R → Triple
triple_at K l e = triple_in K l e.x e.y e.relation

-- the link number of a present triple
abbrev pub link_at : {S R : Type 0} → PresentTriple S R → ℕ
link_at e = e.link

-- a present triple's words and relation are not refused, its record is sound, and the list has both words
pub record KnownPresent {S L R : Type 0} (K : Kit S L R) (l : L) (e : PresentTriple S R) : Type 0 where
  pub fit : first (word_refusals e.x e.y e.relation) ≡ None
  pub sound : K.good e.kept ≡ true
  pub a : ℕ
  pub b : ℕ
  pub x_number : number_in K l e.x ≡ Some a
  pub y_number : number_in K l e.y ≡ Some b

-- a present triple stands in a state: the table has its triple with its number, and its record stands at that
pub record Stands {S L R : Type 0} (K : Kit S L R) (l : L) (t : LinkTable) (rs : List R) (e : PresentTriple S R) : Type 0 where
  pub known : KnownPresent K l e
  pub held : found t (triple_at K l e) ≡ Some e.link
  pub kept : slice_get rs (e.link - 1) ≡ Some e.kept

-- the present triples es and the numbers us handed out are those that the state holds
pub record Fits {S L R : Type 0} (K : Kit S L R) (es : List (PresentTriple S R)) (us : List ℕ) (l : L) (t : LinkTable) (rs : List R) : Type 0 where
  pub roll : Lawful (K.roll l)
  -- each number has a record
  pub enough : limit t ≤ length rs
  -- each present triple stands, and each triple of the table is one of them
  pub stands : (e : PresentTriple S R) → In es e → Stands K l t rs e
  pub back : (c : Triple) (u : ℕ) → found t c ≡ Some u → (e : PresentTriple S R) × In es e × (triple_at K l e ≡ c) × (e.link ≡ u)
  -- the numbers are the present triples', no two alike
  pub unlike : Apart us
  pub numbers : us ≡ map link_at es

-- the list l' has the words of l with their numbers
abbrev pub Grows : {S L R : Type 0} → Kit S L R → L → L → Type 0
Grows {S} K l l' = (x : List S) (n : ℕ) → number_in K l x ≡ Some n → number_in K l' x ≡ Some n

-- the triple of two numbers that were sought and a relation
abbrev triple_by : Option ℕ → Option ℕ → ℕ → Triple
triple_by o p q = record { x = unwrap_or o 0; relation = q; y = unwrap_or p 0 }

-- it is the same for the same numbers
same_by : (o o' p p' : Option ℕ) (q q' : ℕ) → o ≡ o' → p ≡ p' → q ≡ q' → triple_by o p q ≡ triple_by o' p' q'
same_by o o' p p' q q' x y z = cc

-- words with the same number are spelled alike
pub same_number : (roll : List (List ℕ)) (v w : List ℕ) (n : ℕ) → number_of roll v ≡ Some n → number_of roll w ≡ Some n → v ≡ w
same_number roll v w n p q = sym (number_some roll v n p).2 ∙ (number_some roll w n q).2

module _ {S L R : Type 0} (K : Kit S L R) where
  -- a present triple in its words' numbers
  pub triple_known : (l : L) (e : PresentTriple S R) (k : KnownPresent K l e) → triple_at K l e ≡ record { x = k.a; relation = e.relation; y = k.b }
  triple_known l e k = same_by (number_in K l e.x) (Some k.a) (number_in K l e.y) (Some k.b) e.relation e.relation k.x_number k.y_number refl

  -- words that have the same number are the same word
  pub same_words : (l : L) (v w : List S) (a : ℕ) → number_in K l v ≡ Some a → unwrap_or (number_in K l w) 0 ≡ a → same_word K v w ≡ true
  same_words l v w a e n =
      let low = (number_some (K.roll l) (labels_of K v) a e).0 in
      (bytes_eq-Decides (labels_of K v) (labels_of K w)).1 (same_number (K.roll l) (labels_of K v) (labels_of K w) a e (some_from (number_in K l w) a n low))

  -- a present triple of these words and relation has their triple of numbers
  pub triple_from : (l : L) (x y : List S) (q : ℕ) (e : PresentTriple S R) → same_triple K x y q e ≡ true → triple_at K l e ≡ triple_in K l x y q
  triple_from l x y q e s =
      let one = and_parts (same_word K e.x x) (same_word K e.y y && eqb e.relation q) s in
      let two = and_parts (same_word K e.y y) (eqb e.relation q) one.1 in
      same_by (number_in K l e.x) (number_in K l x) (number_in K l e.y) (number_in K l y) e.relation q
      (ap (number_of (K.roll l)) ((bytes_eq-Decides (labels_of K e.x) (labels_of K x)).0 one.0))
      (ap (number_of (K.roll l)) ((bytes_eq-Decides (labels_of K e.y) (labels_of K y)).0 two.0))
      (eqb-true e.relation q two.1)

  -- and a present triple of known words that has their triple of numbers is of these words and relation
  pub from_triple : (l : L) (x y : List S) (q : ℕ) (e : PresentTriple S R) → KnownPresent K l e → triple_at K l e ≡ triple_in K l x y q → same_triple K x y q e ≡ true
  from_triple l x y q e k z =
      let same = sym z ∙ triple_known l e k in
      and_from (same_word K e.x x) (same_word K e.y y && eqb e.relation q)
      (same_words l e.x x k.a k.x_number (ap (λ (c : Triple). c.x) same))
      (and_from (same_word K e.y y) (eqb e.relation q)
      (same_words l e.y y k.b k.y_number (ap (λ (c : Triple). c.y) same))
      (eq-eqb e.relation q (ap (λ (c : Triple). c.relation) z)))

  -- the list grows
  module _ (l l' : L) (grows : Grows K l l') where
    -- known words stay known
    known_grown : (e : PresentTriple S R) → KnownPresent K l e → KnownPresent K l' e
    known_grown e k = record { fit = k.fit; sound = k.sound; a = k.a; b = k.b; x_number = grows e.x k.a k.x_number; y_number = grows e.y k.b k.y_number }

    -- and triples stay the same
    triple_grown : (e : PresentTriple S R) → KnownPresent K l e → triple_at K l' e ≡ triple_at K l e
    triple_grown e k =
        same_by (number_in K l' e.x) (number_in K l e.x) (number_in K l' e.y) (number_in K l e.y) e.relation e.relation
        (grows e.x k.a k.x_number ∙ sym k.x_number) (grows e.y k.b k.y_number ∙ sym k.y_number) refl

    -- so what the state held it holds
    pub grown : {es : List (PresentTriple S R)} {us : List ℕ} {t : LinkTable} {rs : List R} → Fits K es us l t rs → Lawful (K.roll l') → Fits K es us l' t rs
    grown {es} {us} {t} {rs} F roll = record {
      roll = roll;
      enough = F.enough;
      stands = λ e i.
          let h = F.stands e i in
          record { known = known_grown e h.known; held = ap (found t) (triple_grown e h.known) ∙ h.held; kept = h.kept };
      back = λ c u f.
          let k = F.back c u f in
          (k.0, k.1, triple_grown k.0 (F.stands k.0 k.1).known ∙ k.2, k.3);
      unlike = F.unlike;
      numbers = F.numbers;
    }

  -- a new state holds no triple
  pub new_fits : (l : L) (t : LinkTable) (rs : List R) (n k : ℕ) → Lawful (K.roll l) → IsNewTable n k (length rs) t → Fits K [] [] l t rs
  new_fits l t rs n k roll made = record {
    roll = roll;
    enough = omega (arith, made.limit_is, min-le_left (min (length rs) k) 1048575, min-le_left (length rs) k);
    stands = λ e i. absurd i;
    back = λ c u f. absurd (no_some u (sym (made.no_triple c) ∙ f));
    unlike = tt;
    numbers = refl;
  }

  module _ {es : List (PresentTriple S R)} {us : List ℕ} {l : L} {t : LinkTable} {rs : List R} (F : Fits K es us l t rs) where
    -- the number of a present triple leads to it
    pub link_coded : (e : PresentTriple S R) → In es e → coded t e.link ≡ Some (triple_at K l e)
    link_coded e i = (lawful t).to_triple (triple_at K l e) e.link (F.stands e i).held

    -- it is from 1 to the limit
    pub link_bounds : (e : PresentTriple S R) → In es e → (1 ≤ e.link) × (e.link ≤ limit t)
    link_bounds e i = (lawful t).bounds (triple_at K l e) e.link (link_coded e i)

    -- present triples with the same number are the same
    pub same_link : (e f : PresentTriple S R) → In es e → In es f → e.link ≡ f.link → e ≡ f
    same_link = same_from link_at es (subst Apart F.numbers F.unlike)

    -- the table holds as many numbers as there are present triples
    pub counts : length (numbers t) ≡ length es
    counts =
        as_long (numbers t) us (lawful t).apart F.unlike
        (λ u i.
        let c = some_is (coded t u) ((lawful t).present u i) in
        let k = F.back c.0 u ((lawful t).to_number c.0 u c.1) in
        subst (λ (vs : List ℕ). In vs u) (sym F.numbers) (subst (In (map link_at es)) k.3 (in_map link_at es k.0 k.1)))
        (λ u i.
        let k = map_in link_at es u (subst (λ (vs : List ℕ). In vs u) F.numbers i) in
        (lawful t).counted u (ap (λ (v : ℕ). is_some (coded t v)) k.2 ∙ ap is_some (link_coded k.0 k.1)))
        ∙ ap length F.numbers ∙ length-map es link_at

    -- a triple is put
    module _ (x y : List S) (q : ℕ) (r : R) (u : ℕ) (t' : LinkTable) (known : KnownPresent K l (present_triple x y q u r)) (put : Put t (triple_in K l x y q) u t') where
      -- no present triple has the new number
      other_link : (e : PresentTriple S R) → In es e → e.link ≡ u → ⊥
      other_link e i z = no_some (triple_at K l e) (sym put.number_open ∙ ap (coded t) (sym z) ∙ link_coded e i)

      -- the new present triple stands, and so do the others
      put_stands : (e : PresentTriple S R) → In (present_triple x y q u r ∷ es) e → Stands K l t' (set rs (u - 1) r) e
      put_stands e (inl z) = subst (Stands K l t' (set rs (u - 1) r)) (sym z) (record {
        known = known;
        held = put.here;
        kept = nth_set rs (u - 1) r (omega (arith, put.number_low, put.number_high, F.enough));
      })
      put_stands e (inr i) =
          let h = F.stands e i in
          let ne = other_link e i in
          let low = (link_bounds e i).0 in
          record {
            known = h.known;
            held = (lawful t').to_number (triple_at K l e) e.link (put.others_coded e.link ne ∙ link_coded e i);
            kept = nth_set_other rs (u - 1) (e.link - 1) r (λ z. ne (omega (arith, put.number_low))) ∙ h.kept;
          }

      -- the state holds one present triple more
      pub put_fits : Fits K (present_triple x y q u r ∷ es) (u ∷ us) l t' (set rs (u - 1) r)
      put_fits = record {
        roll = F.roll;
        enough = omega (arith, length-set rs (u - 1) r, put.limit_same, F.enough);
        stands = put_stands;
        back = λ c v f.
            let is = (lawful t').to_triple c v f in
            ⊎_elim
            (λ z. (present_triple x y q u r, inl refl, some_same (triple_in K l x y q) c (sym put.here_coded ∙ ap (coded t') (sym z) ∙ is), sym z))
            (λ ne. let k = F.back c v ((lawful t).to_number c v (sym (put.others_coded v ne) ∙ is)) in (k.0, inr k.1, k.2, k.3))
            (cases_eq v u);
        unlike = (λ i. let k = map_in link_at es u (subst (λ (vs : List ℕ). In vs u) F.numbers i) in other_link k.0 k.1 (sym k.2), F.unlike);
        numbers = ap (λ (vs : List ℕ). u ∷ vs) F.numbers;
      }

    -- a triple is taken out
    module _ (x y : List S) (q : ℕ) (u : ℕ) (t' : LinkTable) (out : Out t (triple_in K l x y q) u t') where
      -- its triple is the one with its number
      by_link : (e : PresentTriple S R) → In es e → eqb e.link u ≡ same_triple K x y q e
      by_link e i = same_test (eqb e.link u) (same_triple K x y q e)
          (λ z.
          let two = (lawful t).to_triple (triple_in K l x y q) u out.had in
          from_triple l x y q e (F.stands e i).known (some_same (triple_at K l e) (triple_in K l x y q) (sym (link_coded e i) ∙ ap (coded t) (eqb-true e.link u z) ∙ two)))
          (λ z. eq-eqb e.link u (some_same e.link u (sym (F.stands e i).held ∙ ap (found t) (triple_from l x y q e z) ∙ out.had)))

      -- the present triples that stay
      abbrev left : List (PresentTriple S R)
      left = filter (λ e. not (same_triple K x y q e)) es

      -- each of them stands
      out_stands : (e : PresentTriple S R) → In left e → Stands K l t' rs e
      out_stands e i =
          let k = from_kept (λ e. not (same_triple K x y q e)) es e i in
          let h = F.stands e k.1 in
          let other : triple_at K l e ≡ triple_in K l x y q → ⊥ = λ z. both_ways (same_triple K x y q e) (not-true (same_triple K x y q e) k.0) (from_triple l x y q e h.known z) in
          record { known = h.known; held = out.others (triple_at K l e) other ∙ h.held; kept = h.kept }

      -- the state holds these
      pub out_fits : Fits K left (filter (λ v. not (eqb v u)) us) l t' rs
      out_fits = record {
        roll = F.roll;
        enough = omega (arith, out.limit_same, F.enough);
        stands = out_stands;
        back = λ c v f.
            let other : c ≡ triple_in K l x y q → ⊥ = λ z. no_some v (sym out.gone ∙ ap (found t') (sym z) ∙ f) in
            let k = F.back c v (sym (out.others c other) ∙ f) in
            let no : same_triple K x y q k.0 ≡ false = ⊎_elim (λ s. absurd (other (sym k.2 ∙ triple_from l x y q k.0 s))) (λ s. s) (cases_Bool (same_triple K x y q k.0)) in
            (k.0, in_kept (λ e. not (same_triple K x y q e)) es k.0 (not_from_false (same_triple K x y q k.0) no) k.1, k.2, k.3);
        unlike = apart_kept (λ v. not (eqb v u)) us F.unlike;
        numbers = ap (filter (λ v. not (eqb v u))) F.numbers
            ∙ kept_map link_at (λ v. not (eqb v u)) (λ e. not (same_triple K x y q e)) es (λ e i. ap not (by_link e i));
      }

    -- a sound record is written
    module _ (u : ℕ) (r : R) (good : K.good r ≡ true) (c : Triple) (is : coded t u ≡ Some c) where
      -- the rest of the present triple stays
      rewritten_part : {Y : Type 0} (f : PresentTriple S R → Y) → ((e : PresentTriple S R) → f (present_triple e.x e.y e.relation e.link r) ≡ f e) → (e : PresentTriple S R) → f (rewritten u r e) ≡ f e
      rewritten_part f same e = cond_both (eqb e.link u) (present_triple e.x e.y e.relation e.link r) e (λ (z : PresentTriple S R). f z ≡ f e) (λ _. same e) (λ _. refl)

      -- so the numbers stay
      links_same : (ds : List (PresentTriple S R)) → map link_at (map (rewritten u r) ds) ≡ map link_at ds
      links_same [] = refl
      links_same (e ∷ ds) = ap (λ (v : ℕ). v ∷ map link_at (map (rewritten u r) ds)) (rewritten_part link_at (λ _. refl) e) ∙ ap (λ (vs : List ℕ). e.link ∷ vs) (links_same ds)

      -- each present triple stands, with the new record if it has the number
      change_stands : (e : PresentTriple S R) → In es e → Stands K l t (set rs (u - 1) r) (rewritten u r e)
      change_stands e i =
          let h = F.stands e i in
          let k = h.known in
          let range = (lawful t).bounds c u is in
          let low = (link_bounds e i).0 in
          cond_both (eqb e.link u) (present_triple e.x e.y e.relation e.link r) e (Stands K l t (set rs (u - 1) r))
          (λ z. record {
            known = record { fit = k.fit; sound = good; a = k.a; b = k.b; x_number = k.x_number; y_number = k.y_number };
            held = h.held;
            kept = ap (λ (v : ℕ). slice_get (set rs (u - 1) r) (v - 1)) (eqb-true e.link u z) ∙ nth_set rs (u - 1) r (omega (arith, range.0, range.1, F.enough));
          })
          (λ z. record {
            known = k;
            held = h.held;
            kept = nth_set_other rs (u - 1) (e.link - 1) r (λ w. eqb-false e.link u z (omega (arith, range.0))) ∙ h.kept;
          })

      -- the state holds the present triples with the new record
      pub change_fits : Fits K (map (rewritten u r) es) us l t (set rs (u - 1) r)
      change_fits = record {
        roll = F.roll;
        enough = omega (arith, length-set rs (u - 1) r, F.enough);
        stands = λ e i. let k = map_in (rewritten u r) es e i in subst (Stands K l t (set rs (u - 1) r)) (sym k.2) (change_stands k.0 k.1);
        back = λ d v f.
            let k = F.back d v f in
            (rewritten u r k.0, in_map (rewritten u r) es k.0 k.1, rewritten_part (triple_at K l) (λ _. refl) k.0 ∙ k.2, rewritten_part link_at (λ _. refl) k.0 ∙ k.3);
        unlike = F.unlike;
        numbers = F.numbers ∙ sym (links_same es);
      }
