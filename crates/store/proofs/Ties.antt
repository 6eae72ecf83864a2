-- From what the table says of a triple to what tie says of its words.
use Rattle.std.proofs.Common.{◌≡◌, ℕ, Bool, true, false, cond, not, List, [], ◌∷◌, ◌++◌, is_some, Some, None, Ok, Err, Option, Result, unwrap_or, sym, refl, ap, ◌∙◌, subst}
use Rattle.std.specs.Option.{option_map}
use Rattle.refusal.specs.declared.Side.TheVariants.{First, Second}
use Rattle.refusal.specs.declared.Refusal.{Refusal}
use Rattle.refusal.specs.declared.Refusal.TheVariants.{UnknownWord, TripleAbsent}
use Rattle.link_table.specs.declared.faults.LinkFault.{LinkFault}
use Rattle.link_table.specs.declared.faults.LinkFault.TheVariants.{TriplePresent, NumbersHeld, NoPlace}
use Rattle.refusal.specs.Reports.{link_refusal}
use Rattle.link_table.specs.Tables.{found, all_held, has_place, put_refusal, Put, Out}
use Rattle.link_table.specs.declared.table.LinkTable.{LinkTable}
use Rattle.link_table.specs.declared.triple.Triple.{Triple}
use Rattle.history.specs.declared.replies.Link.{Link}
use Rattle.history.specs.Kits.{Kit, state_of, number_in, triple_in}
use Rattle.history.specs.Refusals.{first, none, word_refusals, unknown_refusals, put_refusals, link_refusals}
use Rattle.history.specs.Calls.{Decided, LinkMade, held_in, links_in, refusal_of_tie, Ties, refusal_of_sought, Deletes, answered, link_by, link_in, find_of}
use Rattle.store.specs.Words.{KnownTriple}
use Rattle.store.specs.Links.{Joins, JoinsAt, link_answer}
use Rattle.store.proofs.Decisions.{first_on, first_out, decided_err, decided_ok}

-- the table's refusal as the call gives it
pub lifted : (h f p : Bool) → first (link_refusals h f p) ≡ option_map link_refusal (cond h (Some TriplePresent) (cond f (Some NumbersHeld) (cond p None (Some NoPlace))))
lifted true f p = refl
lifted false true p = refl
lifted false false true = refl
lifted false false false = refl

pub joins_refusal : (s : LinkTable) (triple : Triple) (o : Option LinkFault) → put_refusal s triple ≡ o → first (link_refusals (is_some (found s triple)) (all_held s) (has_place s triple)) ≡ option_map link_refusal o
joins_refusal s triple o e = lifted (is_some (found s triple)) (all_held s) (has_place s triple) ∙ ap (option_map link_refusal) e

-- the triple of words that have its numbers
pub same_triple_lem : {S L R : Type 0} (K : Kit S L R) (l : L) (x y : List S) (q : ℕ) (triple : Triple) → number_in K l x ≡ Some triple.x → number_in K l y ≡ Some triple.y → triple.relation ≡ q → triple_in K l x y q ≡ triple
same_triple_lem K l x y q triple ex ey eq =
    ap (λ (o : Option ℕ). record { x = unwrap_or o 0; relation = q; y = unwrap_or (number_in K l y) 0 }) ex
    ∙ ap (λ (o : Option ℕ). record { x = triple.x; relation = q; y = unwrap_or o 0 }) ey
    ∙ ap (λ (k : ℕ). record { x = triple.x; relation = k; y = triple.y }) (sym eq)

-- of known words none is refused as unknown
pub known_none : {S L R : Type 0} (K : Kit S L R) (l : L) (x y : List S) {a b : ℕ} → number_in K l x ≡ Some a → number_in K l y ≡ Some b
    → first (unknown_refusals (number_in K l x) (number_in K l y)) ≡ None
known_none K l x y ex ey =
    ap (λ (o : Option ℕ). cond (none o) (Some (UnknownWord First)) (cond (none (number_in K l y)) (Some (UnknownWord Second)) None)) ex
    ∙ ap (λ (o : Option ℕ). cond (none o) (Some (UnknownWord Second)) None) ey

module _ {S L R : Type 0} (K : Kit S L R) (l : L) (t t' : LinkTable) (rs rs' : List R) (x y : List S) (q : ℕ) (r : R) where
  -- what was linked between the words of a triple
  module _ (triple : Triple) (ex : number_in K l x ≡ Some triple.x) (ey : number_in K l y ≡ Some triple.y) (eq : triple.relation ≡ q) where
    by_refusal : (n : Result Link Refusal) (o : Option Refusal) → JoinsAt o t rs triple r n t' rs'
        → Decided o (state_of l t rs) n (state_of l t' rs') (LinkMade K (state_of l t rs) x y q r n (state_of l t' rs'))
    by_refusal n (Some f) h = (h.0, ap (λ (z : LinkTable). state_of l z rs') h.1 ∙ ap (state_of l t) h.2)
    by_refusal n None h = record {
      u = h.0;
      answer = h.1
          ∙ ap (λ (o : Option ℕ). Ok (record { x = unwrap_or o 0; y = triple.y; number = h.0 })) (sym ex)
          ∙ ap (λ (o : Option ℕ). Ok (record { x = unwrap_or (number_in K l x) 0; y = unwrap_or o 0; number = h.0 })) (sym ey);
      list = refl;
      table = subst (λ (z : Triple). Put t z h.0 t') (sym (same_triple_lem K l x y q triple ex ey eq)) h.2;
      records = h.3;
    }

    pub link_made : (n : Result Link Refusal) (o : Option Refusal) → o ≡ first (links_in K l t x y q) → Joins t rs triple r n t' rs'
        → Decided o (state_of l t rs) n (state_of l t' rs') (LinkMade K (state_of l t rs) x y q r n (state_of l t' rs'))
    link_made n o e h =
        by_refusal n o (subst (λ (z : Option Refusal). JoinsAt z t rs triple r n t' rs')
        (sym (e ∙ ap (λ (z : Triple). first (link_refusals (is_some (found t z)) (all_held t) (has_place t z))) (same_triple_lem K l x y q triple ex ey eq))) h)

module _ {S L R : Type 0} (K : Kit S L R) (l : L) (t : LinkTable) (rs : List R) (x y : List S) (q : ℕ) (r : R) where
  abbrev unknowns : List (Bool × Refusal)
  unknowns = unknown_refusals (number_in K l x) (number_in K l y)

  -- refused since a word is not in the list
  pub tie_unknown : (f : Refusal) (n : Result Link Refusal) → first (put_refusals x y q (K.good r)) ≡ None → first unknowns ≡ Some f → n ≡ Err f → Ties K (state_of l t rs) x y q r n (state_of l t rs)
  tie_unknown f n fit e en =
      decided_err (refusal_of_tie K l t x y q r) (state_of l t rs) n _ f
      (first_on (put_refusals x y q (K.good r)) (unknowns ++ links_in K l t x y q) fit ∙ first_out unknowns (links_in K l t x y q) f e) en

  -- the words are known, and the table has decided
  pub tie_joined : (n : Result Link Refusal) (t' : LinkTable) (rs' : List R) → first (put_refusals x y q (K.good r)) ≡ None
      → (triple : Triple) → number_in K l x ≡ Some triple.x → number_in K l y ≡ Some triple.y → triple.relation ≡ q
      → Joins t rs triple r n t' rs' → Ties K (state_of l t rs) x y q r n (state_of l t' rs')
  tie_joined n t' rs' fit triple ex ey eq h =
      link_made K l t t' rs rs' x y q r triple ex ey eq n (refusal_of_tie K l t x y q r)
      (first_on (put_refusals x y q (K.good r)) (unknowns ++ links_in K l t x y q) fit ∙ first_on unknowns (links_in K l t x y q) (known_none K l x y ex ey)) h

-- find, of words that the list has
pub find_known : {S L R : Type 0} (K : Kit S L R) (l : L) (t : LinkTable) (x y : List S) (q : ℕ) → first (word_refusals x y q) ≡ None
    → (a b : ℕ) → Some a ≡ number_in K l x → Some b ≡ number_in K l y
    → find_of K l t x y q ≡ Ok (link_by K (Some a) (Some b) (found t (record { x = a; relation = q; y = b })))
find_known K l t x y q fit a b ea eb =
    let triple : Triple = record { x = a; relation = q; y = b } in
    ap (λ (o : Option Refusal). answered o (link_by K (number_in K l x) (number_in K l y) (found t (triple_in K l x y q)))) fit
    ∙ ap (λ (o : Option ℕ). Ok (link_by K o (number_in K l y) (found t (triple_in K l x y q)))) (sym ea)
    ∙ ap (λ (o : Option ℕ). Ok (link_by K (Some a) o (found t (triple_in K l x y q)))) (sym eb)
    ∙ ap (λ (z : Triple). Ok (link_by K (Some a) (Some b) (found t z))) (same_triple_lem K l x y q triple (sym ea) (sym eb) refl)

module _ {S L R : Type 0} (K : Kit S L R) (l : L) (t : LinkTable) (x y : List S) (q : ℕ) (fit : first (word_refusals x y q) ≡ None) where
  abbrev absent : List (Bool × Refusal)
  absent = (not (held_in K l t x y q), TripleAbsent) ∷ []

  abbrev unknown : List (Bool × Refusal)
  unknown = unknown_refusals (number_in K l x) (number_in K l y)

  -- a word is not in the list
  pub refusal_unknown : (f : Refusal) → KnownTriple (number_in K l x) (number_in K l y) q (Err f) → refusal_of_sought K l t x y q ≡ Some f
  refusal_unknown f e = first_on (word_refusals x y q) (unknown ++ absent) fit ∙ first_out unknown absent f e

  module _ (triple : Triple) (known : KnownTriple (number_in K l x) (number_in K l y) q (Ok triple)) where
    -- known words are refused only if their triple is not present
    pub refusal_is : refusal_of_sought K l t x y q ≡ first ((not (is_some (found t triple)), TripleAbsent) ∷ [])
    refusal_is =
        first_on (word_refusals x y q) (unknown ++ absent) fit
        ∙ first_on unknown absent (known_none K l x y known.0 known.1)
        ∙ ap (λ (z : Triple). first ((not (is_some (found t z)), TripleAbsent) ∷ [])) (same_triple_lem K l x y q triple known.0 known.1 known.2)

    -- taken out
    pub delete_out : (u : ℕ) (t' : LinkTable) → Out t triple u t' → Deletes K l t x y q (Ok u) t'
    delete_out u t' out =
        decided_ok (refusal_of_sought K l t x y q) t (Ok u) t' _
        (refusal_is ∙ ap (λ (o : Option ℕ). first ((not (is_some o), TripleAbsent) ∷ [])) out.had)
        (u, refl, subst (λ (z : Triple). Out t z u t') (sym (same_triple_lem K l x y q triple known.0 known.1 known.2)) out)

    -- a triple that is not present is refused
    pub delete_absent : (t' : LinkTable) → found t triple ≡ None → (f : Refusal) → f ≡ TripleAbsent → (n : Result ℕ Refusal) → n ≡ Err f → t' ≡ t → Deletes K l t x y q n t'
    delete_absent t' none f e n en same =
        subst (λ (z : LinkTable). Deletes K l t x y q n z) (sym same)
        (decided_err (refusal_of_sought K l t x y q) t n _ f
        (refusal_is ∙ ap (λ (o : Option ℕ). first ((not (is_some o), TripleAbsent) ∷ [])) none ∙ ap (λ (z : Refusal). Some z) (sym e)) en)

    -- the link of known words
    pub link_known : link_answer K l t x y q ≡ answered (first ((not (is_some (found t triple)), TripleAbsent) ∷ [])) (record { x = triple.x; y = triple.y; number = unwrap_or (found t triple) 0 })
    link_known =
        ap (λ (o : Option Refusal). answered o (link_in K l x y (unwrap_or (found t (triple_in K l x y q)) 0))) refusal_is
        ∙ ap (λ (o : Option ℕ). answered (first ((not (is_some (found t triple)), TripleAbsent) ∷ [])) (record { x = unwrap_or o 0; y = unwrap_or (number_in K l y) 0; number = unwrap_or (found t (triple_in K l x y q)) 0 })) known.0
        ∙ ap (λ (o : Option ℕ). answered (first ((not (is_some (found t triple)), TripleAbsent) ∷ [])) (record { x = triple.x; y = unwrap_or o 0; number = unwrap_or (found t (triple_in K l x y q)) 0 })) known.1
        ∙ ap (λ (z : Triple). answered (first ((not (is_some (found t triple)), TripleAbsent) ∷ [])) (record { x = triple.x; y = triple.y; number = unwrap_or (found t z) 0 })) (same_triple_lem K l x y q triple known.0 known.1 known.2)
