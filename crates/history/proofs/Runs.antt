-- What holds after every run of calls: the law.
use Rattle.std.proofs.Common.{◌≡◌, ℕ, ◌+◌, ◌-◌, ◌≤◌, Bool, true, false, cond, eqb, List, [], ◌∷◌, map, length, is_some, is_ok, Some, None, Ok, Err, Option, sym, refl, ap, ◌∙◌, subst, arith}
use Rattle.std.specs.List.{slice_get}
use Rattle.std.proofs.lemmas.Bool.{eqb-true, eq-eqb, cond-false}
use Rattle.refusal.specs.declared.Refusal.{Refusal}
use Rattle.refusal.specs.declared.Refusal.TheVariants.{UnknownLink}
use Rattle.cells.specs.Cells.{path_of_labels}
use Rattle.cells.specs.Counting.{in_use, beginnings}
use Rattle.cells.specs.Laws.{Holds}
use Rattle.members.specs.Lists.{In}
use Rattle.cells.specs.Walking.{number_at}
use Rattle.cells.proofs.Basics.{some_is, some_same}
use Rattle.cells.proofs.Tallies.{counting}
use Rattle.double_array.specs.Spellings.{is_known, path_of}
use Rattle.double_array.specs.Views.{cells_of, index_of}
use Rattle.link_table.specs.Codes.{path_of_triple, triple_of}
use Rattle.link_table.specs.Tables.{found, coded, limit, all_held}
use Rattle.link_table.specs.declared.table.LinkTable.{LinkTable}
use Rattle.link_table.specs.declared.triple.Triple.{Triple}
use Rattle.link_table.proofs.Tables.{lawful}
use Rattle.lexicon.specs.Growths.{any_growth}
use Rattle.history.specs.Kits.{Kit, State, state_of, number_in, triple_in}
use Rattle.history.specs.Refusals.{first, word_refusals, sought_refusals, link_refusals, add_refusals, tie_refusals, read_refusals, change_refusals, list_refusals}
use Rattle.history.specs.Calls.{LinkMade, held_in, place_in, lacks, refusal_of_tie, refusal_of_add, refusal_of_sought, refusal_of_change, refusal_of_list, answered, link_by, read_by, read_of, rows_in}
use Rattle.history.specs.Runs.{History, PresentTriple, same_triple, Reached}
use Rattle.history.specs.Laws.{Unless, has_triple, has_link, listed_triples, code_in, Answers, Next, Law}
use Rattle.members.proofs.Members.{in_map, map_in}
use Rattle.members.proofs.Filters.{open_from, some_passes, passes_from, from_passes}
use Rattle.history.proofs.Options.{same_test, unless_answered, unless_decided}
use Rattle.history.proofs.Beginnings.{as_many_beginnings}
use Rattle.history.proofs.Standing.{triple_at, Fits, triple_known, triple_from, from_triple, link_coded, same_link, counts}
use Rattle.history.proofs.Listings.{as_many_rows, listing_of}
use Rattle.history.proofs.Steps.{Accounted, held_of, add_grown}

-- a triple is present if one passes the test of it
has_triple_is : {S L R : Type 0} (K : Kit S L R) (es : List (PresentTriple S R)) (x y : List S) (q : ℕ) → has_triple K es x y q ≡ some_passes (same_triple K x y q) es
has_triple_is K [] x y q = refl
has_triple_is K (e ∷ es) x y q = ap (cond (same_triple K x y q e) true) (has_triple_is K es x y q)

-- and so of the number
has_link_is : {S R : Type 0} (es : List (PresentTriple S R)) (u : ℕ) → has_link es u ≡ some_passes (λ e. eqb e.link u) es
has_link_is [] u = refl
has_link_is (e ∷ es) u = ap (cond (eqb e.link u) true) (has_link_is es u)

module _ {S L R : Type 0} (K : Kit S L R) {es : List (PresentTriple S R)} {us : List ℕ} {l : L} {t : LinkTable} {rs : List R} (F : Fits K es us l t rs) where
  -- the table has the present triples
  pub held_is : (x y : List S) (q : ℕ) → held_in K l t x y q ≡ has_triple K es x y q
  held_is x y q =
      same_test (held_in K l t x y q) (some_passes (same_triple K x y q) es)
      (λ h.
      let u = some_is (found t (triple_in K l x y q)) h in
      let k = F.back (triple_in K l x y q) u.0 u.1 in
      from_passes (same_triple K x y q) es k.0 k.1 (from_triple K l x y q k.0 (F.stands k.0 k.1).known k.2))
      (λ h.
      let k = passes_from (same_triple K x y q) es h in
      ap is_some (ap (found t) (sym (triple_from K l x y q k.0 k.2)) ∙ (F.stands k.0 k.1).held))
      ∙ sym (has_triple_is K es x y q)

  -- and its numbers
  pub link_is : (u : ℕ) → is_some (coded t u) ≡ has_link es u
  link_is u =
      same_test (is_some (coded t u)) (some_passes (λ e. eqb e.link u) es)
      (λ h.
      let c = some_is (coded t u) h in
      let k = F.back c.0 u ((lawful t).to_number c.0 u c.1) in
      from_passes (λ e. eqb e.link u) es k.0 k.1 (eq-eqb k.0.link u k.3))
      (λ h.
      let k = passes_from (λ (e : PresentTriple S R). eqb e.link u) es h in
      ap is_some (ap (coded t) (sym (eqb-true k.0.link u k.2)) ∙ link_coded K F k.0 k.1))
      ∙ sym (has_link_is es u)

  -- each present triple is read by its number and found by its words
  answers_of : (e : PresentTriple S R) → In es e → Answers K (state_of l t rs) e
  answers_of e i =
      let h = F.stands e i in
      let k = h.known in
      let is = triple_known K l e k in
      record {
        a = k.a;
        b = k.b;
        x_number = k.x_number;
        y_number = k.y_number;
        read = ap (λ (o : Option Triple). read_by o (slice_get rs (e.link - 1))) (link_coded K F e i ∙ ap (λ (c : Triple). Some c) is) ∙ ap (read_by (Some (record { x = k.a; relation = e.relation; y = k.b }))) h.kept;
        find =
            ap (λ (o : Option Refusal). answered o (link_by K (number_in K l e.x) (number_in K l e.y) (found t (triple_at K l e)))) k.fit
            ∙ ap (λ (o : Option ℕ). Ok (link_by K o (number_in K l e.y) (found t (triple_at K l e)))) k.x_number
            ∙ ap (λ (o : Option ℕ). Ok (link_by K (Some k.a) o (found t (triple_at K l e)))) k.y_number
            ∙ ap (λ (o : Option ℕ). Ok (link_by K (Some k.a) (Some k.b) o)) h.held;
      }

  -- no two present triples are the same
  once_of : (e f : PresentTriple S R) → In es e → In es f → same_triple K f.x f.y f.relation e ≡ true → e ≡ f
  once_of e f i j same =
      let he = (F.stands e i).held in
      let hf = (F.stands f j).held in
      let z = triple_from K l f.x f.y f.relation e same in
      same_link K F e f i j (some_same e.link f.link (sym he ∙ ap (found t) z ∙ hf))

  -- what walking finds is a present triple's
  walks_of : (p : List ℕ) (u : ℕ) → number_at (cells_of t.array) p ≡ Some u → (e : PresentTriple S R) × In es e × (path_of_labels (code_in K l e) ≡ p) × (e.link ≡ u)
  walks_of p u f =
      let only = (lawful t).only p u f in
      let k = F.back (triple_of p) u (ap (number_at (cells_of t.array)) only ∙ f) in
      (k.0, k.1, ap path_of_triple k.2 ∙ only, k.3)

  -- the codes of the present triples, as paths, are exactly the held ones
  holds_of : Holds (cells_of t.array) (map path_of_labels (map (code_in K l) es))
  holds_of = record {
    sound = λ p i.
        let c = map_in path_of_labels (map (code_in K l) es) p i in
        let e = map_in (code_in K l) es c.0 c.1 in
        ap is_some (ap (number_at (cells_of t.array)) (c.2 ∙ ap path_of_labels e.2) ∙ (F.stands e.0 e.1).held);
    whole = λ p some.
        let u = some_is (number_at (cells_of t.array) p) some in
        let k = walks_of p u.0 u.1 in
        subst (In (map path_of_labels (map (code_in K l) es))) k.2 (in_map path_of_labels (map (code_in K l) es) (code_in K l k.0) (in_map (code_in K l) es k.0 k.1));
  }

  -- the cells in use are one more than the different beginnings of the codes
  in_use_of : 2 ≤ length (cells_of t.array) → in_use (cells_of t.array) ≡ 1 + length (beginnings (map (code_in K l) es))
  in_use_of two =
      counting (cells_of t.array) (index_of t.array) (map path_of_labels (map (code_in K l) es)) (omega arith) t.array.sound holds_of
      ∙ ap (λ (n : ℕ). 1 + n) (as_many_beginnings (map (code_in K l) es))

  -- reading is accepted exactly of the present triples' numbers
  read_next : (u : ℕ) → Unless (first (read_refusals (has_link es u))) (read_of t rs u)
  read_next u = subst (λ (b : Bool). Unless (first (read_refusals b)) (read_of t rs u)) (link_is u) (go (coded t u) refl)
    where
      -- a number without a triple is refused
      refused : (o : Option R) → read_by None o ≡ Err UnknownLink
      refused None = refl
      refused (Some r) = refl

      go : (o : Option Triple) → coded t u ≡ o → Unless (first (read_refusals (is_some o))) (read_by o (slice_get rs (u - 1)))
      go None e = refused (slice_get rs (u - 1))
      go (Some c) e =
          let k = F.back c u ((lawful t).to_number c u e) in
          ap (λ (o : Option R). is_ok (read_by (Some c) o)) (ap (λ (v : ℕ). slice_get rs (v - 1)) (sym k.3) ∙ (F.stands k.0 k.1).kept)

  -- unless all numbers are held, there is one that no present triple has
  number_open : (length es ≡ limit t → ⊥) → (u : ℕ) × (1 ≤ u) × (u ≤ limit t) × (has_link es u ≡ false)
  number_open ne =
      let is = index_of t.array in
      let k = open_from (is_known is) 1 (limit t) (λ e. ne (sym (counts K F) ∙ e)) in
      let none : coded t k.0 ≡ None = cond-false (is_known is k.0) (Some (triple_of (path_of (cells_of t.array) is k.0))) None k.3 in
      (k.0, k.1, omega (arith, k.2), sym (link_is k.0) ∙ ap is_some none)

  -- it is refused by how many present triples are asked for
  list_refusal : (x : List S) (q places : ℕ) → refusal_of_list K l t x q places ≡ first (list_refusals x (number_in K l x) places (length (listed_triples K es x q)))
  list_refusal x q places = go (number_in K l x) refl
    where
      go : (o : Option ℕ) → number_in K l x ≡ o → first (list_refusals x o places (length (rows_in K l t x q))) ≡ first (list_refusals x o places (length (listed_triples K es x q)))
      go None e = refl
      go (Some a) e = ap (λ (n : ℕ). first (list_refusals x (Some a) places n)) (as_many_rows K F x q a e)

module _ {S L R : Type 0} (K : Kit S L R) {es : List (PresentTriple S R)} {us : List ℕ} {p d : ℕ} (s : State L R) (H : Accounted K es us p d s) where
  -- the table is full as the present triples say
  full_is : all_held s.table ≡ eqb (length es) (limit s.table)
  full_is = ap (λ (n : ℕ). eqb n (limit s.table)) (counts K H.fits)

  -- the next call is accepted unless a refusal applies
  next_of : Next K es s
  next_of = record {
    add = λ room x y q r n t k.
        let H' = add_grown K (any_growth room) s t x y q r n H k in
        subst (λ (o : Option Refusal). Unless o n)
        (ap (λ (b : Bool). first (add_refusals x y q (K.good r) (lacks K (any_growth room) s.list x) (lacks K (any_growth room) k.mid y) (link_refusals b (all_held s.table) (place_in K k.last s.table x y q)))) (held_is K H'.fits x y q)
        ∙ ap (λ (b : Bool). first (add_refusals x y q (K.good r) (lacks K (any_growth room) s.list x) (lacks K (any_growth room) k.mid y) (link_refusals (has_triple K es x y q) b (place_in K k.last s.table x y q)))) full_is)
        (unless_decided (refusal_of_add K (any_growth room) s.list k.mid k.last s.table x y q r) (state_of k.last s.table s.records) n t
        (LinkMade K (state_of k.last s.table s.records) x y q r n t) (λ j. ap is_ok j.answer) k.result);
    tie = λ x y q r n t k.
        subst (λ (o : Option Refusal). Unless o n)
        (ap (λ (b : Bool). first (tie_refusals x y q (K.good r) (number_in K s.list x) (number_in K s.list y) (link_refusals b (all_held s.table) (place_in K s.list s.table x y q)))) (held_is K H.fits x y q)
        ∙ ap (λ (b : Bool). first (tie_refusals x y q (K.good r) (number_in K s.list x) (number_in K s.list y) (link_refusals (has_triple K es x y q) b (place_in K s.list s.table x y q)))) full_is)
        (unless_decided (refusal_of_tie K s.list s.table x y q r) s n t (LinkMade K s x y q r n t) (λ j. ap is_ok j.answer) k);
    delete = λ x y q n t k.
        subst (λ (o : Option Refusal). Unless o n)
        (ap (λ (b : Bool). first (sought_refusals x y q (number_in K s.list x) (number_in K s.list y) b)) (held_is K H.fits x y q))
        (unless_decided (refusal_of_sought K s.list s.table x y q) s.table n t _ (λ j. ap is_ok j.1) k);
    find = λ x y q. unless_answered (first (word_refusals x y q)) (link_by K (number_in K s.list x) (number_in K s.list y) (found s.table (triple_in K s.list x y q)));
    read = read_next K H.fits;
    change = λ u r n rs k.
        subst (λ (o : Option Refusal). Unless o n)
        (ap (λ (b : Bool). first (change_refusals b (K.good r))) (link_is K H.fits u))
        (unless_decided (refusal_of_change K s.table u r) s.records n rs _ (λ j. ap is_ok j.0) k);
    list = λ x q out n out' k.
        subst (λ (o : Option Refusal). Unless o n) (list_refusal K H.fits x q (length out))
        (unless_decided (refusal_of_list K s.list s.table x q (length out)) out n out' _ (λ j. ap is_ok j.0) k);
    open_number = number_open K H.fits;
  }

-- after every run the law holds
pub law_of : {S L R : Type 0} (K : Kit S L R) {h : History S R} {s : State L R} → Reached K h s → Law K h s
law_of K {h} {s} run =
    let H = held_of K run in
    let F = H.fits in
    record {
      roll = F.roll;
      numbers = F.numbers;
      unlike = F.unlike;
      figure = ap (λ (n : ℕ). record { triples = n; cells = in_use (cells_of s.table.array) }) (counts K F);
      tally = H.tally;
      once = once_of K F;
      sound = λ e i. (F.stands e i).known.sound;
      answers = answers_of K F;
      codes = record { used = in_use_of K F; walks = walks_of K F; walked = λ e i. (F.stands e i).held };
      lists = λ x q a number. listing_of K F x q a number;
      next = next_of K s H;
    }
