-- What the fields of a link table say of it.
use Rattle.std.proofs.Common.{◌≡◌, ℕ, ◌+◌, ◌-◌, ◌<◌, ◌≤◌, Bool, true, false, cond, ◌&&◌, eqb, ltb, List, ◌∷◌, ◌++◌, length, get_or, drop, is_some, Some, None, Err, Option, Result, unwrap_or, sym, refl, ap, ◌∙◌, subst, ⊎_elim, append-nil, arith, length-append}
use mathlib.Core.HLevel.{is_prop→PathP}
use native.Mathlib.Bridge.{le_prop}
use native.Mathlib.Nat.{ℕ_set}
use denote.Struct.Props.{props}
use Rattle.std.specs.List.{range_with_len}
use Rattle.std.proofs.lemmas.Bool.{both_ways, cases_Bool, cond-true, cond-false, cond_both, and_from, and_right, lt-ltb, le-ltb, eq-eqb}
use Rattle.std.proofs.lemmas.List.{drop_all}
use Rattle.link_table.specs.Faults.{link_fault_of}
use Rattle.double_array.specs.declared.faults.PathFault.{PathFault}
use Rattle.double_array.specs.declared.faults.PathFault.TheVariants.{NoPlace as NoPlaceOfPath}
use Rattle.double_array.specs.declared.faults.NumberFault.{NumberFault}
use Rattle.double_array.specs.declared.faults.NumberFault.TheVariants.{Unknown, Short}
use Rattle.link_table.specs.declared.faults.LinkFault.{LinkFault}
use Rattle.link_table.specs.declared.faults.LinkFault.TheVariants.{TriplePresent, NoPlace, NumbersHeld}
use Rattle.cells.specs.Cells.{all_codes}
use Rattle.cells.specs.Counting.{same_path}
use Rattle.cells.specs.Placing.{Arrays, enter}
use Rattle.cells.specs.Pruning.{take_out}
use Rattle.cells.specs.Walking.{number_at}
use Rattle.cells.proofs.Basics.{no_some, some_same}
use Rattle.cells.proofs.Climbs.{held_number}
use Rattle.cells.proofs.Numbers.{decides_same}
use Rattle.members.proofs.Pigeons.{in_counting, apart_counting, in_kept, from_kept, apart_kept}
use Rattle.double_array.specs.Entries.{is_open, place_fault, refusal, Added}
use Rattle.double_array.specs.Outcomes.{Removed}
use Rattle.double_array.specs.Spellings.{is_known, path_of, unwritten}
use Rattle.double_array.specs.Views.{cells_of, index_of}
use Rattle.double_array.specs.declared.array.DoubleArray.{DoubleArray}
use Rattle.double_array.proofs.Blocks.{Kind, unblocked}
use Rattle.double_array.proofs.Refusals.{judged_by}
use Rattle.double_array.proofs.Spells.{named_of}
use Rattle.link_table.specs.Codes.{path_of_triple, triple_of, is_triple_path, Triples}
use Rattle.link_table.specs.Numbers.{held_numbers, NumbersAtMost}
use Rattle.link_table.specs.Tables.{limit, found, coded, numbers, all_held, has_place, IsConsistent, Put, Out, put_refusal, Puts}
use Rattle.link_table.specs.declared.triple.Triple.{Triple}
use Rattle.link_table.specs.declared.table.LinkTable.{LinkTable}
use Rattle.link_table.proofs.Labels.{five_long, path_back, triple_back, triple_five, number_codes}
use Rattle.link_table.proofs.Counts.{kept_none, kept_few}
use Rattle.link_table.proofs.Places.{enter_any}
use Rattle.link_table.proofs.Holds.{number_low, number_high, new_number, known_before, held_more, held_all}

-- the ghost fields in their order
abbrev pub Fields : DoubleArray → ℕ → Type 0
Fields d count =
    record { few : length (index_of d) ≤ 1048575; triples : Triples (cells_of d); numbered : NumbersAtMost (cells_of d) (length (index_of d)); counted : count ≡ length (held_numbers (index_of d)) }

-- two tables with the same array, count and cursor
pub same_table : (s t : LinkTable) → s.array ≡ t.array → s.count ≡ t.count → s.cursor ≡ t.cursor → s ≡ t
same_table s t p q r = λ j. record {
  array = p j;
  count = q j;
  cursor = r j;
  few = is_prop→PathP (λ k. length (index_of (p k)) ≤ 1048575) (λ k. le_prop) s.few t.few j;
  triples = is_prop→PathP (λ k. Triples (cells_of (p k))) (λ k. hlevel props) s.triples t.triples j;
  numbered = is_prop→PathP (λ k. NumbersAtMost (cells_of (p k)) (length (index_of (p k)))) (λ k. hlevel props) s.numbered t.numbered j;
  counted = is_prop→PathP (λ k. q k ≡ length (held_numbers (index_of (p k)))) (λ k. ℕ_set _ _) s.counted t.counted j;
}

-- a path that is held is a triple's
pub held_path : (s : LinkTable) (p : List ℕ) (u : ℕ) → number_at (cells_of s.array) p ≡ Some u → path_of_triple (triple_of p) ≡ p
held_path s p u e = path_back p (s.triples p (ap is_some e)) (number_codes (cells_of s.array) p u e)

-- the laws of every table
module _ (s : LinkTable) where
  to_triple : (t : Triple) (u : ℕ) → found s t ≡ Some u → coded s u ≡ Some t
  to_triple t u e =
      let cs = cells_of s.array in
      let is = index_of s.array in
      let k = (named_of cs is s.array.sound u).only (path_of_triple t) e (number_high cs (length is) (path_of_triple t) u s.numbered e) in
      cond-true (is_known is u) (Some (triple_of (path_of cs is u))) None k.0 ∙ ap (λ (p : List ℕ). Some (triple_of p)) k.1 ∙ ap (λ (q : Triple). Some q) (triple_back t)

  to_number : (t : Triple) (u : ℕ) → coded s u ≡ Some t → found s t ≡ Some u
  to_number t u e =
      let cs = cells_of s.array in
      let is = index_of s.array in
      let p = path_of cs is u in
      ⊎_elim
      (λ known.
      let same : triple_of p ≡ t = some_same (triple_of p) t (sym (cond-true (is_known is u) (Some (triple_of p)) None known) ∙ e) in
      let has = (named_of cs is s.array.sound u).held known in
      ap (number_at cs) (ap path_of_triple (sym same) ∙ held_path s p u has) ∙ has)
      (λ unknown. absurd (no_some t (sym (cond-false (is_known is u) (Some (triple_of p)) None unknown) ∙ e)))
      (cases_Bool (is_known is u))

  -- a number that has a triple is in the index
  known_from : (u : ℕ) → is_some (coded s u) ≡ true → is_known (index_of s.array) u ≡ true
  known_from u some =
      ⊎_elim
      (λ known. known)
      (λ unknown. absurd (both_ways false refl
      (ap is_some (sym (cond-false (is_known (index_of s.array) u) (Some (triple_of (path_of (cells_of s.array) (index_of s.array) u))) None unknown)) ∙ some)))
      (cases_Bool (is_known (index_of s.array) u))

  known_within : (u : ℕ) → is_known (index_of s.array) u ≡ true → (1 ≤ u) × (u ≤ limit s)
  known_within u known =
      let cs = cells_of s.array in
      let is = index_of s.array in
      let has = (named_of cs is s.array.sound u).held known in
      (number_low cs (path_of cs is u) u has, number_high cs (limit s) (path_of cs is u) u s.numbered has)

  pub lawful : IsConsistent s
  lawful = record {
    to_triple = to_triple;
    to_number = to_number;
    bounds = λ t u e.
        let f = to_number t u e in
        (number_low (cells_of s.array) (path_of_triple t) u f, number_high (cells_of s.array) (limit s) (path_of_triple t) u s.numbered f);
    few = s.few;
    counted = λ u some. in_kept (is_known (index_of s.array)) (range_with_len 1 (limit s)) u (known_from u some) (in_counting 1 (limit s) u (known_within u (known_from u some)).0 (omega (arith, (known_within u (known_from u some)).1)));
    present = λ u i. ap is_some (cond-true (is_known (index_of s.array) u) (Some (triple_of (path_of (cells_of s.array) (index_of s.array) u))) None (from_kept (is_known (index_of s.array)) (range_with_len 1 (limit s)) u i).0);
    apart = apart_kept (is_known (index_of s.array)) (range_with_len 1 (limit s)) (apart_counting 1 (limit s));
    only = held_path s;
  }

-- numbers whose triples are the same way round in two tables
coded_same : (x y : Option Triple) → ((q : Triple) → x ≡ Some q → y ≡ Some q) → ((q : Triple) → y ≡ Some q → x ≡ Some q) → x ≡ y
coded_same None None f g = refl
coded_same None (Some q) f g = g q refl
coded_same (Some q) y f g = sym (f q refl)

-- t has the triple more, with the number u: each other number has the triple that it had
pub coded_others : (s t : LinkTable) (triple : Triple) (u : ℕ) → found t triple ≡ Some u → found s triple ≡ None → ((q : Triple) → (q ≡ triple → ⊥) → found t q ≡ found s q) → (v : ℕ) → (v ≡ u → ⊥) → coded t v ≡ coded s v
coded_others s t triple u here none others v ne =
    coded_same (coded t v) (coded s v)
    (λ q e.
    let f = (lawful t).to_number q v e in
    (lawful s).to_triple q v (sym (others q (λ same. ne (some_same v u (sym f ∙ ap (found t) same ∙ here)))) ∙ f))
    (λ q e.
    let f = (lawful s).to_number q v e in
    (lawful t).to_triple q v (others q (λ same. no_some v (sym none ∙ ap (found s) (sym same) ∙ f)) ∙ f))

-- an array of no path, with an index of zeros, has no number
module _ (d : DoubleArray) (none : (p : List ℕ) → number_at (cells_of d) p ≡ None) (zeros : (n : ℕ) → get_or (index_of d) n 0 ≡ 0) where
  pub none_known : (u : ℕ) → is_known (index_of d) u ≡ false
  none_known u = and_right (ltb 0 u) (ltb 0 (get_or (index_of d) (u - 1) 0)) (le-ltb 0 (get_or (index_of d) (u - 1) 0) (omega (arith, zeros (u - 1))))

  pub none_held : length (held_numbers (index_of d)) ≡ 0
  none_held = kept_none (is_known (index_of d)) 1 (length (index_of d)) none_known

  pub new_fields : length (index_of d) ≤ 1048575 → Fields d 0
  new_fields few = record {
    few = few;
    triples = λ p some. absurd (both_ways false refl (ap is_some (sym (none p)) ∙ some));
    numbered = λ p. subst (λ (o : Option ℕ). unwrap_or o 0 ≤ length (index_of d)) (sym (none p)) (omega arith);
    counted = sym none_held;
  }

-- what the index and the cells give for a number fills five places
module _ (s : LinkTable) (u : ℕ) where
  pub path_known : (k : ℕ) → unwritten (cells_of s.array) (index_of s.array) u k ≡ None → is_known (index_of s.array) u ≡ true
  path_known k e =
      let is = index_of s.array in
      ⊎_elim
      (λ known. known)
      (λ unknown. absurd (no_some Unknown (sym e ∙ cond-false (is_known is u) (cond (ltb k (length (path_of (cells_of s.array) is u))) (Some Short) None) (Some Unknown) unknown)))
      (cases_Bool (is_known is u))

  pub path_number : is_known (index_of s.array) u ≡ true → number_at (cells_of s.array) (path_of (cells_of s.array) (index_of s.array) u) ≡ Some u
  path_number known = (named_of (cells_of s.array) (index_of s.array) s.array.sound u).held known

  pub path_five : is_known (index_of s.array) u ≡ true → is_triple_path (path_of (cells_of s.array) (index_of s.array) u) ≡ true
  path_five known = s.triples (path_of (cells_of s.array) (index_of s.array) u) (ap is_some (path_number known))

  pub path_codes : is_known (index_of s.array) u ≡ true → all_codes (path_of (cells_of s.array) (index_of s.array) u) ≡ true
  path_codes known = number_codes (cells_of s.array) (path_of (cells_of s.array) (index_of s.array) u) u (path_number known)

  pub path_written : is_known (index_of s.array) u ≡ true → (n : ℕ) (out after : List ℕ) → length out ≡ 5 → n ≡ length (path_of (cells_of s.array) (index_of s.array) u)
      → after ≡ path_of (cells_of s.array) (index_of s.array) u ++ drop n out → after ≡ path_of (cells_of s.array) (index_of s.array) u
  path_written known n out after long size e =
      let p = path_of (cells_of s.array) (index_of s.array) u in
      e ∙ ap (λ (z : List ℕ). p ++ z) (drop_all n out (omega (arith, five_long p (path_five known)))) ∙ append-nil p

  pub unknown_at : (f : NumberFault) → unwritten (cells_of s.array) (index_of s.array) u 5 ≡ Some f → is_known (index_of s.array) u ≡ false
  unknown_at f e =
      let is = index_of s.array in
      let p = path_of (cells_of s.array) is u in
      ⊎_elim
      (λ known. absurd (no_some f (sym (cond-true (is_known is u) (cond (ltb 5 (length p)) (Some Short) None) (Some Unknown) known
      ∙ cond-false (ltb 5 (length p)) (Some Short) None (le-ltb 5 (length p) (omega (arith, five_long p (path_five known))))) ∙ e)))
      (λ unknown. unknown)
      (cases_Bool (is_known is u))

-- triples with the same path are the same
path_same : (q r : Triple) → path_of_triple q ≡ path_of_triple r → q ≡ r
path_same q r e = sym (triple_back q) ∙ ap triple_of e ∙ triple_back r

path_other : (q r : Triple) → (q ≡ r → ⊥) → same_path (path_of_triple q) (path_of_triple r) ≡ false
path_other q r ne =
    ⊎_elim
    (λ same. absurd (ne (path_same q r ((decides_same (path_of_triple q) (path_of_triple r)).0 same))))
    (λ other. other)
    (cases_Bool (same_path (path_of_triple q) (path_of_triple r)))

-- a number that is not there
pub none_when : (o : Option ℕ) → is_some o ≡ false → o ≡ None
none_when None e = refl
none_when (Some u) e = absurd (both_ways true e refl)

-- all numbers are held
pub put_full : (s : LinkTable) (triple : Triple) → found s triple ≡ None → ((k : ℕ) → k < limit s → 0 ≤ k → 0 < get_or (index_of s.array) k 0) → put_refusal s triple ≡ Some NumbersHeld
put_full s triple none all =
    cond-false (is_some (found s triple)) (Some TriplePresent) (cond (all_held s) (Some NumbersHeld) (cond (has_place s triple) None (Some NoPlace))) (ap is_some none)
    ∙ cond-true (all_held s) (Some NumbersHeld) (cond (has_place s triple) None (Some NoPlace)) (eq-eqb (length (numbers s)) (limit s) (held_all (index_of s.array) all))

-- the count fits
pub count_few : (s : LinkTable) → s.count ≤ 1048575
count_few s = omega (arith, s.few, s.counted, kept_few (is_known (index_of s.array)) 1 (length (index_of s.array)))

-- a refusal that was answered, of a table that stayed
pub refused_as : (s t : LinkTable) (triple : Triple) (r : Result ℕ LinkFault) (e : LinkFault) → r ≡ Err e → put_refusal s triple ≡ Some e → t ≡ s → Puts s triple r t
refused_as s t triple r e is said same = subst (λ (n : Result ℕ LinkFault). Puts s triple n t) (sym is) (said, same)

-- a path of five codes
abbrev Five : List ℕ → Type 0
Five p = length p ≡ 5

-- all held paths are such, and none goes on after another
fives : (s : LinkTable) → Kind (cells_of s.array) Five
fives s = record {
  some = λ none. omega arith;
  alone = λ p a q five more. omega (arith, length-append p (a ∷ q));
  held = λ p n held_numbers. five_long p (s.triples p (ap is_some (held_number (cells_of s.array) p n held_numbers)));
}

-- a triple is put: it is not present, and the place of its number is vacant
module _ (s : LinkTable) (triple : Triple) (place : ℕ) (codes : all_codes (path_of_triple triple) ≡ true) (none : found s triple ≡ None)
    (low : place < limit s) (vacant : get_or (index_of s.array) place 0 ≡ 0) where
  next : place + 1 - 1 ≡ place
  next = omega arith

  open_number : is_open (index_of s.array) (place + 1) ≡ true
  open_number =
      let is = index_of s.array in
      and_from (ltb 0 (place + 1) && ltb (place + 1) 2147483648) (eqb (get_or is (place + 1 - 1) 0) 0)
      (and_from (ltb 0 (place + 1)) (ltb (place + 1) 2147483648) (lt-ltb 0 (place + 1) (omega arith)) (lt-ltb (place + 1) 2147483648 (omega (arith, s.few))))
      (eq-eqb (get_or is (place + 1 - 1) 0) 0 (ap (λ (n : ℕ). get_or is n 0) next ∙ vacant))

  judged : refusal (cells_of s.array) (index_of s.array) (path_of_triple triple) (place + 1) ≡ place_fault (enter (cells_of s.array) (index_of s.array) (path_of_triple triple) (place + 1 - 1))
  judged =
      judged_by (cells_of s.array) (index_of s.array) (path_of_triple triple) (place + 1)
      (and_from (ltb 0 (length (path_of_triple triple)) && ltb (length (path_of_triple triple)) 130) (all_codes (path_of_triple triple)) refl codes) open_number
      (unblocked (cells_of s.array) (index_of s.array) s.array.sound Five (fives s) (path_of_triple triple) codes (five_long (path_of_triple triple) (triple_five triple)) none)
      (enter (cells_of s.array) (index_of s.array) (path_of_triple triple) (place + 1 - 1)) refl

  -- the refusal by whether there is a place
  refused_by : all_held s ≡ false → (b : Bool) → has_place s triple ≡ b → put_refusal s triple ≡ cond b None (Some NoPlace)
  refused_by some b e =
      cond-false (is_some (found s triple)) (Some TriplePresent) (cond (all_held s) (Some NumbersHeld) (cond (has_place s triple) None (Some NoPlace))) (ap is_some none)
      ∙ cond-false (all_held s) (Some NumbersHeld) (cond (has_place s triple) None (Some NoPlace)) some
      ∙ ap (λ (v : Bool). cond v None (Some NoPlace)) e

  place_is : (o : Option Arrays) → enter (cells_of s.array) (index_of s.array) (path_of_triple triple) (place + 1 - 1) ≡ o → has_place s triple ≡ is_some o
  place_is o e = enter_any (cells_of s.array) (index_of s.array) (path_of_triple triple) 0 (place + 1 - 1) ∙ ap is_some e

  pub put_accepted : all_held s ≡ false → (xs : Arrays) → enter (cells_of s.array) (index_of s.array) (path_of_triple triple) (place + 1 - 1) ≡ Some xs → put_refusal s triple ≡ None
  put_accepted some xs e = refused_by some true (place_is (Some xs) e)

  pub put_refused : all_held s ≡ false → (f : PathFault) → refusal (cells_of s.array) (index_of s.array) (path_of_triple triple) (place + 1) ≡ Some f → put_refusal s triple ≡ Some (link_fault_of f)
  put_refused some f said = by (enter (cells_of s.array) (index_of s.array) (path_of_triple triple) (place + 1 - 1)) refl
    where
      by : (o : Option Arrays) → enter (cells_of s.array) (index_of s.array) (path_of_triple triple) (place + 1 - 1) ≡ o → put_refusal s triple ≡ Some (link_fault_of f)
      by None e = refused_by some false (place_is None e) ∙ ap (λ (g : PathFault). Some (link_fault_of g)) (sym (some_same f NoPlaceOfPath (sym said ∙ judged ∙ ap place_fault e)))
      by (Some xs) e = absurd (no_some f (sym (judged ∙ ap place_fault e) ∙ said))

  -- the array after it was entered
  module _ (d : DoubleArray) (long : length (index_of d) ≡ length (index_of s.array)) (added : Added (cells_of s.array) (path_of_triple triple) (place + 1) (cells_of d)) where
    put_numbered : NumbersAtMost (cells_of d) (length (index_of d))
    put_numbered q =
        subst (λ (o : Option ℕ). unwrap_or o 0 ≤ length (index_of d)) (sym (added q))
        (cond_both (same_path q (path_of_triple triple)) (Some (place + 1)) (number_at (cells_of s.array) q) (λ o. unwrap_or o 0 ≤ length (index_of d)) (λ _. omega arith) (λ _. omega (arith, s.numbered q)))

    put_triples : Triples (cells_of d)
    put_triples q some =
        ⊎_elim
        (λ same. ap is_triple_path ((decides_same q (path_of_triple triple)).0 same) ∙ triple_five triple)
        (λ other. s.triples q (ap is_some (sym (added q ∙ cond-false (same_path q (path_of_triple triple)) (Some (place + 1)) (number_at (cells_of s.array) q) other)) ∙ some))
        (cases_Bool (same_path q (path_of_triple triple)))

    put_held : length (held_numbers (index_of d)) ≡ length (held_numbers (index_of s.array)) + 1
    put_held =
        held_more (cells_of s.array) (cells_of d) (index_of s.array) (index_of d) (path_of_triple triple) (place + 1) s.array.sound d.sound s.numbered put_numbered long none added

    pub put_fields : Fields d (s.count + 1)
    put_fields = record { few = omega (arith, s.few); triples = put_triples; numbered = put_numbered; counted = omega (arith, s.counted, put_held) }

  -- and the table
  pub put_done : (t : LinkTable) → length (index_of t.array) ≡ length (index_of s.array) → Added (cells_of s.array) (path_of_triple triple) (place + 1) (cells_of t.array)
      → enter (cells_of s.array) (index_of s.array) (path_of_triple triple) (place + 1 - 1) ≡ Some (record { cells = cells_of t.array; index = index_of t.array })
      → Put s triple (place + 1) t
  put_done t long added did =
      let cs = cells_of s.array in
      let is = index_of s.array in
      let xs = cells_of t.array in
      let js = index_of t.array in
      let p = path_of_triple triple in
      let few = put_numbered t.array long added in
      let here = new_number cs xs is js p (place + 1) s.array.sound t.array.sound s.numbered few long none added in
      let others : (q : Triple) → (q ≡ triple → ⊥) → found t q ≡ found s q =
      λ q ne. added (path_of_triple q) ∙ cond-false (same_path (path_of_triple q) p) (Some (place + 1)) (number_at cs (path_of_triple q)) (path_other q triple ne) in
      record {
        arrays_after = did;
        number_low = omega arith;
        number_high = omega arith;
        number_open = cond-false (is_known is (place + 1)) (Some (triple_of (path_of cs is (place + 1)))) None
            (known_before cs xs is js p (place + 1) s.array.sound t.array.sound s.numbered few long none added);
        here = here;
        others = others;
        here_coded = (lawful t).to_triple triple (place + 1) here;
        others_coded = coded_others s t triple (place + 1) here none others;
        limit_same = long;
        one_more = put_held t.array long added;
      }

-- a triple is taken out
module _ (s : LinkTable) (triple : Triple) (u : ℕ) (has : found s triple ≡ Some u) where
  -- the array after its path was removed
  module _ (d : DoubleArray) (long : length (index_of d) ≡ length (index_of s.array)) (removed : Removed (cells_of s.array) (path_of_triple triple) (cells_of d)) where
    gone : number_at (cells_of d) (path_of_triple triple) ≡ None
    gone =
        removed (path_of_triple triple)
        ∙ cond-true (same_path (path_of_triple triple) (path_of_triple triple)) None (number_at (cells_of s.array) (path_of_triple triple)) ((decides_same (path_of_triple triple) (path_of_triple triple)).1 refl)

    other_same : (q : List ℕ) → same_path q (path_of_triple triple) ≡ false → number_at (cells_of d) q ≡ number_at (cells_of s.array) q
    other_same q other = removed q ∙ cond-false (same_path q (path_of_triple triple)) None (number_at (cells_of s.array) q) other

    take_numbered : NumbersAtMost (cells_of d) (length (index_of d))
    take_numbered q =
        subst (λ (o : Option ℕ). unwrap_or o 0 ≤ length (index_of d)) (sym (removed q))
        (cond_both (same_path q (path_of_triple triple)) None (number_at (cells_of s.array) q) (λ o. unwrap_or o 0 ≤ length (index_of d)) (λ _. omega arith) (λ _. omega (arith, s.numbered q)))

    take_triples : Triples (cells_of d)
    take_triples q some =
        ⊎_elim
        (λ same. absurd (both_ways false refl (ap is_some (sym (ap (number_at (cells_of d)) ((decides_same q (path_of_triple triple)).0 same) ∙ gone)) ∙ some)))
        (λ other. s.triples q (ap is_some (sym (other_same q other)) ∙ some))
        (cases_Bool (same_path q (path_of_triple triple)))

    back : (q : List ℕ) → number_at (cells_of s.array) q ≡ cond (same_path q (path_of_triple triple)) (Some u) (number_at (cells_of d) q)
    back q =
        cond_both (same_path q (path_of_triple triple)) (Some u) (number_at (cells_of d) q) (λ o. number_at (cells_of s.array) q ≡ o)
        (λ same. ap (number_at (cells_of s.array)) ((decides_same q (path_of_triple triple)).0 same) ∙ has)
        (λ other. sym (other_same q other))

    pub take_held : length (held_numbers (index_of s.array)) ≡ length (held_numbers (index_of d)) + 1
    take_held =
        held_more (cells_of d) (cells_of s.array) (index_of d) (index_of s.array) (path_of_triple triple) u d.sound s.array.sound take_numbered s.numbered (sym long) gone back

    take_unknown : is_known (index_of d) u ≡ false
    take_unknown =
        known_before (cells_of d) (cells_of s.array) (index_of d) (index_of s.array) (path_of_triple triple) u d.sound s.array.sound take_numbered s.numbered (sym long) gone back

    pub take_fields : Fields d (s.count - 1)
    take_fields = record { few = omega (arith, s.few); triples = take_triples; numbered = take_numbered; counted = omega (arith, s.counted, take_held) }

  -- and the table
  pub take_done : (t : LinkTable) → length (index_of t.array) ≡ length (index_of s.array) → Removed (cells_of s.array) (path_of_triple triple) (cells_of t.array)
      → take_out (cells_of s.array) (index_of s.array) (path_of_triple triple) ≡ Some (record { cells = cells_of t.array; index = index_of t.array })
      → Out s triple u t
  take_done t long removed did =
      let left = gone t.array long removed in
      let others : (q : Triple) → (q ≡ triple → ⊥) → found t q ≡ found s q = λ q ne. other_same t.array long removed (path_of_triple q) (path_other q triple ne) in
      let is = index_of t.array in
      record {
        arrays_after = did;
        had = has;
        gone = left;
        others = others;
        gone_coded = cond-false (is_known is u) (Some (triple_of (path_of (cells_of t.array) is u))) None (take_unknown t.array long removed);
        others_coded = λ v ne. sym (coded_others t s triple u has left (λ q other. sym (others q other)) v ne);
        limit_same = long;
        one_less = sym (take_held t.array long removed);
      }
