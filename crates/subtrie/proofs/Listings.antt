-- The numbers below a beginning are those of the held paths that begin so.
use Rattle.std.proofs.Common.{◌≡◌, ℕ, ◌<◌, ◌≤◌, true, List, [], ◌∷◌, ◌++◌, map, length, get_or, Some, None, Option, sym, refl, ap, ◌∙◌, subst, subst₂, ⊎_elim, arith, length-append}
use Rattle.std.proofs.lemmas.List.{length-map, get_or-map}
use Rattle.std.proofs.lemmas.Bool.{cases_lt, cond-true, cond_both, and_parts, and_from}
use Rattle.cells.specs.declared.Cell.{Cell}
use Rattle.cells.specs.Cells.{at, number, child, all_codes}
use Rattle.members.specs.Lists.{In}
use Rattle.cells.specs.Walking.{onward, walk, cell_at, number_at}
use Rattle.cells.specs.Invariant.{Sound}
use Rattle.cells.proofs.Basics.{no_some, some_same}
use Rattle.cells.proofs.Walks.{Codes, onward_some}
use Rattle.cells.proofs.Climbs.{codes_from, code_is}
use Rattle.cells.proofs.Starts.{climbing}
use Rattle.double_array.proofs.Walks.{number_none}
use Rattle.double_array.proofs.Spells.{named_of}
use Rattle.subtrie.specs.Below.{at_found, numbers_below, numbers_from}
use Rattle.subtrie.specs.Order.{Before}
use Rattle.subtrie.specs.Laws.{ListsBelow, NumbersBelow, Ordered}
use Rattle.members.proofs.Members.{in_map, map_in, map_through}
use Rattle.members.proofs.Orders.{rises_map}
use Rattle.subtrie.proofs.Orders.{before_front, before_self, rising_at}
use Rattle.subtrie.proofs.Paths.{number_on, below}

-- codes
codes_to : (p : List ℕ) → Codes p → all_codes p ≡ true
codes_to [] c = refl
codes_to (a ∷ p) c = and_from _ _ (code_is a c.0.0 c.0.1) (codes_to p c.1)

codes_join : (p r : List ℕ) → all_codes p ≡ true → all_codes r ≡ true → all_codes (p ++ r) ≡ true
codes_join [] r e f = f
codes_join (a ∷ p) r e f = let h = and_parts _ _ e in and_from _ _ h.0 (codes_join p r h.1 f)

codes_part : (p r : List ℕ) → all_codes (p ++ r) ≡ true → (all_codes p ≡ true) × (all_codes r ≡ true)
codes_part [] r e = (refl, e)
codes_part (a ∷ p) r e = let h = and_parts _ _ e in let k = codes_part p r h.1 in (and_from _ _ h.0 k.0, k.1)

-- walking on
onward_on : (o : Option ℕ) (f g h : ℕ → Option ℕ) → ((t : ℕ) → f t ≡ onward (g t) h) → onward o f ≡ onward (onward o g) h
onward_on None f g h e = refl
onward_on (Some t) f g h e = e t

module _ (cs : List Cell) where
  walk_on : (p r : List ℕ) (s : ℕ) → walk cs s (p ++ r) ≡ onward (walk cs s p) (λ t. walk cs t r)
  walk_on [] r s = refl
  walk_on (a ∷ p) r s = onward_on (child cs s a) (λ t. walk cs t (p ++ r)) (λ t. walk cs t p) (λ t. walk cs t r) (λ t. walk_on p r t)

  cell_parts : (p : List ℕ) (t : ℕ) → cell_at cs p ≡ Some t → (all_codes p ≡ true) × (walk cs 1 p ≡ Some t)
  cell_parts p t =
      cond_both (all_codes p) (walk cs 1 p) None (λ (o : Option ℕ). o ≡ Some t → (all_codes p ≡ true) × (walk cs 1 p ≡ Some t))
      (λ c e. (c, e)) (λ c e. absurd (no_some t e))

  -- the number of a path that begins with p, from the cell of p
  number_split : (p r : List ℕ) (s : ℕ) → cell_at cs p ≡ Some s → Codes r → number_at cs (p ++ r) ≡ number_on cs s r
  number_split p r s e c =
      let h = cell_parts p s e in
      ap (λ o. onward o (λ t. number (at cs t).base))
      (cond-true (all_codes (p ++ r)) (walk cs 1 (p ++ r)) None (codes_join p r h.0 (codes_to r c))
      ∙ walk_on p r 1 ∙ ap (λ o. onward o (λ t. walk cs t r)) h.1)

  -- a path that begins with p and leads to a cell leads over the cell of p
  over : (p r : List ℕ) (t : ℕ) → cell_at cs (p ++ r) ≡ Some t → ((s : ℕ) × (cell_at cs p ≡ Some s)) × Codes r
  over p r t e =
      let h = cell_parts (p ++ r) t e in
      let c = codes_part p r h.0 in
      let k = onward_some (walk cs 1 p) (λ s. walk cs s r) t (sym (walk_on p r 1) ∙ h.1) in
      ((k.0, cond-true (all_codes p) (walk cs 1 p) None c.0 ∙ k.1), codes_from r c.1)

module _ (cs : List Cell) (is : List ℕ) (sound : Sound cs is) (p : List ℕ) where
  -- a held path that begins with p
  held_on : (r : List ℕ) (u : ℕ) → number_at cs (p ++ r) ≡ Some u → ((s : ℕ) × (cell_at cs p ≡ Some s)) × Codes r × (length r ≤ length cs)
  held_on r u e =
      let k = onward_some (cell_at cs (p ++ r)) (λ t. number (at cs t).base) u e in
      let o = over cs p r k.0 k.1 in
      let short : length r ≤ length cs = ⊎_elim
      (λ few. absurd (no_some u (number_none cs (omega arith) (p ++ r) ∙ e)))
      (λ two. omega (arith, (climbing cs is (p ++ r) k.0 (omega arith) sound k.1).short, length-append p r))
      (cases_lt (length cs) 2) in
      (o.0, o.1, short)

  listed_at : (o : Option ℕ) → cell_at cs p ≡ o → ListsBelow cs p (at_found (numbers_below (length cs) cs) o)
  listed_at None e = record {
    paths = [];
    numbers = refl;
    rising = tt;
    begin = λ q i. absurd i;
    whole = λ r u is. absurd (let h = (held_on r u is).0 in no_some h.0 (sym e ∙ h.1));
  }
  listed_at (Some s) e =
      let b = below cs (length cs) s in
      let front : List ℕ → List ℕ = λ r. p ++ r in
      record {
        paths = map front b.paths;
        numbers = map_through front (number_at cs) (number_on cs s) b.paths (λ r i. number_split cs p r s e (b.codes r i)) ∙ b.numbers;
        rising = rises_map Before Before front (before_front p) b.paths b.rising;
        begin = λ q i. let m = map_in front b.paths q i in (m.0, m.2);
        whole = λ r u held.
            let h = held_on r u held in
            in_map front b.paths r (b.whole r u h.1 h.2 (sym (number_split cs p r s e h.1) ∙ held));
      }

  pub listed : ListsBelow cs p (numbers_from cs p)
  listed = listed_at (cell_at cs p) refl

-- what follows for the numbers
module _ (cs : List Cell) (p ns : List ℕ) (l : ListsBelow cs p ns) where
  pub members : NumbersBelow cs p ns
  members = record {
    held = λ u i.
        let k = map_in (number_at cs) l.paths (Some u) (subst (λ xs. In xs (Some u)) (sym l.numbers) (in_map Some ns u i)) in
        let b = l.begin k.0 k.1 in
        (b.0, ap (number_at cs) (sym b.1) ∙ sym k.2);
    all = λ r u e.
        let there : In (map (number_at cs) l.paths) (Some u) = subst (In (map (number_at cs) l.paths)) e (in_map (number_at cs) l.paths (p ++ r) (l.whole r u e)) in
        let k = map_in Some ns (Some u) (subst (λ xs. In xs (Some u)) l.numbers there) in
        subst (In ns) (sym (some_same u k.0 k.2)) k.1;
  }

  same_length : length l.paths ≡ length ns
  same_length = sym (length-map l.paths (number_at cs)) ∙ ap length l.numbers ∙ length-map ns Some

  number_of : (i : ℕ) → i < length ns → number_at cs (get_or l.paths i []) ≡ Some (get_or ns i 0)
  number_of i h =
      sym (get_or-map (number_at cs) l.paths i [] None (omega (arith, same_length)))
      ∙ ap (λ xs. get_or xs i None) l.numbers ∙ get_or-map Some ns i 0 None h

  module _ (is : List ℕ) (sound : Sound cs is) where
    only : (k : ℕ) (q : List ℕ) → k < length ns → get_or ns k 0 ≤ length is → number_at cs q ≡ Some (get_or ns k 0) → get_or l.paths k [] ≡ q
    only k q lt le e =
        let named = named_of cs is sound (get_or ns k 0) in
        sym (named.only (get_or l.paths k []) (number_of k lt) le).1 ∙ (named.only q e le).1

    before : (i j : ℕ) → (i < j) × (j < length ns) → Before (get_or l.paths i []) (get_or l.paths j [])
    before i j h = rising_at l.paths l.rising i j h.0 (omega (arith, h.1, same_length))

    pub ordered : Ordered cs is ns
    ordered = record {
      order = λ i j q r h few are. subst₂ Before (only i q (omega (arith, h.0, h.1)) few.0 are.0) (only j r h.1 few.1 are.1) (before i j h);
      once = λ i j h few same.
          let p = get_or l.paths j [] in
          let e : get_or l.paths i [] ≡ p = only i p (omega (arith, h.0, h.1)) few (number_of j h.1 ∙ ap Some (sym same)) in
          before_self p (subst (λ q. Before q p) e (before i j h));
    }
