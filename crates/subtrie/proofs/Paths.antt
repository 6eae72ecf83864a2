-- The numbers below a cell are those of the paths that lead on from it, in the order of the paths.
use Rattle.std.proofs.Common.{◌≡◌, ℕ, zero, suc, ◌+◌, ◌-◌, ◌<◌, ◌≤◌, false, List, [], ◌∷◌, ◌++◌, map, length, ℤ, pos, negsuc, Some, None, Option, sym, refl, ap, ◌∙◌, subst, inl, inr, ⊎_elim, arith}
use lib.Signed.{lt_z}
use Rattle.std.proofs.lemmas.List.{map-append}
use Rattle.std.proofs.lemmas.Bool.{cases_eq, cond-false, and_left}
use Rattle.cells.specs.declared.Cell.{Cell}
use Rattle.cells.specs.Cells.{at, nat, number, edge, child}
use Rattle.members.specs.Lists.{In, Rises}
use Rattle.cells.specs.Walking.{onward, walk}
use Rattle.cells.proofs.Basics.{no_some}
use Rattle.cells.proofs.Walks.{Codes}
use Rattle.subtrie.specs.Below.{at_found, leaf_or, edge_numbers, numbers_below}
use Rattle.subtrie.specs.Order.{Before}
use Rattle.members.proofs.Members.{in_append, in_front, in_rest, in_map, map_in, map_through}
use Rattle.members.proofs.Orders.{rises_append, rises_map}

-- the number of the leaf that the codes lead to from s
abbrev pub number_on : List Cell → ℕ → List ℕ → Option ℕ
number_on cs s p = onward (walk cs s p) (λ t. number (at cs t).base)

-- ns are the numbers of the paths of at most `left` codes that lead from s to a leaf, in the order of the paths
pub record Onward (cs : List Cell) (s left : ℕ) (ns : List ℕ) : Type 0 where
  pub paths : List (List ℕ)
  pub numbers : map (number_on cs s) paths ≡ map Some ns
  pub rising : Rises Before paths
  pub codes : (q : List ℕ) → In paths q → Codes q
  pub whole : (q : List ℕ) (u : ℕ) → Codes q → length q ≤ left → number_on cs s q ≡ Some u → In paths q

-- the same of the paths by the edges of s with the last k codes, and at most `left` codes past them
pub record Along (cs : List Cell) (s k left : ℕ) (ns : List ℕ) : Type 0 where
  pub paths : List (List ℕ)
  pub numbers : map (number_on cs s) paths ≡ map Some ns
  pub rising : Rises Before paths
  pub codes : (q : List ℕ) → In paths q → Codes q
  pub first : (q : List ℕ) → In paths q → (a : ℕ) × (r : List ℕ) × (258 ≤ a + k) × (q ≡ a ∷ r)
  pub whole : (a : ℕ) (r : List ℕ) (u : ℕ) → 258 ≤ a + k → Codes (a ∷ r) → length r ≤ left → number_on cs s (a ∷ r) ≡ Some u → In paths (a ∷ r)

-- a leaf has no child
below_zero : (z : ℤ) (n : ℕ) → number z ≡ Some n → lt_z (pos 0) z ≡ false
below_zero (pos k) n e = absurd (no_some n e)
below_zero (negsuc k) n e = refl

leaf_ends : (cs : List Cell) (s n a : ℕ) → number (at cs s).base ≡ Some n → child cs s a ≡ None
leaf_ends cs s n a e =
    cond-false (edge cs s (nat (at cs s).base + a)) (Some (nat (at cs s).base + a)) None (and_left _ _ (and_left _ _ (below_zero (at cs s).base n e)))

-- the first code of a path is followed
follow : (cs : List Cell) (s a : ℕ) (r : List ℕ) (o : Option ℕ) → child cs s a ≡ o → number_on cs s (a ∷ r) ≡ onward (onward o (λ t. walk cs t r)) (λ t. number (at cs t).base)
follow cs s a r o e = ap (λ x. onward (onward x (λ t. walk cs t r)) (λ t. number (at cs t).base)) e

module _ (cs : List Cell) (left : ℕ) (kids : (t : ℕ) → Onward cs t left (numbers_below left cs t)) (s : ℕ) where
  module _ (k a : ℕ) (last : a + suc k ≡ 258) (some : 0 < a) (ns : List ℕ) (rest : Along cs s k left ns) where
    one : (o : Option ℕ) → child cs s a ≡ o → Along cs s (suc k) left (at_found (numbers_below left cs) o ++ ns)
    one None e = record {
      paths = rest.paths;
      numbers = rest.numbers;
      rising = rest.rising;
      codes = rest.codes;
      first = λ q i. let f = rest.first q i in (f.0, f.1, omega (arith, f.2), f.3);
      whole = λ b r u h c short is.
          ⊎_elim
          (λ same. absurd (no_some u (sym (follow cs s b r None (ap (child cs s) same ∙ e)) ∙ is)))
          (λ ne. rest.whole b r u (omega arith) c short is)
          (cases_eq b a);
    }
    one (Some t) e =
        let kid = kids t in
        let ahead : List ℕ → List ℕ = λ p. a ∷ p in
        record {
          paths = map ahead kid.paths ++ rest.paths;
          numbers =
              map-append (number_on cs s) (map ahead kid.paths) rest.paths
              ∙ ap (λ l. l ++ map (number_on cs s) rest.paths) (map_through ahead (number_on cs s) (number_on cs t) kid.paths (λ p i. follow cs s a p (Some t) e) ∙ kid.numbers)
              ∙ ap (λ l. map Some (numbers_below left cs t) ++ l) rest.numbers
              ∙ sym (map-append Some (numbers_below left cs t) ns);
          rising = rises_append Before (map ahead kid.paths) rest.paths (rises_map Before Before ahead (λ p q h. inr (refl, h)) kid.paths kid.rising) rest.rising
              (λ p q i j.
              let m = map_in ahead kid.paths p i in
              let f = rest.first q j in
              let less : Before (a ∷ m.0) (f.0 ∷ f.1) = inl (omega (arith, f.2)) in
              subst (Before p) (sym f.3) (subst (λ x. Before x (f.0 ∷ f.1)) (sym m.2) less));
          codes = λ q i.
              ⊎_elim
              (λ j. let m = map_in ahead kid.paths q j in subst Codes (sym m.2) ((some, omega arith), kid.codes m.0 m.1))
              (rest.codes q)
              (in_append (map ahead kid.paths) rest.paths q i);
          first = λ q i.
              ⊎_elim
              (λ j. let m = map_in ahead kid.paths q j in (a, m.0, omega arith, m.2))
              (λ j. let f = rest.first q j in (f.0, f.1, omega (arith, f.2), f.3))
              (in_append (map ahead kid.paths) rest.paths q i);
          whole = λ b r u h c short is.
              ⊎_elim
              (λ same.
              let there = kid.whole r u c.1 short (sym (follow cs s b r (Some t) (ap (child cs s) same ∙ e)) ∙ is) in
              in_front (map ahead kid.paths) rest.paths (b ∷ r) (subst (λ x. In (map ahead kid.paths) (x ∷ r)) (sym same) (in_map ahead kid.paths r there)))
              (λ ne. in_rest (map ahead kid.paths) rest.paths (b ∷ r) (rest.whole b r u (omega arith) c short is))
              (cases_eq b a);
        }

  along : (k : ℕ) → k < 258 → Along cs s k left (edge_numbers (numbers_below left cs) cs s k)
  unfolding edge_numbers
  along zero h = record {
    paths = [];
    numbers = refl;
    rising = tt;
    codes = λ q i. absurd i;
    first = λ q i. absurd i;
    whole = λ a r u far c short is. absurd (omega (arith, c.0.1));
  }
  along (suc k) h = one k (258 - suc k) (omega arith) (omega arith) (edge_numbers (numbers_below left cs) cs s k) (along k (omega arith)) (child cs s (258 - suc k)) refl

module _ (cs : List Cell) (s left : ℕ) where
  -- a leaf has the empty path alone
  leaf_whole : (n : ℕ) → number (at cs s).base ≡ Some n → (q : List ℕ) (u : ℕ) → Codes q → length q ≤ left → number_on cs s q ≡ Some u → In ([] ∷ []) q
  leaf_whole n e [] u c short is = inl refl
  leaf_whole n e (a ∷ r) u c short is = absurd (no_some u (sym (follow cs s a r None (leaf_ends cs s n a e)) ∙ is))

  leaf_first : (ms : List ℕ) → (number (at cs s).base ≡ None → Onward cs s left ms) → (o : Option ℕ) → number (at cs s).base ≡ o → Onward cs s left (leaf_or o ms)
  leaf_first ms other None e = other e
  leaf_first ms other (Some n) e = record {
    paths = [] ∷ [];
    numbers = ap (λ o. o ∷ []) e;
    rising = (λ q i. absurd i, tt);
    codes = λ q i. ⊎_elim (λ same. subst Codes (sym same) tt) (λ j. absurd j) i;
    whole = leaf_whole n e;
  }

  -- no code is left
  none_whole : number (at cs s).base ≡ None → (q : List ℕ) (u : ℕ) → Codes q → length q ≤ 0 → number_on cs s q ≡ Some u → In [] q
  none_whole e [] u c short is = absurd (no_some u (sym e ∙ is))
  none_whole e (a ∷ r) u c short is = absurd (omega arith)

  nothing : number (at cs s).base ≡ None → Onward cs s 0 []
  nothing e = record { paths = []; numbers = refl; rising = tt; codes = λ q i. absurd i; whole = none_whole e }

  -- any other cell has the paths of its edges
  edges_whole : (ns : List ℕ) (w : Along cs s 257 left ns) → number (at cs s).base ≡ None → (q : List ℕ) (u : ℕ) → Codes q → length q ≤ suc left → number_on cs s q ≡ Some u → In w.paths q
  edges_whole ns w e [] u c short is = absurd (no_some u (sym e ∙ is))
  edges_whole ns w e (a ∷ r) u c short is = w.whole a r u (omega (arith, c.0.0)) c (omega arith) is

  from_edges : (ns : List ℕ) → Along cs s 257 left ns → number (at cs s).base ≡ None → Onward cs s (suc left) ns
  from_edges ns w e = record { paths = w.paths; numbers = w.numbers; rising = w.rising; codes = w.codes; whole = edges_whole ns w e }

pub below : (cs : List Cell) (left s : ℕ) → Onward cs s left (numbers_below left cs s)
unfolding numbers_below
below cs zero s = leaf_first cs s 0 [] (nothing cs s 0) (number (at cs s).base) refl
below cs (suc left) s =
    leaf_first cs s (suc left) (edge_numbers (numbers_below left cs) cs s 257)
    (from_edges cs s left _ (along cs left (λ t. below cs left t) s 257 (omega arith)))
    (number (at cs s).base) refl
