-- A path is entered: it is held in addition, and each other path is as before.
use Rattle.std.proofs.Common.{◌≡◌, ℕ, suc, ◌-◌, ◌<◌, cond, ◌⊎◌, List, [], ◌∷◌, length, get_or, set, ℤ, pos, negsuc, Some, None, Option, sym, refl, ap, ◌∙◌, subst, inl, inr, ⊎_elim, arith}
use Rattle.std.proofs.lemmas.List.{length-set}
use Rattle.std.proofs.lemmas.Bool.{cond_both, cases_eq, cases_lt}
use Rattle.cells.specs.declared.Cell.{Cell}
use Rattle.cells.specs.Cells.{at, nat, parent, is_leaf, child, child_codes, all_codes}
use Rattle.cells.specs.Placing.{Arrays, Spot, place, grow, extend, found_or, enter_from, enter}
use Rattle.cells.specs.Walking.{number_at, turned}
use Rattle.cells.specs.Trees.{Edge, Reach, Held}
use Rattle.cells.specs.Invariant.{Sound}
use Rattle.cells.specs.Laws.{Enters}
use Rattle.cells.specs.Counting.{in_use}
use Rattle.std.specs.List.{range_with_len}
use Rattle.std.specs.Prelude.{filter, nat_lt}
use Rattle.cells.proofs.Trees.{NotLeaf}
use Rattle.cells.proofs.Basics.{no_some, some_same, not_leaf, leaf_same, no_codes}
use Rattle.cells.proofs.Paths.{reach_some, reach_same}
use Rattle.cells.proofs.Walks.{Codes, begun, child_edge, edge_child, listing}
use Rattle.cells.proofs.Climbs.{turned_same, codes_from, held_number}
use Rattle.cells.proofs.Families.{first_of, some_of}
use Rattle.cells.proofs.Sounds.{Tidy, tidy_of, sound_of, inner_is, short_root, short_child}
use Rattle.cells.proofs.Grows.{then_some, place_ways, grow_well, grow_index, grow_wide}
use Rattle.cells.proofs.Numbers.{number_none, numbers_but}

-- a path that leads somewhere begins at the root
pub root_inner : (cs : List Cell) (a : ℕ) (p : List ℕ) (t : ℕ) → Reach cs (a ∷ p) t → (c : ℕ) × (u : ℕ) × Edge cs 1 c u
root_inner cs a [] t r = (a, t, subst (λ x. Edge cs x a t) r.1 r.2)
root_inner cs a (b ∷ p) t r = root_inner cs b p r.0 r.1

turned_some : (p : List ℕ) (a : ℕ) (q : List ℕ) → (c : ℕ) × (l : List ℕ) × (turned p (a ∷ q) ≡ c ∷ l)
turned_some [] a q = (a, q, refl)
turned_some (b ∷ p) a q = turned_some p b (a ∷ q)

-- the path p, its last code first, was entered
pub record Entered (cs : List Cell) (is : List ℕ) (p : List ℕ) (n : ℕ) (xs : Arrays) : Type 0 where
  pub tidy : Tidy xs.cells xs.index
  pub cells : length xs.cells ≡ length cs
  pub index : length xs.index ≡ length is
  pub fresh : (t : ℕ) → Reach cs p t → ⊥
  pub new : Held xs.cells p n
  pub held : (q : List ℕ) (m : ℕ) → Held cs q m → Held xs.cells q m
  pub held_again : (q : List ℕ) (m : ℕ) → Held xs.cells q m → Held cs q m ⊎ ((q ≡ p) × (n ≡ m))

module _ (cs : List Cell) (is : List ℕ) (n : ℕ) (h : Tidy cs is) (none : get_or is n 0 ≡ 0) where
  extend_well : (s a : ℕ) (q more : List ℕ) (xs : Arrays) → Reach cs q s → NotLeaf cs s → Codes (a ∷ more) → ((u : ℕ) → Edge cs s a u → ⊥) → extend more cs is s a n ≡ Some xs → Entered cs is (turned more (a ∷ q)) n xs
  extend_well s a q more xs way leafless cds fresh e =
      let k = then_some (grow more cs is s a (negsuc n)) (λ r. Some (record { cells = r.cells; index = set r.index n r.spot })) xs e in
      let r : Spot = k.0 in
      let w = grow_well cs is s a q more (negsuc n) r h.tree way leafless cds fresh k.1 in
      let ix = grow_index cs is s a q more n r h.tree way leafless cds fresh h.indexed none k.1 in
      let path = turned_some more a q in
      let kid = root_inner r.cells path.0 path.1 r.spot (subst (λ p. Reach r.cells p r.spot) path.2 w.new) in
      let one : ◌≡◌ {A = Arrays} (record { cells = r.cells; index = set r.index n r.spot }) xs = some_same _ xs k.2 in
      subst (Entered cs is (turned more (a ∷ q)) n) one (record {
        tidy = record {
          tree = w.tree;
          whole = λ t used nt. ⊎_elim (λ same. inl (n, ap (λ x. (at r.cells x).base) same ∙ w.base)) (λ ne. w.whole (λ u hu nu no. h.whole u hu nu) t used nt ne) (cases_eq t r.spot);
          bare = λ e'. absurd (no_codes (child_codes r.cells 1) e' (some_of r.cells 1 (child_codes r.cells 1) (listing r.cells 1 (omega arith)) kid.0 kid.1 kid.2));
          indexed = ix;
        };
        cells = w.long;
        index = length-set r.index n r.spot ∙ grow_wide cs is s a q more (negsuc n) r h.tree way leafless cds fresh k.1;
        fresh = λ t y.
            let b = begun cs more (a ∷ q) t y in
            let same : b.1.0 ≡ s = reach_same cs q b.1.0 s b.1.1 way in
            fresh b.0 (subst (λ x. Edge cs x a b.0) same b.1.2);
        new = (r.spot, w.new, w.base);
        held = w.held;
        held_again = λ p m y. ⊎_elim (λ o. inl o) (λ o. inr (o.0, leaf_same n m o.1)) (w.held_again p m y);
      })

  -- at one code, with what follows if its edge is there
  enter_step : (a : ℕ) (more q : List ℕ) (s : ℕ) (xs : Arrays) → Reach cs q s → Codes (a ∷ more) → ((t : ℕ) → Reach cs (a ∷ q) t → enter_from cs is t more n ≡ Some xs → Entered cs is (turned more (a ∷ q)) n xs)
      → (o : Option ℕ) → child cs s a ≡ o → found_or o (cond (is_leaf cs s) None (extend more cs is s a n)) (λ t. enter_from cs is t more n) ≡ Some xs → Entered cs is (turned more (a ∷ q)) n xs
  enter_step a more q s xs way cds on (Some t) is_t e = on t (s, way, child_edge cs s a cds.0.0 cds.0.1 t is_t) e
  enter_step a more q s xs way cds on None is_none e =
      cond_both (is_leaf cs s) None (extend more cs is s a n) (λ o. o ≡ Some xs → Entered cs is (turned more (a ∷ q)) n xs)
      (λ y e. absurd (no_some xs e))
      (λ y e. extend_well s a q more xs way (inner_is (at cs s).base y) cds (λ u g. no_some u (sym is_none ∙ edge_child cs s a (reach_some cs q s way) u g)) e)
      e

  pub enter_well : (p q : List ℕ) (s : ℕ) (xs : Arrays) → Reach cs q s → Codes p → enter_from cs is s p n ≡ Some xs → Entered cs is (turned p q) n xs
  enter_well [] q s xs way cds e = absurd (no_some xs e)
  enter_well (a ∷ more) q s xs way cds e = enter_step a more q s xs way cds (λ t w e. enter_well more (a ∷ q) t xs w cds.1 e) (child cs s a) refl e

-- fewer than two cells have no place
short_place : (cs : List Cell) (is : List ℕ) (a : ℕ) (z : ℤ) (r : Spot) → length cs < 2 → 0 < a → place cs is 1 a z ≡ Some r → ⊥
short_place cs is a z r short some e =
    ⊎_elim
    (λ h.
    let k = first_of cs 1 (child_codes cs 1) (listing cs 1 (omega arith)) h.0 in
    omega (arith, k.2.inner, ap (λ c. nat c.base) (short_root cs short)))
    (λ h. omega (arith, h.1, (h.2 a (inl refl)).0))
    (place_ways cs is 1 a z r e)

short_grow : (cs : List Cell) (is : List ℕ) (a : ℕ) (more : List ℕ) (z : ℤ) (r : Spot) → length cs < 2 → 0 < a → grow more cs is 1 a z ≡ Some r → ⊥
short_grow cs is a [] z r short some e = short_place cs is a z r short some e
short_grow cs is a (b ∷ more) z r short some e =
    let k = then_some (place cs is 1 a (pos 0)) (λ x. grow more x.cells x.index x.spot b z) r e in
    short_place cs is a (pos 0) k.0 short some k.1

short_enter : (cs : List Cell) (is p : List ℕ) (n : ℕ) (xs : Arrays) → length cs < 2 → Codes p → enter_from cs is 1 p n ≡ Some xs → ⊥
short_enter cs is [] n xs short cds e = no_some xs e
short_enter cs is (a ∷ more) n xs short cds e =
    cond_both (is_leaf cs 1) None (extend more cs is 1 a n) (λ o. o ≡ Some xs → ⊥)
    (λ y e. no_some xs e)
    (λ y e.
    let k = then_some (grow more cs is 1 a (negsuc n)) (λ r. Some (record { cells = r.cells; index = set r.index n r.spot })) xs e in
    short_grow cs is a more (negsuc n) k.0 short cds.0.0 k.1)
    (ap (λ o. found_or o (cond (is_leaf cs 1) None (extend more cs is 1 a n)) (λ t. enter_from cs is t more n)) (sym (short_child cs short a)) ∙ e)

pub entering : (cs : List Cell) (is p : List ℕ) (n : ℕ) (xs : Arrays) → Sound cs is → get_or is n 0 ≡ 0 → enter cs is p n ≡ Some xs → Enters cs is p n xs
entering cs is p n xs h none =
    cond_both (all_codes p) (enter_from cs is 1 p n) None (λ o. o ≡ Some xs → Enters cs is p n xs)
    (λ c e. ⊎_elim
    (λ short. absurd (short_enter cs is p n xs short (codes_from p c) e))
    (λ long.
    let w = enter_well cs is n (tidy_of cs is h (omega arith)) none p [] 1 xs refl (codes_from p c) e in
    record {
      sound = sound_of xs.cells xs.index w.tidy;
      cells = w.cells;
      index = w.index;
      new = number_none cs p (λ m y. w.fresh y.0 y.1);
      after = numbers_but cs xs.cells p (Some (suc n)) (held_number xs.cells p n w.new)
          (λ q m ne y. w.held (turned q []) m y)
          (λ q m ne y. ⊎_elim (λ o. o) (λ o. absurd (ne (turned_same q p o.0))) (w.held_again (turned q []) m y));
    })
    (cases_lt (length cs) 2))
    (λ c e. absurd (no_some xs e))

-- nor do they hold one
short_held : (cs : List Cell) (p : List ℕ) (n : ℕ) → length cs < 2 → Held cs p n → ⊥
short_held cs [] n few h = not_leaf 0 n (sym (ap (λ c. c.base) (short_root cs few)) ∙ ap (λ t. (at cs t).base) (sym h.1) ∙ h.2)
short_held cs (a ∷ p) n few h =
    let edge = (root_inner cs a p h.0 h.1).2 in
    omega (arith, edge.inner, ap (λ c. nat c.base) (short_root cs few))

pub short : (cs : List Cell) (is p : List ℕ) (n : ℕ) → length cs < 2 → (number_at cs p ≡ None) × (enter cs is p n ≡ None) × (in_use cs ≡ 0)
short cs is p n few = (
  number_none cs p (λ m h. short_held cs (turned p []) m few h),
  by (enter cs is p n) refl,
  ap (λ (k : ℕ). length (filter (λ t. nat_lt 0 (parent cs t)) (range_with_len 1 k))) none,
)
  where
    none : length cs - 1 ≡ 0
    none = omega arith

    by : (o : Option Arrays) → enter cs is p n ≡ o → enter cs is p n ≡ None
    by None e = e
    by (Some xs) e = absurd (cond_both (all_codes p) (enter_from cs is 1 p n) None (λ o. o ≡ Some xs → ⊥) (λ c e. short_enter cs is p n xs few (codes_from p c) e) (λ c e. no_some xs e) e)
