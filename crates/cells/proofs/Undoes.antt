-- At most one family moves while a path grows, and what grew is undone exactly.
use Rattle.std.proofs.Common.{◌≡◌, ℕ, suc, ◌+◌, ◌<◌, true, eqb, ◌⊎◌, List, [], ◌∷◌, length, get_or, set, ℤ, pos, negsuc, is_some, Some, None, Option, sym, refl, ap, ◌∙◌, subst, inl, inr, ⊎_elim, arith}
use Rattle.std.proofs.lemmas.List.{get_or-set_same, get_or-set_other, set-set, set-get_or}
use Rattle.std.proofs.lemmas.Bool.{cond-true, cond-false, eq-eqb, ne_eqb, cases_eq}
use Rattle.cells.specs.declared.Cell.{Cell}
use Rattle.cells.specs.Cells.{free_cell, at, nat, base_of, parent, child, child_codes}
use Rattle.cells.specs.Placing.{relocated, index_relocated, placed, Spot, place, grow, freed_up, moved_back, undo}
use Rattle.members.specs.Lists.{In}
use Rattle.cells.specs.Trees.{Edge, Reach, Room}
use Rattle.cells.specs.Invariant.{Sound}
use Rattle.cells.specs.Laws.{Open, Stays}
use Rattle.cells.proofs.Trees.{Tree, Lone, NotLeaf, Family}
use Rattle.cells.proofs.Basics.{no_some, not_leaf}
use Rattle.cells.proofs.Paths.{edge_up, reach_some, reach_used}
use Rattle.cells.proofs.Counts.{within}
use Rattle.cells.proofs.Walks.{Codes, child_edge, edge_child, listing}
use Rattle.cells.proofs.Climbs.{codes_from}
use Rattle.cells.proofs.Relocations.{nat_is, FamilyMoved, moves_all, moves_well}
use Rattle.cells.proofs.Returns.{base_s, used_s, edge_s, family_after, room_after, returning}
use Rattle.cells.proofs.Places.{free_m, long_m}
use Rattle.cells.proofs.Leaves.{Indexed, index_moved, index_unique, length_index_moves}
use Rattle.cells.proofs.Families.{first_of, lone_codes, codes_same}
use Rattle.cells.proofs.Sounds.{Tidy, tidy_of, reach_of, inner_is, inner_base}
use Rattle.cells.proofs.Grows.{then_some, Here, There, place_ways, place_well, place_lone, place_none}

-- a node without children gets one: only its BASE changes besides
pub record Lent (cs : List Cell) (is : List ℕ) (s a : ℕ) (z : ℤ) (r : Spot) (e : ℕ) : Type 0 where
  pub fits : e + a < length cs
  pub free : parent cs (e + a) ≡ 0
  pub after : record { cells = set (set cs s (record { base = pos e; check = (at cs s).check })) (e + a) (record { base = z; check = pos s }); index = is; spot = e + a } ≡ r

pub lone_place : (cs : List Cell) (is : List ℕ) (s a : ℕ) (z : ℤ) (r : Spot) → 0 < s → Lone cs s → There cs is s a z r → (e : ℕ) × Lent cs is s a z r e
lone_place cs is s a z r some lone h =
    let codes : child_codes cs s ≡ [] = lone_codes cs s (child_codes cs s) (listing cs s some) lone in
    let e : ℕ = h.0 in (
      e,
      record {
        fits = (h.2 a (inl refl)).0;
        free = (h.2 a (inl refl)).1;
        after = subst (λ l. ◌≡◌ {A = Spot} (record { cells = placed cs s l e a z; index = index_relocated cs is s l e; spot = e + a }) r) codes h.3;
      },
    )

no_here : (cs : List Cell) (is : List ℕ) (s a : ℕ) (z : ℤ) (r : Spot) → 0 < s → Lone cs s → Here cs is s a z r → ⊥
no_here cs is s a z r some lone h = let k = first_of cs s (child_codes cs s) (listing cs s some) h.0 in lone k.0 k.1 k.2

pub lone_lent : (cs : List Cell) (is : List ℕ) (s a : ℕ) (z : ℤ) (r : Spot) → 0 < s → Lone cs s → place cs is s a z ≡ Some r → (e : ℕ) × Lent cs is s a z r e
lone_lent cs is s a z r some lone e =
    ⊎_elim {C = (e : ℕ) × Lent cs is s a z r e} (λ h. absurd (no_here cs is s a z r some lone h)) (lone_place cs is s a z r some lone) (place_ways cs is s a z r e)

-- it leaves every other cell and the index
place_stays : (cs : List Cell) (is : List ℕ) (s a : ℕ) (z : ℤ) (r : Spot) → 0 < s → Lone cs s → place cs is s a z ≡ Some r → (r.index ≡ is) × ((j : ℕ) → 0 < parent cs j → (j ≡ s → ⊥) → at r.cells j ≡ at cs j)
place_stays cs is s a z r some lone e =
    let k = lone_lent cs is s a z r some lone e in
    let d : ℕ = k.0 in
    subst (λ x. (x.index ≡ is) × ((j : ℕ) → 0 < parent cs j → (j ≡ s → ⊥) → at x.cells j ≡ at cs j)) k.1.after (
      refl,
      λ j used ns.
          get_or-set_other (set cs s (record { base = pos d; check = (at cs s).check })) (d + a) j (record { base = z; check = pos s }) free_cell (λ y. omega (arith, k.1.free, ap (parent cs) y))
          ∙ get_or-set_other cs s j (record { base = pos d; check = (at cs s).check }) free_cell ns,
    )

-- and so does what grows from it
pub grow_stays : (cs : List Cell) (is : List ℕ) (s a : ℕ) (q more : List ℕ) (z : ℤ) (r : Spot) → Tree cs → Reach cs q s → NotLeaf cs s → Codes (a ∷ more) → Lone cs s → grow more cs is s a z ≡ Some r
    → (r.index ≡ is) × ((j : ℕ) → 0 < parent cs j → (j ≡ s → ⊥) → at r.cells j ≡ at cs j)
grow_stays cs is s a q [] z r tree way leafless cds lone e = place_stays cs is s a z r (reach_some cs q s way) lone e
grow_stays cs is s a q (b ∷ more) z r tree way leafless cds lone e =
    let k = then_some (place cs is s a (pos 0)) (λ x. grow more x.cells x.index x.spot b z) r e in
    let f : Spot = k.0 in
    let fresh = λ (u : ℕ). lone a u in
    let w = (place_well cs is s a q (pos 0) tree way cds.0.0 cds.0.1 leafless fresh f k.1).1 in
    let one = place_stays cs is s a (pos 0) f (reach_some cs q s way) lone k.1 in
    let d = lone_lent cs is s a (pos 0) f (reach_some cs q s way) lone k.1 in
    let rest = grow_stays f.cells f.index f.spot b (a ∷ q) more z r w.tree w.new (λ m y. not_leaf 0 m (sym w.base ∙ y)) cds.1
    (place_lone cs is s a q (pos 0) tree way cds.0.0 cds.0.1 leafless fresh f k.1) k.2 in (
      rest.0 ∙ one.0,
      λ j used ns.
          let same = one.1 j used ns in
          let nf : j ≡ f.spot → ⊥ = λ y. omega (arith, used, d.1.free, ap (parent cs) (y ∙ sym (ap (λ x. x.spot) d.1.after))) in
          rest.1 j (omega (arith, ap (λ c. nat c.check) same)) nf ∙ same,
    )

-- the cells before the new one was written
abbrev pub mid_of : (cs : List Cell) (is : List ℕ) (s a : ℕ) (z : ℤ) (r : Spot) → Here cs is s a z r ⊎ There cs is s a z r → List Cell
mid_of cs is s a z r (inl h) = cs
mid_of cs is s a z r (inr h) = relocated cs s (child_codes cs s) h.0

-- a cell that was free is freed again
free_again : (ms : List Cell) (t : ℕ) (x : Cell) → at ms t ≡ free_cell → set (set ms t x) t free_cell ≡ ms
free_again ms t x e = set-set ms t x free_cell ∙ ap (set ms t) (sym e) ∙ set-get_or ms t free_cell

freed_site : (ms : List Cell) (t s : ℕ) (z : ℤ) (m : ℕ) → Tree ms → parent ms t ≡ 0 → t < length ms → freed_up (suc m) (set ms t (record { base = z; check = pos s })) t ≡ freed_up m ms s
freed_site ms t s z m tree free fits =
    let new : Cell = record { base = z; check = pos s } in
    ap (λ l. freed_up m l (parent (set ms t new) t)) (free_again ms t new (tree.blanks t free))
    ∙ ap (λ c. freed_up m ms (nat c.check)) (get_or-set_same ms t new free_cell fits)

module _ (cs : List Cell) (is : List ℕ) (s a : ℕ) (q : List ℕ) (z : ℤ) (tree : Tree cs) (way : Reach cs q s) (some : 0 < a) (code : a < 258) (leafless : NotLeaf cs s) (fresh : (u : ℕ) → Edge cs s a u → ⊥) where
  fam : Family cs s (child_codes cs s)
  fam = listing cs s (reach_some cs q s way)

  new_code : In (child_codes cs s) a → ⊥
  new_code i = fresh (base_of cs s + a) (fam.sound a i)

  used : 0 < parent cs s
  used = reach_used cs tree q s way

  pub freed_one : (r : Spot) (m : ℕ) (w : Here cs is s a z r ⊎ There cs is s a z r) → freed_up (suc m) r.cells r.spot ≡ freed_up m (mid_of cs is s a z r w) s
  freed_one r m (inl h) = subst (λ x. freed_up (suc m) x.cells x.spot ≡ freed_up m cs s) h.3 (freed_site cs (base_of cs s + a) s z m tree h.2 h.1)
  freed_one r m (inr h) =
      let e : ℕ = h.0 in
      let ms : List Cell = relocated cs s (child_codes cs s) e in
      let room : Room cs (child_codes cs s) e = λ c i. h.2 c (inr i) in
      subst (λ x. freed_up (suc m) x.cells x.spot ≡ freed_up m ms s) h.3
      (freed_site ms (e + a) s z m (moves_well cs s (child_codes cs s) e tree used h.1 fam room).tree
      (free_m cs s a q (child_codes cs s) e z tree way fam new_code h.1 h.2)
      (omega (arith, long_m cs s a q (child_codes cs s) e z tree way fam new_code h.1 h.2, (h.2 a (inl refl)).0)))

-- m and the number of the codes
abbrev pub steps : List ℕ → ℕ → ℕ
steps [] m = suc m
steps (b ∷ more) m = steps more (suc m)

pub steps_is : (more : List ℕ) (m : ℕ) → steps more m ≡ suc (length more + m)
steps_is [] m = omega arith
steps_is (b ∷ more) m = omega (arith, steps_is more (suc m))

-- the new cells of a path are freed from its tip up, and leave what stood before the first of them was written
pub record FreedUp (cs : List Cell) (is : List ℕ) (s a : ℕ) (more : List ℕ) (r : Spot) : Type 0 where
  pub base : ℤ
  pub first : Spot
  pub way : Here cs is s a base first ⊎ There cs is s a base first
  pub index : r.index ≡ first.index
  pub freed : (m : ℕ) → freed_up (steps more m) r.cells r.spot ≡ freed_up m (mid_of cs is s a base first way) s

-- the same where the node is new
lone_freed : (fs : List Cell) (is : List ℕ) (t b : ℕ) (more : List ℕ) (r : Spot) → 0 < t → t < length fs → Lone fs t → FreedUp fs is t b more r → (m : ℕ) → freed_up (steps more (suc m)) r.cells r.spot ≡ freed_up (suc m) fs t
lone_freed fs is t b more r some fits lone k m = k.freed (suc m) ∙ by k.way
  where
    by : (w : Here fs is t b k.base k.first ⊎ There fs is t b k.base k.first) → freed_up (suc m) (mid_of fs is t b k.base k.first w) t ≡ freed_up (suc m) fs t
    by (inl h) = absurd (no_here fs is t b k.base k.first some lone h)
    by (inr h) =
        let new : Cell = record { base = pos h.0; check = (at fs t).check } in
        ap (λ l. freed_up (suc m) (relocated fs t l h.0) t) (lone_codes fs t (child_codes fs t) (listing fs t some) lone)
        ∙ ap (λ l. freed_up m l (parent (set fs t new) t)) (set-set fs t new free_cell)
        ∙ ap (λ c. freed_up m (set fs t free_cell) (nat c.check)) (get_or-set_same fs t new free_cell fits)

pub grow_freed : (cs : List Cell) (is : List ℕ) (s a : ℕ) (q more : List ℕ) (z : ℤ) (r : Spot) → Tree cs → Reach cs q s → NotLeaf cs s → Codes (a ∷ more) → ((u : ℕ) → Edge cs s a u → ⊥) → grow more cs is s a z ≡ Some r → FreedUp cs is s a more r
grow_freed cs is s a q [] z r tree way leafless cds fresh e =
    let w = place_ways cs is s a z r e in
    record { base = z; first = r; way = w; index = refl; freed = λ m. freed_one cs is s a q z tree way cds.0.0 cds.0.1 leafless fresh r m w }
grow_freed cs is s a q (b ∷ more) z r tree way leafless cds fresh e =
    let k = then_some (place cs is s a (pos 0)) (λ x. grow more x.cells x.index x.spot b z) r e in
    let f : Spot = k.0 in
    let w = (place_well cs is s a q (pos 0) tree way cds.0.0 cds.0.1 leafless fresh f k.1).1 in
    let lone : Lone f.cells f.spot = place_lone cs is s a q (pos 0) tree way cds.0.0 cds.0.1 leafless fresh f k.1 in
    let open_f : NotLeaf f.cells f.spot = λ m y. not_leaf 0 m (sym w.base ∙ y) in
    let used_f : 0 < parent f.cells f.spot = reach_used f.cells w.tree (a ∷ q) f.spot w.new in
    let rest = grow_freed f.cells f.index f.spot b (a ∷ q) more z r w.tree w.new open_f cds.1 (lone b) k.2 in
    let ways = place_ways cs is s a (pos 0) f k.1 in
    record {
      base = pos 0;
      first = f;
      way = ways;
      index = (grow_stays f.cells f.index f.spot b (a ∷ q) more z r w.tree w.new open_f cds.1 lone k.2).0;
      freed = λ m.
          lone_freed f.cells f.index f.spot b more r (reach_some f.cells (a ∷ q) f.spot w.new) (within f.cells f.spot used_f) lone rest m
          ∙ freed_one cs is s a q (pos 0) tree way cds.0.0 cds.0.1 leafless fresh f m ways;
    }

-- a test that two answers pass alike
same_some : (x y : Option ℕ) → ((u : ℕ) → x ≡ Some u → is_some y ≡ true) → ((u : ℕ) → y ≡ Some u → is_some x ≡ true) → is_some x ≡ is_some y
same_some None None f g = refl
same_some None (Some u) f g = g u refl
same_some (Some u) y f g = sym (f u refl)

-- the family of s moved to the base e, and moves back
module _ (cs : List Cell) (is : List ℕ) (s e : ℕ) (h : Tidy cs is) (used : 0 < parent cs s) (leafless : NotLeaf cs s) (low_e : 0 < e) (room : Room cs (child_codes cs s) e) where
  abbrev codes : List ℕ
  codes = child_codes cs s

  abbrev ms : List Cell
  ms = relocated cs s codes e

  abbrev js : List ℕ
  js = index_relocated cs is s codes e

  some_s : 0 < s
  some_s = reach_some cs (h.tree.reach s used).0 s (h.tree.reach s used).1

  fam_s : Family cs s codes
  fam_s = listing cs s some_s

  inner : 0 < base_of cs s
  inner = inner_base cs is h s used leafless

  m : FamilyMoved cs s e ms
  m = moves_all cs s codes e h.tree used low_e fam_s room

  fam_m : Family ms s codes
  fam_m = family_after cs s codes e h.tree used low_e inner fam_s room

  base_m : (at ms s).base ≡ pos e
  base_m = base_s cs ms s e h.tree used low_e m

  pub codes_m : child_codes ms s ≡ codes
  codes_m =
      sym (codes_same cs ms s 258 (λ a lo hi. same_some (child cs s a) (child ms s a)
      (λ u k. ap is_some (edge_child ms s a some_s (m.to u) (edge_s cs ms s e h.tree used low_e m a u (child_edge cs s a lo hi u k))))
      (λ u k. ap is_some (edge_child cs s a some_s (base_of cs s + a) (fam_s.sound a (fam_m.whole a u (child_edge ms s a lo hi u k)))))))

  cells_back : relocated ms s codes (base_of cs s) ≡ cs
  cells_back = returning cs s codes e h.tree used low_e inner fam_s room

  index_back : index_relocated ms js s codes (base_of cs s) ≡ is
  index_back =
      let ix = index_moved ms s codes (base_of cs s) (moves_well cs s codes e h.tree used low_e fam_s room).tree (used_s cs ms s e h.tree used low_e m) inner fam_m
      (room_after cs s codes e h.tree used low_e inner fam_s room) js (λ n y. not_leaf e n (sym base_m ∙ y)) (index_moved cs s codes e h.tree used low_e fam_s room is leafless h.indexed) in
      index_unique cs (index_relocated ms js s codes (base_of cs s)) is
      (length_index_moves (base_of ms s) (base_of cs s) ms js codes ∙ length_index_moves (base_of cs s) e cs is codes)
      (subst (λ l. Indexed l (index_relocated ms js s codes (base_of cs s))) cells_back ix) h.indexed

  -- at its own base only a node without children finds room
  no_codes : e ≡ base_of cs s → codes ≡ []
  no_codes same = lone_codes cs s codes fam_s (λ a u k.
      let i = fam_s.whole a u k in
      omega (arith, some_s, (room a i).1, ap (λ x. parent cs (x + a)) same, edge_up cs s a (base_of cs s + a) (fam_s.sound a i)))

  pub all_back : moved_back ms js s (base_of cs s) ≡ record { cells = cs; index = is }
  all_back =
      ⊎_elim
      (λ same.
      let base : (at cs s).base ≡ pos e = nat_is (at cs s).base inner ∙ ap pos (sym same) in
      let cell : ◌≡◌ {A = Cell} (record { base = pos e; check = (at cs s).check }) (at cs s) = ap (λ z. record { base = z; check = (at cs s).check }) (sym base) in
      cond-true (eqb (base_of ms s) (base_of cs s)) (record { cells = ms; index = js }) _ (eq-eqb (base_of ms s) (base_of cs s) (ap nat base_m ∙ same))
      ∙ ap (λ l. record { cells = relocated cs s l e; index = index_relocated cs is s l e }) (no_codes same)
      ∙ ap (λ l. record { cells = l; index = is }) (ap (set cs s) cell ∙ set-get_or cs s free_cell))
      (λ ne.
      cond-false (eqb (base_of ms s) (base_of cs s)) (record { cells = ms; index = js }) _ (ne_eqb (base_of ms s) (base_of cs s) (λ y. ne (sym (ap nat base_m) ∙ y)))
      ∙ ap (λ l. record { cells = relocated ms s l (base_of cs s); index = index_relocated ms js s l (base_of cs s) }) codes_m
      ∙ ap (λ l. record { cells = l; index = index_relocated ms js s codes (base_of cs s) }) cells_back
      ∙ ap (λ l. record { cells = cs; index = l }) index_back)
      (cases_eq e (base_of cs s))

pub fresh_from : (cs : List Cell) (s a : ℕ) → 0 < s → child cs s a ≡ None → (u : ℕ) → Edge cs s a u → ⊥
fresh_from cs s a some none u g = no_some u (sym none ∙ edge_child cs s a some u g)

module _ (cs : List Cell) (is : List ℕ) (s : ℕ) (h : Sound cs is) (used : 0 < parent cs s) where
  pub way_s : (p : List ℕ) × Reach cs p s
  way_s = reach_of cs is h s used

  pub tidy_s : Tidy cs is
  tidy_s = tidy_of cs is h (omega (arith, within cs s used, reach_some cs way_s.0 s way_s.1))

pub moving : (cs : List Cell) (is : List ℕ) (s a b : ℕ) (more : List ℕ) (z : ℤ) (f r : Spot) → Sound cs is → Open cs s (a ∷ b ∷ more) → child cs s a ≡ None
    → place cs is s a (pos 0) ≡ Some f → grow more f.cells f.index f.spot b z ≡ Some r → Stays f r
moving cs is s a b more z f r h o none e g =
    let way = way_s cs is s h o.used in
    let tree = (tidy_s cs is s h o.used).tree in
    let cds : Codes (a ∷ b ∷ more) = codes_from (a ∷ b ∷ more) o.path in
    let leafless : NotLeaf cs s = inner_is (at cs s).base o.inner in
    let fresh = fresh_from cs s a (reach_some cs way.0 s way.1) none in
    let w = (place_well cs is s a way.0 (pos 0) tree way.1 cds.0.0 cds.0.1 leafless fresh f e).1 in
    let k = grow_stays f.cells f.index f.spot b (a ∷ way.0) more z r w.tree w.new (λ m y. not_leaf 0 m (sym w.base ∙ y)) cds.1
    (place_lone cs is s a way.0 (pos 0) tree way.1 cds.0.0 cds.0.1 leafless fresh f e) g in
    record { index = k.0; cells = k.1 }

pub undoing : (cs : List Cell) (is : List ℕ) (s a : ℕ) (more : List ℕ) (z : ℤ) (r : Spot) → Sound cs is → Open cs s (a ∷ more) → child cs s a ≡ None
    → grow more cs is s a z ≡ Some r → undo r.cells r.index s (base_of cs s) (1 + length more) r.spot ≡ record { cells = cs; index = is }
undoing cs is s a more z r h o none e =
    let way = way_s cs is s h o.used in
    let tidy = tidy_s cs is s h o.used in
    let leafless : NotLeaf cs s = inner_is (at cs s).base o.inner in
    let fresh = fresh_from cs s a (reach_some cs way.0 s way.1) none in
    let k = grow_freed cs is s a way.0 more z r tidy.tree way.1 leafless (codes_from (a ∷ more) o.path) fresh e in
    let count : 1 + length more ≡ steps more 0 = omega (arith, steps_is more 0) in
    ap (λ n. undo r.cells r.index s (base_of cs s) n r.spot) count
    ∙ ap (λ l. moved_back l r.index s (base_of cs s)) (k.freed 0)
    ∙ ap (λ l. moved_back (mid_of cs is s a k.base k.first k.way) l s (base_of cs s)) k.index
    ∙ by tidy leafless k.base k.first k.way
  where
    by : Tidy cs is → NotLeaf cs s → (y : ℤ) (f : Spot) (w : Here cs is s a y f ⊎ There cs is s a y f) → moved_back (mid_of cs is s a y f w) f.index s (base_of cs s) ≡ record { cells = cs; index = is }
    by tidy leafless y f (inl k) =
        ap (λ l. moved_back cs l s (base_of cs s)) (sym (ap (λ x. x.index) k.3))
        ∙ cond-true (eqb (base_of cs s) (base_of cs s)) (record { cells = cs; index = is }) _ (eq-eqb (base_of cs s) (base_of cs s) refl)
    by tidy leafless y f (inr k) =
        ap (λ l. moved_back (relocated cs s (child_codes cs s) k.0) l s (base_of cs s)) (sym (ap (λ x. x.index) k.3))
        ∙ all_back cs is s k.0 tidy o.used leafless k.1 (λ c i. k.2 c (inr i))

-- a number without a leaf has none after a path with another grew
grow_zero : (cs : List Cell) (is : List ℕ) (s a : ℕ) (q more : List ℕ) (z : ℤ) (r : Spot) (n : ℕ) → Tree cs → Reach cs q s → NotLeaf cs s → Codes (a ∷ more) → ((u : ℕ) → Edge cs s a u → ⊥) → Indexed cs is → get_or is n 0 ≡ 0
    → grow more cs is s a z ≡ Some r → get_or r.index n 0 ≡ 0
grow_zero cs is s a q [] z r n tree way leafless cds fresh ix none e = place_none cs is s a q z tree way cds.0.0 cds.0.1 leafless fresh r e n ix none
grow_zero cs is s a q (b ∷ more) z r n tree way leafless cds fresh ix none e =
    let k = then_some (place cs is s a (pos 0)) (λ x. grow more x.cells x.index x.spot b z) r e in
    let f : Spot = k.0 in
    let w = (place_well cs is s a q (pos 0) tree way cds.0.0 cds.0.1 leafless fresh f k.1).1 in
    let stays = grow_stays f.cells f.index f.spot b (a ∷ q) more z r w.tree w.new (λ m y. not_leaf 0 m (sym w.base ∙ y)) cds.1
    (place_lone cs is s a q (pos 0) tree way cds.0.0 cds.0.1 leafless fresh f k.1) k.2 in
    ap (λ l. get_or l n 0) stays.0 ∙ place_none cs is s a q (pos 0) tree way cds.0.0 cds.0.1 leafless fresh f k.1 n ix none

pub taking_back : (cs : List Cell) (is : List ℕ) (s a : ℕ) (more : List ℕ) (n : ℕ) (r : Spot) → Sound cs is → Open cs s (a ∷ more) → child cs s a ≡ None → get_or is n 0 ≡ 0
    → grow more cs is s a (negsuc n) ≡ Some r → undo r.cells (set (set r.index n r.spot) n 0) s (base_of cs s) (1 + length more) r.spot ≡ record { cells = cs; index = is }
taking_back cs is s a more n r h o none zero_n e =
    let way = way_s cs is s h o.used in
    let tidy = tidy_s cs is s h o.used in
    let leafless : NotLeaf cs s = inner_is (at cs s).base o.inner in
    let fresh = fresh_from cs s a (reach_some cs way.0 s way.1) none in
    let still = grow_zero cs is s a way.0 more (negsuc n) r n tidy.tree way.1 leafless (codes_from (a ∷ more) o.path) fresh tidy.indexed zero_n e in
    let same : set (set r.index n r.spot) n 0 ≡ r.index = set-set r.index n r.spot 0 ∙ ap (set r.index n) (sym still) ∙ set-get_or r.index n 0 in
    ap (λ l. undo r.cells l s (base_of cs s) (1 + length more) r.spot) same ∙ undoing cs is s a more (negsuc n) r h o none e
