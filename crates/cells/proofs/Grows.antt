-- A node gets a child, and a path grows from it.
use Rattle.std.proofs.Common.{◌≡◌, ℕ, ◌+◌, ◌<◌, true, ◌&&◌, ◌⊎◌, List, [], ◌∷◌, ◌++◌, length, get_or, set, ℤ, pos, negsuc, Some, None, Option, sym, refl, ap, ◌∙◌, subst, inl, inr, ⊎_elim, arith, length-append}
use Rattle.std.proofs.lemmas.List.{get_or_past, length-set}
use Rattle.std.proofs.lemmas.Bool.{cond_both, and_parts, cases_eq, cases_lt}
use Rattle.cells.specs.declared.Cell.{Cell}
use Rattle.cells.specs.Cells.{at, nat, base_of, parent, is_free, child_codes, some_code}
use Rattle.cells.specs.Placing.{lowest, Lowest, relocated, index_relocated, placed, Spot, placed_at, place, grow}
use Rattle.cells.specs.Walking.{onward, turned}
use Rattle.members.specs.Lists.{In}
use Rattle.cells.specs.Trees.{Edge, Reach, Held, Room}
use Rattle.cells.proofs.Trees.{Tree, Lone, NotLeaf, WholeBut, Family}
use Rattle.cells.proofs.Changes.{Placed}
pub use Rattle.cells.proofs.Basics.{no_some, some_same}
use Rattle.cells.proofs.Basics.{not_leaf}
use Rattle.cells.proofs.Lowests.{decides_free, lowest_holds}
use Rattle.cells.proofs.Paths.{reach_some, reach_same, reach_used}
use Rattle.cells.proofs.Walks.{Codes, listing}
use Rattle.members.proofs.Members.{in_front, in_rest}
use Rattle.cells.proofs.Relocations.{moves_well}
use Rattle.cells.proofs.Returns.{held_again}
use Rattle.cells.proofs.Places.{taking, placing, free_m, long_m, m}
use Rattle.cells.proofs.Leaves.{Indexed, index_moved, index_open, index_leaf, leaf_used, length_index_moves}
use Rattle.cells.proofs.Families.{room_from, inner_of}

pub then_some : {X : Type 0} (o : Option Spot) (g : Spot → Option X) (x : X) → onward o g ≡ Some x → (r : Spot) × (o ≡ Some r) × (g r ≡ Some x)
then_some None g x e = absurd (no_some x e)
then_some (Some r) g x e = (r, refl, e)

-- the two ways in which a child is placed: at the BASE that its parent has, or after the family has moved
module _ (cs : List Cell) (is : List ℕ) (s a : ℕ) (z : ℤ) where
  abbrev pub Here : Spot → Type 0
  Here r = (some_code (child_codes cs s) ≡ true) × (base_of cs s + a < length cs) × (parent cs (base_of cs s + a) ≡ 0)
      × (record { cells = set cs (base_of cs s + a) (record { base = z; check = pos s }); index = is; spot = base_of cs s + a } ≡ r)

  abbrev pub There : Spot → Type 0
  There r = (e : ℕ) × (0 < e) × Room cs (a ∷ (child_codes cs s)) e × (record { cells = placed cs s (child_codes cs s) e a z; index = index_relocated cs is s (child_codes cs s) e; spot = e + a } ≡ r)

  found : (o : Option ℕ) → Lowest cs ((child_codes cs s) ++ a ∷ []) o → (r : Spot) → placed_at cs is s (child_codes cs s) a z o ≡ Some r → Here r ⊎ There r
  found None h r e = absurd (no_some r e)
  found (Some b) h r e =
      let room : Room cs ((child_codes cs s) ++ a ∷ []) b = room_from cs ((child_codes cs s) ++ a ∷ []) b h.1 in
      inr (b, h.0, (λ c i. room c (⊎_elim (λ k. in_rest (child_codes cs s) (a ∷ []) c (inl k)) (λ k. in_front (child_codes cs s) (a ∷ []) c k) i)), some_same _ r e)

  pub place_ways : (r : Spot) → place cs is s a z ≡ Some r → Here r ⊎ There r
  place_ways r =
      cond_both (some_code (child_codes cs s) && is_free cs (base_of cs s + a)) _ _ (λ o. o ≡ Some r → Here r ⊎ There r)
      (λ t e.
      let h = and_parts _ _ t in
      let k = (decides_free cs (base_of cs s + a)).0 h.1 in
      inl (h.0, k.0, ap nat k.2, some_same _ r e))
      (λ t e. found (lowest cs ((child_codes cs s) ++ a ∷ [])) (lowest_holds cs ((child_codes cs s) ++ a ∷ []) (omega (arith, length-append (child_codes cs s) (a ∷ [])))) r e)

-- a child was placed: the cells before it was written are mid
pub record Site (cs : List Cell) (is : List ℕ) (s : ℕ) (z : ℤ) (r : Spot) : Type 0 where
  pub mid : List Cell
  pub cells : r.cells ≡ set mid r.spot (record { base = z; check = pos s })
  pub tree : Tree mid
  pub free : parent mid r.spot ≡ 0
  pub fits : r.spot < length mid
  pub long : length mid ≡ length cs
  pub wide : length r.index ≡ length is
  pub indexed : Indexed cs is → Indexed mid r.index
  pub kept : (p : List ℕ) (n : ℕ) → Held mid p n → Held cs p n

module _ (cs : List Cell) (is : List ℕ) (s a : ℕ) (q : List ℕ) (z : ℤ) (tree : Tree cs) (way : Reach cs q s) (some : 0 < a) (code : a < 258) (leafless : NotLeaf cs s) (fresh : (u : ℕ) → Edge cs s a u → ⊥) where
  abbrev codes : List ℕ
  codes = child_codes cs s

  fam : Family cs s codes
  fam = listing cs s (reach_some cs q s way)

  new_code : In codes a → ⊥
  new_code i = fresh (base_of cs s + a) (fam.sound a i)

  used : 0 < parent cs s
  used = reach_used cs tree q s way

  abbrev Well : Spot → Type 0
  Well r = (f : ℕ → ℕ) × Placed cs r.cells s (a ∷ q) r.spot z f

  pub place_well : (r : Spot) → place cs is s a z ≡ Some r → Well r
  place_well r e =
      ⊎_elim {C = Well r}
      (λ h. subst Well h.3 ((λ u. u), taking cs s a q z tree way some code (inner_of cs s codes fam h.0) h.1 h.2))
      (λ h. let all = placing cs s a q codes h.0 z tree way some code leafless fam new_code h.1 h.2 in subst Well h.3 (all.0, all.2))
      (place_ways cs is s a z r e)

  pub place_site : (r : Spot) → place cs is s a z ≡ Some r → Site cs is s z r
  place_site r e =
      ⊎_elim {C = Site cs is s z r}
      (λ h. subst (Site cs is s z) h.3 (record {
        mid = cs;
        cells = refl;
        tree = tree;
        free = h.2;
        fits = h.1;
        long = refl;
        wide = refl;
        indexed = λ ix. ix;
        kept = λ p n k. k;
      }))
      (λ h.
      let b : ℕ = h.0 in
      let room : Room cs codes b = λ c i. h.2 c (inr i) in
      subst (Site cs is s z) h.3 (record {
        mid = relocated cs s codes b;
        cells = refl;
        tree = (moves_well cs s codes b tree used h.1 fam room).tree;
        free = free_m cs s a q codes b z tree way fam new_code h.1 h.2;
        fits = omega (arith, long_m cs s a q codes b z tree way fam new_code h.1 h.2, (h.2 a (inl refl)).0);
        long = long_m cs s a q codes b z tree way fam new_code h.1 h.2;
        wide = length_index_moves (base_of cs s) b cs is codes;
        indexed = λ ix. index_moved cs s codes b tree used h.1 fam room is leafless ix;
        kept = held_again cs (relocated cs s codes b) s b tree used h.1 (m cs s a q codes b z tree way fam new_code h.1 h.2);
      }))
      (place_ways cs is s a z r e)

  -- the new node has no child
  pub place_lone : (r : Spot) → place cs is s a z ≡ Some r → Lone r.cells r.spot
  place_lone r e b u g =
      let w = (place_well r e).1 in
      ⊎_elim
      (λ o.
      let k = o.1 in
      let same : k.1.0 ≡ s = reach_same cs q k.1.0 s k.1.1 way in
      fresh k.0 (subst (λ x. Edge cs x a k.0) same k.1.2))
      (λ o. omega (arith, ap length o.0))
      (w.again (b ∷ a ∷ q) u (r.spot, w.new, g))

  -- a number without a leaf has none after it
  pub place_none : (r : Spot) → place cs is s a z ≡ Some r → (n : ℕ) → Indexed cs is → get_or is n 0 ≡ 0 → get_or r.index n 0 ≡ 0
  place_none r e n ix none =
      let k = place_site r e in
      let jx = k.indexed ix in
      ⊎_elim (λ y. y)
      (λ ny.
      let v : ℕ = get_or r.index n 0 in
      let b = jx.entered n (omega arith) in
      let w = k.tree.reach v (leaf_used k.mid k.tree.blanks v n b) in
      let h = k.kept w.0 n (v, w.1, b) in
      let lt : n < length is = ⊎_elim (λ y. y) (λ ge. absurd (omega (arith, ny, get_or_past r.index n 0 (omega (arith, k.wide))))) (cases_lt n (length is)) in
      absurd (omega (arith, none, ix.leads h.0 n h.2 lt, reach_some cs w.0 h.0 h.1)))
      (cases_eq (get_or r.index n 0) 0)

-- one path more, p, with the base z at its end
pub record Grew (cs : List Cell) (s : ℕ) (z : ℤ) (r : Spot) (p : List ℕ) : Type 0 where
  pub tree : Tree r.cells
  pub whole : WholeBut cs s → WholeBut r.cells r.spot
  pub new : Reach r.cells p r.spot
  pub base : (at r.cells r.spot).base ≡ z
  pub held : (q : List ℕ) (m : ℕ) → Held cs q m → Held r.cells q m
  pub held_again : (q : List ℕ) (m : ℕ) → Held r.cells q m → Held cs q m ⊎ ((q ≡ p) × (z ≡ negsuc m))
  pub ahead : (q : List ℕ) (u : ℕ) → Reach cs q u → (v : ℕ) × Reach r.cells q v
  pub long : length r.cells ≡ length cs

pub site_long : (cs : List Cell) (is : List ℕ) (s : ℕ) (z : ℤ) (r : Spot) → Site cs is s z r → length r.cells ≡ length cs
site_long cs is s z r k = ap length k.cells ∙ length-set k.mid r.spot _ ∙ k.long

pub grow_well : (cs : List Cell) (is : List ℕ) (s a : ℕ) (q more : List ℕ) (z : ℤ) (r : Spot) → Tree cs → Reach cs q s → NotLeaf cs s → Codes (a ∷ more) → ((u : ℕ) → Edge cs s a u → ⊥) → grow more cs is s a z ≡ Some r → Grew cs s z r (turned more (a ∷ q))
grow_well cs is s a q [] z r tree way leafless cds fresh e =
    let w = (place_well cs is s a q z tree way cds.0.0 cds.0.1 leafless fresh r e).1 in
    record {
      tree = w.tree;
      whole = w.whole;
      new = w.new;
      base = w.base;
      held = w.held;
      held_again = w.held_again;
      ahead = λ p u k. (_, w.ahead p u k);
      long = site_long cs is s z r (place_site cs is s a q z tree way cds.0.0 cds.0.1 leafless fresh r e);
    }
grow_well cs is s a q (b ∷ more) z r tree way leafless cds fresh e =
    let k = then_some (place cs is s a (pos 0)) (λ x. grow more x.cells x.index x.spot b z) r e in
    let f : Spot = k.0 in
    let w = (place_well cs is s a q (pos 0) tree way cds.0.0 cds.0.1 leafless fresh f k.1).1 in
    let rest = grow_well f.cells f.index f.spot b (a ∷ q) more z r w.tree w.new (λ m y. not_leaf 0 m (sym w.base ∙ y)) cds.1
    (place_lone cs is s a q (pos 0) tree way cds.0.0 cds.0.1 leafless fresh f k.1 b) k.2 in
    record {
      tree = rest.tree;
      whole = λ o. rest.whole (w.whole o);
      new = rest.new;
      base = rest.base;
      held = λ p m h. rest.held p m (w.held p m h);
      held_again = λ p m h. ⊎_elim
          (λ o. ⊎_elim (λ y. inl y) (λ y. absurd (not_leaf 0 m y.1)) (w.held_again p m o))
          (λ o. inr o)
          (rest.held_again p m h);
      ahead = λ p u y. rest.ahead p _ (w.ahead p u y);
      long = rest.long ∙ site_long cs is s (pos 0) f (place_site cs is s a q (pos 0) tree way cds.0.0 cds.0.1 leafless fresh f k.1);
    }

-- the index with the new leaf
pub grow_index : (cs : List Cell) (is : List ℕ) (s a : ℕ) (q more : List ℕ) (n : ℕ) (r : Spot) → Tree cs → Reach cs q s → NotLeaf cs s → Codes (a ∷ more) → ((u : ℕ) → Edge cs s a u → ⊥) → Indexed cs is → get_or is n 0 ≡ 0
    → grow more cs is s a (negsuc n) ≡ Some r → Indexed r.cells (set r.index n r.spot)
grow_index cs is s a q [] n r tree way leafless cds fresh ix none e =
    let k = place_site cs is s a q (negsuc n) tree way cds.0.0 cds.0.1 leafless fresh r e in
    subst (λ l. Indexed l (set r.index n r.spot)) (sym k.cells)
    (index_leaf k.mid r.index r.spot s k.tree k.free (k.indexed ix) n k.fits
    (place_none cs is s a q (negsuc n) tree way cds.0.0 cds.0.1 leafless fresh r e n ix none))
grow_index cs is s a q (b ∷ more) n r tree way leafless cds fresh ix none e =
    let k = then_some (place cs is s a (pos 0)) (λ x. grow more x.cells x.index x.spot b (negsuc n)) r e in
    let f : Spot = k.0 in
    let w = (place_well cs is s a q (pos 0) tree way cds.0.0 cds.0.1 leafless fresh f k.1).1 in
    let t = place_site cs is s a q (pos 0) tree way cds.0.0 cds.0.1 leafless fresh f k.1 in
    grow_index f.cells f.index f.spot b (a ∷ q) more n r w.tree w.new (λ m y. not_leaf 0 m (sym w.base ∙ y)) cds.1
    (place_lone cs is s a q (pos 0) tree way cds.0.0 cds.0.1 leafless fresh f k.1 b)
    (subst (λ l. Indexed l f.index) (sym t.cells) (index_open t.mid f.index f.spot s t.tree t.free (t.indexed ix)))
    (place_none cs is s a q (pos 0) tree way cds.0.0 cds.0.1 leafless fresh f k.1 n ix none)
    k.2

pub grow_wide : (cs : List Cell) (is : List ℕ) (s a : ℕ) (q more : List ℕ) (z : ℤ) (r : Spot) → Tree cs → Reach cs q s → NotLeaf cs s → Codes (a ∷ more) → ((u : ℕ) → Edge cs s a u → ⊥) → grow more cs is s a z ≡ Some r → length r.index ≡ length is
grow_wide cs is s a q [] z r tree way leafless cds fresh e = (place_site cs is s a q z tree way cds.0.0 cds.0.1 leafless fresh r e).wide
grow_wide cs is s a q (b ∷ more) z r tree way leafless cds fresh e =
    let k = then_some (place cs is s a (pos 0)) (λ x. grow more x.cells x.index x.spot b z) r e in
    let f : Spot = k.0 in
    let w = (place_well cs is s a q (pos 0) tree way cds.0.0 cds.0.1 leafless fresh f k.1).1 in
    grow_wide f.cells f.index f.spot b (a ∷ q) more z r w.tree w.new (λ m y. not_leaf 0 m (sym w.base ∙ y)) cds.1
    (place_lone cs is s a q (pos 0) tree way cds.0.0 cds.0.1 leafless fresh f k.1 b) k.2
    ∙ (place_site cs is s a q (pos 0) tree way cds.0.0 cds.0.1 leafless fresh f k.1).wide
