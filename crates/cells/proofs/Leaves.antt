-- The index leads each number to its leaf, after a move too.
use Rattle.std.proofs.Common.{◌≡◌, ℕ, ◌+◌, ◌<◌, true, ltb, ◌⊎◌, List, [], ◌∷◌, length, get_or, set, ℤ, pos, negsuc, sym, refl, ap, ◌∙◌, subst, inl, inr, ⊎_elim, arith}
use lib.Signed.{lt_z}
use Rattle.std.proofs.lemmas.List.{get_or-set_same, get_or-set_other, length-set, ext_get_or, get_or_past, set_past}
use Rattle.std.proofs.lemmas.Bool.{cases_eq, cases_lt, cond_both, cond-false, ltb-true, le-ltb}
use Rattle.cells.specs.declared.Cell.{Cell}
use Rattle.cells.specs.Cells.{free_cell, at, base_of, parent, entry}
use Rattle.cells.specs.Placing.{moved_list, moves, reindexed, index_moves, relocated, index_relocated}
use Rattle.members.specs.Lists.{In, Apart}
use Rattle.cells.specs.Trees.{Room}
use Rattle.cells.specs.Index.{Leads, IndexLeads}
use Rattle.cells.proofs.Trees.{Tree, NotLeaf, Family}
use Rattle.cells.proofs.Changes.{Renames}
use Rattle.cells.proofs.Basics.{not_leaf, leaf_same}
use Rattle.cells.proofs.Paths.{reach_some}
use Rattle.cells.proofs.Relocations.{goes, goes_there, goes_else, rename_none, Mid, one, next, mid_next, x_moves, begun, chain, moves_all}
use Rattle.cells.proofs.Renamings.{own_root}

-- the index is right: each leaf's number leads to it, and each entry but 0 is a leaf of its number
pub record Indexed (cs : List Cell) (is : List ℕ) : Type 0 where
  pub leads : (t n : ℕ) → (at cs t).base ≡ negsuc n → n < length is → get_or is n 0 ≡ t
  pub entered : IndexLeads cs is

-- the same, as the invariant says it
leaf_entry : (z : ℤ) → lt_z z (pos 0) ≡ true → z ≡ negsuc (entry z)
leaf_entry (pos n) e = absurd (omega (arith, ltb-true n 0 e))
leaf_entry (negsuc n) e = refl

pub indexed_from : (cs : List Cell) (is : List ℕ) → Leads cs is → IndexLeads cs is → Indexed cs is
indexed_from cs is l e = record {
  leads = λ t n b lt.
      subst (λ k. get_or is k 0 ≡ t) (ap entry b)
      (l t (ap (λ z. lt_z z (pos 0)) b) (subst (λ k. k < length is) (sym (ap entry b)) lt));
  entered = e;
}

pub leads_from : (cs : List Cell) (is : List ℕ) → Indexed cs is → Leads cs is
leads_from cs is ix t h lt = ix.leads t (entry (at cs t).base) (leaf_entry (at cs t).base h) lt

-- a leaf is no free cell
pub leaf_used : (cs : List Cell) → ((t : ℕ) → parent cs t ≡ 0 → at cs t ≡ free_cell) → (t n : ℕ) → (at cs t).base ≡ negsuc n → 0 < parent cs t
leaf_used cs blanks t n b =
    ⊎_elim (λ z. absurd (not_leaf 0 n (ap (λ c. c.base) (sym (blanks t z)) ∙ b))) (λ nz. omega arith) (cases_eq (parent cs t) 0)

-- an entry of a list after it was set
set_entry : (is : List ℕ) (k t n : ℕ) → ((n ≡ k) × (n < length is) × (get_or (set is k t) n 0 ≡ t)) ⊎ (((n ≡ k) × (get_or (set is k t) n 0 ≡ 0)) ⊎ ((n ≡ k → ⊥) × (get_or (set is k t) n 0 ≡ get_or is n 0)))
set_entry is k t n =
    ⊎_elim
    (λ e. ⊎_elim
    (λ lt. inl (e, lt, ap (λ x. get_or (set is k t) x 0) e ∙ get_or-set_same is k t 0 (omega arith)))
    (λ ge. inr (inl (e, get_or_past (set is k t) n 0 (omega (arith, length-set is k t)))))
    (cases_lt n (length is)))
    (λ ne. inr (inr (ne, get_or-set_other is k n t 0 ne)))
    (cases_eq n k)

pub length_reindexed : (is : List ℕ) (z : ℤ) (t : ℕ) → length (reindexed is z t) ≡ length is
length_reindexed is z t = cond_both (lt_z z (pos 0)) (set is (entry z) t) is (λ l. length l ≡ length is) (λ e. length-set is (entry z) t) (λ e. refl)

pub reindexed_inner : (is : List ℕ) (k t : ℕ) → reindexed is (pos k) t ≡ is
reindexed_inner is k t = cond-false (ltb k 0) (set is 0 t) is (le-ltb k 0 (omega arith))

-- one node moves
module _ (cs ds : List Cell) (x t : ℕ) (is : List ℕ) (hx : 0 < parent cs x) (blanks : (j : ℕ) → parent cs j ≡ 0 → at cs j ≡ free_cell) (r : Renames cs ds (goes x t)) (ix : Indexed cs is) where
  -- a leaf that stays
  leaf_stays : (v n : ℕ) → (v ≡ x → ⊥) → (at cs v).base ≡ negsuc n → (at ds v).base ≡ negsuc n
  leaf_stays v n ne b =
      ap (λ y. (at ds y).base) (sym (goes_else x t v ne)) ∙ ap (λ c. c.base) (r.there v (leaf_used cs blanks v n b)) ∙ b

  leaf_went : (n : ℕ) → (at cs x).base ≡ negsuc n → (at ds t).base ≡ negsuc n
  leaf_went n b = ap (λ y. (at ds y).base) (sym (goes_there x t x refl)) ∙ ap (λ c. c.base) (r.there x hx) ∙ b

  entered_z : (z : ℤ) → (at cs x).base ≡ z → IndexLeads ds (reindexed is z t)
  entered_z (pos k) bx = subst (IndexLeads ds) (sym (reindexed_inner is k t)) (λ n h.
      leaf_stays (get_or is n 0) n
      (λ e. not_leaf k n (sym bx ∙ ap (λ y. (at cs y).base) (sym e) ∙ ix.entered n h)) (ix.entered n h))
  entered_z (negsuc k) bx = λ n h.
      ⊎_elim {C = (at ds (get_or (set is k t) n 0)).base ≡ negsuc n}
      (λ same. ap (λ y. (at ds y).base) same.2 ∙ leaf_went n (bx ∙ ap negsuc (sym same.0)))
      (⊎_elim
      (λ past. absurd (omega (arith, past.1)))
      (λ other.
      let v : ℕ = get_or is n 0 in
      let hv : 0 < v = omega (arith, other.1) in
      let ne : v ≡ x → ⊥ = λ e. other.0 (sym (leaf_same k n (sym bx ∙ ap (λ y. (at cs y).base) (sym e) ∙ ix.entered n hv))) in
      ap (λ y. (at ds y).base) other.1 ∙ leaf_stays v n ne (ix.entered n hv)))
      (set_entry is k t n)

  leads_z : (z : ℤ) → (at cs x).base ≡ z → (j n : ℕ) → (at ds j).base ≡ negsuc n → n < length is → get_or (reindexed is z t) n 0 ≡ j
  leads_z z bx j n b lt =
      let o = r.back j (leaf_used ds r.blanks j n b) in
      let u : ℕ = o.0 in
      let was : (at cs u).base ≡ negsuc n = sym (ap (λ c. c.base) (r.there u o.1)) ∙ ap (λ y. (at ds y).base) o.2 ∙ b in
      let known : get_or is n 0 ≡ u = ix.leads u n was lt in
      ⊎_elim
      (λ e. here z bx (ap (λ y. (at cs y).base) (sym e) ∙ was) lt ∙ sym (goes_there x t u e) ∙ o.2)
      (λ ne. there z bx u ne was lt known ∙ sym (goes_else x t u ne) ∙ o.2)
      (cases_eq u x)
    where
      here : (z : ℤ) → (at cs x).base ≡ z → (at cs x).base ≡ negsuc n → n < length is → get_or (reindexed is z t) n 0 ≡ t
      here z bx bn lt = subst (λ y. get_or (reindexed is y t) n 0 ≡ t) (sym bn ∙ bx) (get_or-set_same is n t 0 lt)

      there : (z : ℤ) → (at cs x).base ≡ z → (u : ℕ) → (u ≡ x → ⊥) → (at cs u).base ≡ negsuc n → n < length is → get_or is n 0 ≡ u → get_or (reindexed is z t) n 0 ≡ u
      there (pos k) bx u ne was lt known = ap (λ l. get_or l n 0) (reindexed_inner is k t) ∙ known
      there (negsuc k) bx u ne was lt known =
          get_or-set_other is k n t 0 (λ e. ne (sym known ∙ ix.leads x n (bx ∙ ap negsuc (sym e)) lt)) ∙ known

  pub one_index : Indexed ds (reindexed is (at cs x).base t)
  one_index = record {
    leads = λ j n b lt. leads_z (at cs x).base refl j n b (omega (arith, length_reindexed is (at cs x).base t));
    entered = entered_z (at cs x).base refl;
  }

-- a family moves
module _ (cs : List Cell) (s : ℕ) (codes : List ℕ) (e : ℕ) (tree : Tree cs) (used : 0 < parent cs s) (low_e : 0 < e) (fam : Family cs s codes) (room : Room cs codes e) where
  chain_index : (to_do : List ℕ) (ds : List Cell) (f : ℕ → ℕ) (is : List ℕ) → Renames cs ds f → Mid cs s e to_do f → Apart to_do → ((c : ℕ) → In to_do c → In codes c) → Indexed ds is → Indexed (moves (base_of cs s) e ds to_do) (index_moves (base_of cs s) e ds is to_do)
  chain_index [] ds f is ren mid apart sub ix = ix
  chain_index (a ∷ more) ds f is ren mid apart sub ix =
      let x : ℕ = base_of cs s + a in
      chain_index more (moved_list ds x (e + a)) (λ u. goes x (e + a) (f u)) (reindexed is (at ds x).base (e + a))
      (next cs s codes e tree used low_e fam room a more ds f ren mid apart sub)
      (mid_next cs s codes e tree used low_e fam room a more ds f ren mid apart sub)
      apart.1 (λ c i. sub c (inr i))
      (one_index ds (moved_list ds x (e + a)) x (e + a) is (x_moves cs s codes e tree used low_e fam room a more ds f ren mid apart sub) ren.blanks (one cs s codes e tree used low_e fam room a more ds f ren mid apart sub) ix)

  abbrev ds : List Cell
  ds = moves (base_of cs s) e cs codes

  abbrev es : List Cell
  es = relocated cs s codes e

  rebased : (k : ℕ) → (k ≡ s → ⊥) → at es k ≡ at ds k
  rebased k nk = get_or-set_other ds s k _ free_cell nk

  base_same : (at ds s).base ≡ (at cs s).base
  base_same =
      let all = chain cs s codes e tree used low_e fam room codes cs (λ u. u) (rename_none cs tree) (begun cs s codes e tree used low_e fam room) fam.apart (λ c i. i) in
      let w = tree.reach s used in
      let stays : all.0 s ≡ s = all.2.other s used (own_root cs tree w.0 s w.1) in
      ap (λ y. (at ds y).base) (sym stays) ∙ ap (λ c. c.base) (all.1.there s used)

  pub index_moved : (is : List ℕ) → NotLeaf cs s → Indexed cs is → Indexed es (index_relocated cs is s codes e)
  index_moved is leafless ix =
      let m = moves_all cs s codes e tree used low_e fam room in
      let mid = chain_index codes cs (λ u. u) is (rename_none cs tree) (begun cs s codes e tree used low_e fam room) fam.apart (λ c i. i) ix in
      record {
        leads = λ j n b lt.
            let ne : j ≡ s → ⊥ = λ q. not_leaf e n (sym (ap (λ c. c.base) m.reb.here) ∙ ap (λ y. (at es y).base) (sym q) ∙ b) in
            mid.leads j n (ap (λ c. c.base) (sym (rebased j ne)) ∙ b) lt;
        entered = λ n h.
            let v : ℕ = get_or (index_relocated cs is s codes e) n 0 in
            let b : (at ds v).base ≡ negsuc n = mid.entered n h in
            let ne : v ≡ s → ⊥ = λ q. leafless n (sym base_same ∙ ap (λ y. (at ds y).base) (sym q) ∙ b) in
            ap (λ c. c.base) (rebased v ne) ∙ b;
      }

pub length_index_moves : (b e : ℕ) (cs : List Cell) (is codes : List ℕ) → length (index_moves b e cs is codes) ≡ length is
length_index_moves b e cs is [] = refl
length_index_moves b e cs is (a ∷ more) =
    length_index_moves b e (moved_list cs (b + a) (e + a)) (reindexed is (at cs (b + a)).base (e + a)) more ∙ length_reindexed is (at cs (b + a)).base (e + a)

-- there is one index for the cells
pub index_unique : (cs : List Cell) (is js : List ℕ) → length is ≡ length js → Indexed cs is → Indexed cs js → is ≡ js
index_unique cs is js long ix jx = ext_get_or 0 is js long each
  where
    each : (n : ℕ) → n < length is → get_or is n 0 ≡ get_or js n 0
    each n lt =
        ⊎_elim
        (λ z. ⊎_elim
        (λ y. z ∙ sym y)
        (λ ny. ix.leads (get_or js n 0) n (jx.entered n (omega arith)) lt)
        (cases_eq (get_or js n 0) 0))
        (λ nz. sym (jx.leads (get_or is n 0) n (ix.entered n (omega arith)) (omega arith)))
        (cases_eq (get_or is n 0) 0)

-- a new leaf, or an open node, in a free cell
module _ (cs : List Cell) (is : List ℕ) (t s : ℕ) (tree : Tree cs) (free : parent cs t ≡ 0) (ix : Indexed cs is) where
  not_t : (j n : ℕ) → (at cs j).base ≡ negsuc n → j ≡ t → ⊥
  not_t j n b e = omega (arith, leaf_used cs tree.blanks j n b, ap (parent cs) e)

  pub index_open : Indexed (set cs t (record { base = pos 0; check = pos s })) is
  index_open =
      let es : List Cell = set cs t (record { base = pos 0; check = pos s }) in
      record {
        leads = λ j n b lt.
            ⊎_elim
            (λ e. ⊎_elim
            (λ fits. absurd (not_leaf 0 n (ap (λ c. c.base) (sym (get_or-set_same cs t (record { base = pos 0; check = pos s }) free_cell fits)) ∙ ap (λ y. (at es y).base) (sym e) ∙ b)))
            (λ past. ix.leads j n (ap (λ l. (at l j).base) (sym (set_past cs t (record { base = pos 0; check = pos s }) past)) ∙ b) lt)
            (cases_lt t (length cs)))
            (λ ne. ix.leads j n (ap (λ c. c.base) (sym (get_or-set_other cs t j (record { base = pos 0; check = pos s }) free_cell ne)) ∙ b) lt)
            (cases_eq j t);
        entered = λ n h.
            let v : ℕ = get_or is n 0 in
            ap (λ c. c.base) (get_or-set_other cs t v (record { base = pos 0; check = pos s }) free_cell (not_t v n (ix.entered n h))) ∙ ix.entered n h;
      }

  pub index_leaf : (k : ℕ) → t < length cs → get_or is k 0 ≡ 0 → Indexed (set cs t (record { base = negsuc k; check = pos s })) (set is k t)
  index_leaf k fits none =
      let es : List Cell = set cs t (record { base = negsuc k; check = pos s }) in
      let here : (at es t).base ≡ negsuc k = ap (λ c. c.base) (get_or-set_same cs t (record { base = negsuc k; check = pos s }) free_cell fits) in
      let else : (j : ℕ) → (j ≡ t → ⊥) → (at es j).base ≡ (at cs j).base = λ j ne. ap (λ c. c.base) (get_or-set_other cs t j (record { base = negsuc k; check = pos s }) free_cell ne) in
      record {
        leads = λ j n b lt.
            let lt' : n < length is = omega (arith, length-set is k t) in
            ⊎_elim
            (λ e.
            let same : n ≡ k = leaf_same n k (sym b ∙ ap (λ y. (at es y).base) e ∙ here) in
            ap (λ x. get_or (set is k t) x 0) same ∙ get_or-set_same is k t 0 (omega arith) ∙ sym e)
            (λ ne.
            let was : (at cs j).base ≡ negsuc n = sym (else j ne) ∙ b in
            let w = tree.reach j (leaf_used cs tree.blanks j n was) in
            let nk : n ≡ k → ⊥ = λ e. omega (arith, reach_some cs w.0 j w.1, none, ix.leads j n was lt', ap (λ x. get_or is x 0) e) in
            get_or-set_other is k n t 0 nk ∙ ix.leads j n was lt')
            (cases_eq j t);
        entered = λ n h.
            ⊎_elim {C = (at es (get_or (set is k t) n 0)).base ≡ negsuc n}
            (λ same. ap (λ y. (at es y).base) same.2 ∙ here ∙ ap negsuc (sym same.0))
            (⊎_elim
            (λ past. absurd (omega (arith, past.1)))
            (λ other.
            let v : ℕ = get_or is n 0 in
            let b = ix.entered n (omega (arith, other.1)) in
            ap (λ y. (at es y).base) other.1 ∙ else v (not_t v n b) ∙ b))
            (set_entry is k t n);
      }
