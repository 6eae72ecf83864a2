-- One node moves after another, and so a family moves.
use Rattle.std.proofs.Common.{◌≡◌, ℕ, ◌+◌, ◌<◌, true, false, cond, eqb, ◌⊎◌, List, [], ◌∷◌, length, set, ℤ, pos, negsuc, sym, refl, ap, ◌∙◌, subst, inl, inr, ⊎_elim, arith}
use lib.Signed.{lt_z}
use Rattle.std.proofs.lemmas.List.FromFn.{get_or-map-range_with_len, length-map-range_with_len}
use Rattle.std.proofs.lemmas.List.{get_or_past, get_or-set_same, get_or-set_other, length-set}
use Rattle.std.proofs.lemmas.Bool.{cases_eq, cases_lt, cond-true, cond-false, cond_both, and_from, and_right, eq-eqb, ne_eqb, lt-ltb}
use Rattle.cells.specs.declared.Cell.{Cell}
use Rattle.cells.specs.Cells.{free_cell, at, nat, base_of, parent, same_int}
use Rattle.members.specs.Lists.{In, Apart}
use Rattle.cells.specs.Trees.{Edge, Reach, Room}
use Rattle.cells.proofs.Trees.{Tree, Family}
use Rattle.cells.proofs.Changes.{Renames, Rebased, Shifts, Moved}
use Rattle.cells.specs.Placing.{under, repointed, moved, moved_list, moves, relocated}
use Rattle.cells.proofs.Paths.{edge_up, reach_some}
use Rattle.cells.proofs.Counts.{within}
use Rattle.cells.proofs.Renamings.{up_used, not_own, own_root, moving}

pub nat_is : (z : ℤ) → 0 < nat z → z ≡ pos (nat z)
nat_is (pos n) h = refl
nat_is (negsuc n) h = absurd (omega arith)

pub cell_check : (c : Cell) (z : ℤ) → c.check ≡ z → c ≡ record { base = c.base; check = z }
cell_check c z e = ap (λ y. record { base = c.base; check = y }) e

pub positive : (z : ℤ) → 0 < nat z → lt_z (pos 0) z ≡ true
positive (pos n) h = lt-ltb 0 n h
positive (negsuc n) h = absurd (omega arith)

pub same_int_no : (z : ℤ) (x : ℕ) → (nat z ≡ x → ⊥) → same_int z (pos x) ≡ false
same_int_no (pos n) x ne = ne_eqb n x ne
same_int_no (negsuc n) x ne = refl

pub same_int_yes : (z : ℤ) (x : ℕ) → 0 < x → nat z ≡ x → same_int z (pos x) ≡ true
same_int_yes (pos n) x h e = eq-eqb n x e
same_int_yes (negsuc n) x h e = absurd (omega arith)

-- the children of x stand at its base
abbrev pub Kids : List Cell → ℕ → Type 0
Kids cs x = (u : ℕ) → parent cs u ≡ x → (0 < base_of cs x) × (base_of cs x < u) × (u < base_of cs x + 258)

module _ (cs : List Cell) (x t : ℕ) where
  moved_old : moved cs x t x ≡ free_cell
  moved_old = cond-true (eqb x x) _ _ (eq-eqb x x refl)

  moved_new : (t ≡ x → ⊥) → moved cs x t t ≡ at cs x
  moved_new ne = cond-false (eqb t x) _ _ (ne_eqb t x ne) ∙ cond-true (eqb t t) _ _ (eq-eqb t t refl)

  module _ (j : ℕ) (nx : j ≡ x → ⊥) (nt : j ≡ t → ⊥) where
    moved_rest : moved cs x t j ≡ cond (lt_z (pos 0) (at cs x).base) (repointed cs (nat (at cs x).base) x t 258 j) (at cs j)
    moved_rest = cond-false (eqb j x) _ _ (ne_eqb j x nx) ∙ cond-false (eqb j t) _ _ (ne_eqb j t nt)

    moved_kid : 0 < x → Kids cs x → parent cs j ≡ x → moved cs x t j ≡ record { base = (at cs j).base; check = pos t }
    moved_kid some kids is =
        let k = kids j is in
        moved_rest ∙ cond-true (lt_z (pos 0) (at cs x).base) _ _ (positive (at cs x).base k.0)
        ∙ cond-true (under cs (base_of cs x) x 258 j) _ _ (and_from _ _ (and_from _ _ (lt-ltb (base_of cs x) j k.1) (lt-ltb j (base_of cs x + 258) k.2)) (same_int_yes (at cs j).check x some is))

    moved_else : (parent cs j ≡ x → ⊥) → moved cs x t j ≡ at cs j
    moved_else ne =
        moved_rest ∙ cond_both (lt_z (pos 0) (at cs x).base) _ _ (λ c. c ≡ at cs j)
        (λ e. cond-false (under cs (base_of cs x) x 258 j) _ _ (and_right _ _ (same_int_no (at cs j).check x ne))) (λ e. refl)

-- x goes to t
abbrev pub goes : ℕ → ℕ → ℕ → ℕ
goes x t j = cond (eqb j x) t j

pub goes_there : (x t j : ℕ) → j ≡ x → goes x t j ≡ t
goes_there x t j e = cond-true (eqb j x) t j (eq-eqb j x e)

pub goes_else : (x t j : ℕ) → (j ≡ x → ⊥) → goes x t j ≡ j
goes_else x t j ne = cond-false (eqb j x) t j (ne_eqb j x ne)

length_list : (cs : List Cell) (x t : ℕ) → length (moved_list cs x t) ≡ length cs
unfolding moved_list
length_list cs x t = length-map-range_with_len (moved cs x t) 0 (length cs)

at_list : (cs : List Cell) (x t j : ℕ) → j < length cs → at (moved_list cs x t) j ≡ moved cs x t j
unfolding moved_list
at_list cs x t j h = get_or-map-range_with_len (moved cs x t) 0 (length cs) j j free_cell h (omega arith)

module _ (cs : List Cell) (x t : ℕ)
    (blanks : (j : ℕ) → parent cs j ≡ 0 → at cs j ≡ free_cell)
    (hx : 0 < parent cs x) (nx : x ≡ 1 → ⊥) (px : 0 < x) (own : parent cs x ≡ x → ⊥) (kids : Kids cs x)
    (pt : 0 < t) (lt : t < length cs) (ft : parent cs t ≡ 0) where
  abbrev ds : List Cell
  ds = moved_list cs x t

  t≠x : t ≡ x → ⊥
  t≠x e = omega (arith, ap (parent cs) e)

  -- the four kinds of cells
  at_old : at ds x ≡ free_cell
  at_old = at_list cs x t x (within cs x hx) ∙ moved_old cs x t

  at_new : at ds t ≡ at cs x
  at_new = at_list cs x t t lt ∙ moved_new cs x t t≠x

  at_kid : (j : ℕ) → parent cs j ≡ x → at ds j ≡ record { base = (at cs j).base; check = pos t }
  at_kid j e =
      at_list cs x t j (within cs j (omega arith))
      ∙ moved_kid cs x t j (λ s. own (ap (parent cs) (sym s) ∙ e)) (λ s. omega (arith, ap (parent cs) s)) px kids e

  at_else : (j : ℕ) → (j ≡ x → ⊥) → (j ≡ t → ⊥) → (parent cs j ≡ x → ⊥) → at ds j ≡ at cs j
  at_else j a b c =
      ⊎_elim (λ in'. at_list cs x t j in' ∙ moved_else cs x t j a b c)
      (λ out. get_or_past ds j free_cell (omega (arith, length_list cs x t)) ∙ sym (get_or_past cs j free_cell out))
      (cases_lt j (length cs))

  there : (u : ℕ) → 0 < parent cs u → at ds (goes x t u) ≡ record { base = (at cs u).base; check = pos (goes x t (parent cs u)) }
  there u h =
      let kept : (parent cs u ≡ x → ⊥) → at cs u ≡ record { base = (at cs u).base; check = pos (goes x t (parent cs u)) } =
      λ ne. cell_check (at cs u) (pos (goes x t (parent cs u))) (nat_is (at cs u).check h ∙ ap pos (sym (goes_else x t (parent cs u) ne))) in
      ⊎_elim
      (λ e. ap (at ds) (goes_there x t u e) ∙ at_new ∙ ap (at cs) (sym e) ∙ kept (λ q. own (ap (parent cs) (sym e) ∙ q)))
      (λ ne. ap (at ds) (goes_else x t u ne) ∙ ⊎_elim
      (λ kid. at_kid u kid ∙ ap (λ n. record { base = (at cs u).base; check = pos n }) (sym (goes_there x t (parent cs u) kid)))
      (λ other. at_else u ne (λ q. omega (arith, ap (parent cs) q)) other ∙ kept other)
      (cases_eq (parent cs u) x))
      (cases_eq u x)

  back : (j : ℕ) → 0 < parent ds j → (u : ℕ) × (0 < parent cs u) × (goes x t u ≡ j)
  back j h =
      ⊎_elim
      (λ e. absurd (omega (arith, ap (parent ds) e, ap (λ c. nat c.check) at_old)))
      (λ nx'. ⊎_elim {C = (u : ℕ) × (0 < parent cs u) × (goes x t u ≡ j)}
      (λ e. (x, hx, goes_there x t x refl ∙ sym e))
      (λ nt. (j, ⊎_elim {C = 0 < parent cs j} (λ kid. omega arith) (λ other. omega (arith, ap (λ c. nat c.check) (at_else j nx' nt other))) (cases_eq (parent cs j) x), goes_else x t j nx'))
      (cases_eq j t))
      (cases_eq j x)

  blanks_there : (j : ℕ) → parent ds j ≡ 0 → at ds j ≡ free_cell
  blanks_there j e =
      ⊎_elim
      (λ same. ap (at ds) same ∙ at_old)
      (λ nx'. ⊎_elim
      (λ same. absurd (omega (arith, ap (parent ds) same, ap (λ c. nat c.check) at_new)))
      (λ nt. ⊎_elim
      (λ kid. absurd (omega (arith, ap (λ c. nat c.check) (at_kid j kid))))
      (λ other. at_else j nx' nt other ∙ blanks j (sym (ap (λ c. nat c.check) (at_else j nx' nt other)) ∙ e))
      (cases_eq (parent cs j) x))
      (cases_eq j t))
      (cases_eq j x)

  apart : (u v : ℕ) → 0 < parent cs u → 0 < parent cs v → goes x t u ≡ goes x t v → u ≡ v
  apart u v hu hv e =
      ⊎_elim
      (λ a. ⊎_elim (λ b. a ∙ sym b) (λ b. absurd (omega (arith, ap (parent cs) (sym (goes_there x t u a) ∙ e ∙ goes_else x t v b)))) (cases_eq v x))
      (λ a. ⊎_elim (λ b. absurd (omega (arith, ap (parent cs) (sym (goes_else x t u a) ∙ e ∙ goes_there x t v b)))) (λ b. sym (goes_else x t u a) ∙ e ∙ goes_else x t v b) (cases_eq v x))
      (cases_eq u x)

  pub one_moves : Renames cs ds (goes x t)
  one_moves = record {
    long = length_list cs x t;
    root = goes_else x t 1 (λ e. nx (sym e));
    some = λ u h. cond_both (eqb u x) t u (λ n. 0 < n) (λ _. pt) (λ _. h);
    apart = apart;
    there = there;
    back = back;
    blanks = blanks_there;
  }

pub rename_none : (cs : List Cell) → Tree cs → Renames cs cs (λ u. u)
rename_none cs tree = record {
  long = refl;
  root = refl;
  some = λ u h. h;
  apart = λ u v hu hv e. e;
  there = λ u h. cell_check (at cs u) (pos (parent cs u)) (nat_is (at cs u).check h);
  back = λ j h. (j, h, refl);
  blanks = tree.blanks;
}

pub still_used : (cs ds : List Cell) (f : ℕ → ℕ) → Renames cs ds f → (u : ℕ) → 0 < parent cs u → 0 < parent ds (f u)
still_used cs ds f r u h = omega (arith, ap (λ c. nat c.check) (r.there u h), r.some (parent cs u) h)

pub rename_then : (cs ds es : List Cell) (f g : ℕ → ℕ) → Renames cs ds f → Renames ds es g → Renames cs es (λ u. g (f u))
rename_then cs ds es f g r k = record {
  long = k.long ∙ r.long;
  root = ap g r.root ∙ k.root;
  some = λ u h. k.some (f u) (r.some u h);
  apart = λ u v hu hv e. r.apart u v hu hv (k.apart (f u) (f v) (still_used cs ds f r u hu) (still_used cs ds f r v hv) e);
  there = λ u h. k.there (f u) (still_used cs ds f r u h) ∙ ap (λ c. record { base = c.base; check = pos (g (nat c.check)) }) (r.there u h);
  back = λ j h. let a = k.back j h in let b = r.back a.0 a.1 in (b.0, b.1, ap g b.2 ∙ a.2);
  blanks = k.blanks;
}

pub in_or_not : (xs : List ℕ) (a : ℕ) → In xs a ⊎ (In xs a → ⊥)
in_or_not [] a = inr (λ i. i)
in_or_not (x ∷ xs) a =
    ⊎_elim (λ e. inl (inl e)) (λ ne. ⊎_elim (λ i. inl (inr i)) (λ no'. inr (⊎_elim ne no')) (in_or_not xs a)) (cases_eq a x)

-- a used cell is a child of s or not
pub kind : (cs : List Cell) (s u : ℕ) (p : List ℕ) → Reach cs p u → ((a : ℕ) × Edge cs s a u) ⊎ (parent cs u ≡ s → u ≡ 1)
kind cs s u [] r = inr (λ e. r)
kind cs s u (a ∷ p) r = ⊎_elim (λ e. inl (a, subst (λ x. Edge cs x a u) e r.2)) (λ ne. inr (λ e. absurd (ne (sym (edge_up cs r.0 a u r.2) ∙ e)))) (cases_eq r.0 s)

-- a family has moved: each node has been moved, then s has its new base
pub record FamilyMoved (cs : List Cell) (s e : ℕ) (es : List Cell) : Type 0 where
  pub to : ℕ → ℕ
  pub mid : List Cell
  pub ren : Renames cs mid to
  pub reb : Rebased mid es s (pos e)
  pub shifts : Shifts cs s e to

-- after some of the children of s have moved to the base e, those by the codes still to do have not
pub record Mid (cs : List Cell) (s e : ℕ) (to_do : List ℕ) (f : ℕ → ℕ) : Type 0 where
  pub stays : (a u : ℕ) → Edge cs s a u → In to_do a → f u ≡ u
  pub went : (a u : ℕ) → Edge cs s a u → (In to_do a → ⊥) → f u ≡ e + a
  pub other : (u : ℕ) → 0 < parent cs u → (parent cs u ≡ s → u ≡ 1) → f u ≡ u

module _ (cs : List Cell) (s : ℕ) (codes : List ℕ) (e : ℕ) (tree : Tree cs) (used : 0 < parent cs s) (low_e : 0 < e) (fam : Family cs s codes) (room : Room cs codes e) where
  abbrev b : ℕ
  b = base_of cs s

  module _ (a : ℕ) (more : List ℕ) (ds : List Cell) (f : ℕ → ℕ) (ren : Renames cs ds f) (mid : Mid cs s e (a ∷ more) f) (apart : Apart (a ∷ more)) (sub : (c : ℕ) → In (a ∷ more) c → In codes c) where
    edge : Edge cs s a (b + a)
    edge = fam.sound a (sub a (inl refl))

    x_used : 0 < parent cs (b + a)
    x_used = omega (arith, edge_up cs s a (b + a) edge, reach_some cs (tree.reach s used).0 s (tree.reach s used).1)

    x_stays : f (b + a) ≡ b + a
    x_stays = mid.stays a (b + a) edge (inl refl)

    s_stays : f s ≡ s
    s_stays = mid.other s used (own_root cs tree (tree.reach s used).0 s (tree.reach s used).1)

    x_up : parent ds (b + a) ≡ s
    x_up = ap (parent ds) (sym x_stays) ∙ ap (λ c. nat c.check) (ren.there (b + a) x_used) ∙ ap f (edge_up cs s a (b + a) edge) ∙ s_stays

    x≠s : s ≡ b + a → ⊥
    x≠s q = not_own cs tree a s (subst (Edge cs s a) (sym q) edge)

    x_low : base_of ds (b + a) ≡ base_of cs (b + a)
    x_low = ap (base_of ds) (sym x_stays) ∙ ap (λ c. nat c.base) (ren.there (b + a) x_used)

    kids_of : (u : ℕ) → 0 < parent cs u → parent cs u ≡ b + a → (p : List ℕ) → Reach cs p u → (0 < base_of ds (b + a)) × (base_of ds (b + a) < f u) × (f u < base_of ds (b + a) + 258)
    kids_of u h is [] r = absurd (omega (arith, ap (parent cs) r, ap nat tree.root, edge.some, edge.inner))
    kids_of u h is (c ∷ p) r =
        let k : Edge cs (b + a) c u = subst (λ y. Edge cs y c u) (sym (edge_up cs r.0 c u r.2) ∙ is) r.2 in
        let same : f u ≡ u = mid.other u h (λ q. absurd (x≠s (sym q ∙ is))) in
        (omega (arith, x_low, k.inner), omega (arith, x_low, k.place, k.some), omega (arith, x_low, k.place, k.code))

    kids : Kids ds (b + a)
    kids v is =
        let o = ren.back v (omega (arith, edge.some)) in
        let way = tree.reach o.0 o.1 in
        let ups : f (parent cs o.0) ≡ f (b + a) = sym (ap (λ c. nat c.check) (ren.there o.0 o.1)) ∙ ap (parent ds) o.2 ∙ is ∙ sym x_stays in
        let par : parent cs o.0 ≡ b + a = ren.apart (parent cs o.0) (b + a) (up_used cs tree way.0 o.0 way.1) x_used ups in
        subst (λ w. (0 < base_of ds (b + a)) × (base_of ds (b + a) < w) × (w < base_of ds (b + a) + 258)) o.2 (kids_of o.0 o.1 par way.0 way.1)

    clash : (c : ℕ) → In codes c → (u : ℕ) → 0 < parent cs u → u ≡ e + c → ⊥
    clash c i u h q = omega (arith, ap (parent cs) q, (room c i).1)

    free : parent ds (e + a) ≡ 0
    free = ⊎_elim (λ z. z)
        (λ nz.
        let o = ren.back (e + a) (omega arith) in
        let way = tree.reach o.0 o.1 in
        ⊎_elim
        (λ child. ⊎_elim
        (λ i. absurd (clash a (sub a (inl refl)) o.0 o.1 (sym (mid.stays child.0 o.0 child.1 i) ∙ o.2)))
        (λ n. let same : child.0 ≡ a = omega (arith, mid.went child.0 o.0 child.1 n, o.2) in absurd (n (inl same)))
        (in_or_not (a ∷ more) child.0))
        (λ other. absurd (clash a (sub a (inl refl)) o.0 o.1 (sym (mid.other o.0 o.1 other) ∙ o.2)))
        (kind cs s o.0 way.0 way.1))
        (cases_eq (parent ds (e + a)) 0)

    pub x_moves : 0 < parent ds (b + a)
    x_moves = omega (arith, x_up, reach_some cs (tree.reach s used).0 s (tree.reach s used).1)

    pub one : Renames ds (moved_list ds (b + a) (e + a)) (goes (b + a) (e + a))
    one =
        one_moves ds (b + a) (e + a) ren.blanks x_moves
        (λ q. omega (arith, edge.some, edge.inner)) (omega (arith, edge.some)) (λ q. x≠s (sym x_up ∙ q)) kids
        (omega (arith, edge.some)) (omega (arith, (room a (sub a (inl refl))).0, ren.long)) free

    pub next : Renames cs (moved_list ds (b + a) (e + a)) (λ u. goes (b + a) (e + a) (f u))
    next = rename_then cs ds (moved_list ds (b + a) (e + a)) f (goes (b + a) (e + a)) ren one

    pub mid_next : Mid cs s e more (λ u. goes (b + a) (e + a) (f u))
    mid_next = record {
      stays = λ c u k i.
          let same : f u ≡ u = mid.stays c u k (inr i) in
          ap (goes (b + a) (e + a)) same ∙ goes_else (b + a) (e + a) u (λ q. let ca : c ≡ a = omega (arith, k.place) in apart.0 (subst (In more) ca i));
      went = λ c u k n. ⊎_elim
          (λ ca.
          let at_x : u ≡ b + a = k.place ∙ ap (λ y. b + y) ca in
          goes_there (b + a) (e + a) (f u) (ap f at_x ∙ x_stays) ∙ ap (λ y. e + y) (sym ca))
          (λ ne.
          let there : f u ≡ e + c = mid.went c u k (⊎_elim ne n) in
          goes_else (b + a) (e + a) (f u) (λ q. clash c (fam.whole c u k) (b + a) x_used (sym q ∙ there)) ∙ there)
          (cases_eq c a);
      other = λ u h o.
          ap (goes (b + a) (e + a)) (mid.other u h o)
          ∙ goes_else (b + a) (e + a) u (λ q. let one : u ≡ 1 = o (ap (parent cs) q ∙ edge_up cs s a (b + a) edge) in omega (arith, edge.some, edge.inner));
    }

  pub chain : (to_do : List ℕ) (ds : List Cell) (f : ℕ → ℕ) → Renames cs ds f → Mid cs s e to_do f → Apart to_do → ((c : ℕ) → In to_do c → In codes c) → (g : ℕ → ℕ) × Renames cs (moves b e ds to_do) g × Mid cs s e [] g
  chain [] ds f ren mid apart sub = (f, ren, mid)
  chain (a ∷ more) ds f ren mid apart sub =
      chain more (moved_list ds (b + a) (e + a)) (λ u. goes (b + a) (e + a) (f u)) (next a more ds f ren mid apart sub) (mid_next a more ds f ren mid apart sub) apart.1 (λ c i. sub c (inr i))

  pub begun : Mid cs s e codes (λ u. u)
  begun = record { stays = λ a u k i. refl; went = λ a u k n. absurd (n (fam.whole a u k)); other = λ u h o. refl }

  rebase : (ds : List Cell) → s < length ds → Rebased ds (set ds s (record { base = pos e; check = (at ds s).check })) s (pos e)
  rebase ds lt = record {
    long = length-set ds s _;
    here = get_or-set_same ds s _ free_cell lt;
    else = λ j ne. get_or-set_other ds s j _ free_cell ne;
  }

  pub moves_all : FamilyMoved cs s e (relocated cs s codes e)
  moves_all =
      let all = chain codes cs (λ u. u) (rename_none cs tree) begun fam.apart (λ c i. i) in
      let ds : List Cell = moves b e cs codes in
      record {
        to = all.0;
        mid = ds;
        ren = all.1;
        reb = rebase ds (omega (arith, all.1.long, within cs s used));
        shifts = record { child = λ a u k. all.2.went a u k (λ i. i); other = all.2.other };
      }

  pub moves_well : Moved cs (relocated cs s codes e) s e moves_all.to
  moves_well = let m = moves_all in moving cs m.mid (relocated cs s codes e) s e m.to tree used low_e m.ren m.reb m.shifts
