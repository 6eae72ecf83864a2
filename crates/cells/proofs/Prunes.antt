-- A leaf is freed, and each cell above it that has no child left.
use Rattle.std.proofs.Common.{◌≡◌, ℕ, zero, suc, ◌⊎◌, List, [], ◌∷◌, length, set, sym, refl, ap, ◌∙◌, subst, inl, inr, ⊎_elim, arith}
use Rattle.std.proofs.lemmas.List.{get_or-set_same, get_or-set_other, get_or_past, length-set}
use Rattle.std.proofs.lemmas.Bool.{cond_both, cases_eq, cases_lt}
use Rattle.cells.specs.declared.Cell.{Cell}
use Rattle.cells.specs.Cells.{free_cell, at, nat, base_of, parent, child_codes, some_code}
use Rattle.cells.specs.Pruning.{prune}
use Rattle.cells.specs.Trees.{Edge, Reach, Held}
use Rattle.cells.proofs.Trees.{Tree, Lone, LeafOrParent, WholeBut, Whole, Family}
use Rattle.cells.proofs.Changes.{Freed}
use Rattle.cells.proofs.Paths.{edge_up, reach_some, reach_same, root_apart}
use Rattle.cells.proofs.Walks.{listing}
use Rattle.cells.proofs.Places.{freeing}
use Rattle.cells.proofs.Families.{first_of, none_of}

-- the path p, its last code first, is no longer held
pub record Pruned (cs xs : List Cell) (p : List ℕ) : Type 0 where
  pub tree : Tree xs
  pub whole : Whole xs
  pub held : (q : List ℕ) (m : ℕ) → Held cs q m → (q ≡ p → ⊥) → Held xs q m
  pub held_again : (q : List ℕ) (m : ℕ) → Held xs q m → Held cs q m × (q ≡ p → ⊥)

-- one node is freed
module _ (cs : List Cell) (t a : ℕ) (q : List ℕ) (tree : Tree cs) (whole : WholeBut cs t) (way : Reach cs (a ∷ q) t) (lone : Lone cs t) where
  abbrev s : ℕ
  s = parent cs t

  abbrev ds : List Cell
  ds = set cs t free_cell

  par : way.0 ≡ s
  par = sym (edge_up cs way.0 a t way.2)

  edge : Edge cs s a t
  edge = subst (λ x. Edge cs x a t) par way.2

  above : Reach cs q s
  above = subst (Reach cs q) par way.1

  w : Freed cs ds (a ∷ q) t
  w = freeing cs t (a ∷ q) tree way (λ e. root_apart cs s a (subst (Edge cs s a) e edge)) lone

  way_s : Reach ds q s
  way_s = w.ahead q s above (λ e. omega (arith, ap length e))

  fam_s : Family ds s (child_codes ds s)
  fam_s = listing ds s (reach_some ds q s way_s)

  -- the parent is no leaf
  not_held : (p : List ℕ) (m : ℕ) → Held cs p m → p ≡ q → ⊥
  not_held p m h e = omega (arith, edge.inner, ap (base_of cs) (reach_same cs q h.0 s (subst (λ x. Reach cs x h.0) e h.1) above), ap nat h.2)

  -- the parent is the root, or has another child
  stop : ((s ≡ 1 → ⊥) → LeafOrParent ds s) → Pruned cs ds (a ∷ q)
  stop ends = record {
    tree = w.tree;
    whole = λ j h one. ⊎_elim (λ same. subst (LeafOrParent ds) (sym same) (ends (λ e. one (same ∙ e)))) (λ ne. w.whole whole j h one ne) (cases_eq j s);
    held = w.held;
    held_again = w.held_again;
  }

  on : (xs : List Cell) → Pruned ds xs q → Pruned cs xs (a ∷ q)
  on xs r = record {
    tree = r.tree;
    whole = r.whole;
    held = λ p m h ne. r.held p m (w.held p m h ne) (not_held p m h);
    held_again = λ p m h. w.held_again p m (r.held_again p m h).0;
  }

pub pruning : (cs : List Cell) (t : ℕ) (p : List ℕ) → Tree cs → WholeBut cs t → Reach cs p t → (p ≡ [] → ⊥) → Lone cs t → Pruned cs (prune (length p) cs t) p
pruning cs t [] tree whole way ne lone = absurd (ne refl)
pruning cs t (a ∷ []) tree whole way ne lone =
    let done = stop cs t a [] tree whole way lone (λ no_root. absurd (no_root (above cs t a [] tree whole way lone))) in
    cond_both (some_code (child_codes (set cs t free_cell) (parent cs t))) (set cs t free_cell) (set cs t free_cell) (λ l. Pruned cs l (a ∷ [])) (λ e. done) (λ e. done)
pruning cs t (a ∷ b ∷ q) tree whole way ne lone =
    let ds : List Cell = set cs t free_cell in
    let s : ℕ = parent cs t in
    let fam = fam_s cs t a (b ∷ q) tree whole way lone in
    cond_both (some_code (child_codes ds s)) ds (prune (length (b ∷ q)) ds s) (λ l. Pruned cs l (a ∷ b ∷ q))
    (λ e. stop cs t a (b ∷ q) tree whole way lone (λ _. inr (first_of ds s (child_codes ds s) fam e)))
    (λ e. on cs t a (b ∷ q) tree whole way lone (prune (length (b ∷ q)) ds s)
    (pruning ds s (b ∷ q) (w cs t a (b ∷ q) tree whole way lone).tree ((w cs t a (b ∷ q) tree whole way lone).whole whole) (way_s cs t a (b ∷ q) tree whole way lone)
    (λ z. omega (arith, ap length z)) (none_of ds s (child_codes ds s) fam e)))

-- a cell stays or is freed
abbrev StaysOrFreed : List Cell → List Cell → ℕ → Type 0
StaysOrFreed cs xs j = (at xs j ≡ at cs j) ⊎ (at xs j ≡ free_cell)

freed_here : (cs : List Cell) (t : ℕ) → at (set cs t free_cell) t ≡ free_cell
freed_here cs t =
    ⊎_elim (λ lt. get_or-set_same cs t free_cell free_cell lt) (λ ge. get_or_past (set cs t free_cell) t free_cell (omega (arith, length-set cs t free_cell)))
    (cases_lt t (length cs))

freed_else : (cs : List Cell) (t j : ℕ) → StaysOrFreed cs (set cs t free_cell) j
freed_else cs t j = ⊎_elim (λ e. inr (ap (at (set cs t free_cell)) e ∙ freed_here cs t)) (λ ne. inl (get_or-set_other cs t j free_cell free_cell ne)) (cases_eq j t)

stays_on : (cs ds xs : List Cell) (j : ℕ) → StaysOrFreed cs ds j → StaysOrFreed ds xs j → StaysOrFreed cs xs j
stays_on cs ds xs j h (inl e) = ⊎_elim (λ k. inl (e ∙ k)) (λ k. inr (e ∙ k)) h
stays_on cs ds xs j h (inr e) = inr e

pub prune_stays : (n : ℕ) (cs : List Cell) (t j : ℕ) → StaysOrFreed cs (prune n cs t) j
prune_stays zero cs t j = inl refl
prune_stays (suc n) cs t j =
    let ds : List Cell = set cs t free_cell in
    cond_both (some_code (child_codes ds (parent cs t))) ds (prune n ds (parent cs t)) (λ l. StaysOrFreed cs l j)
    (λ e. freed_else cs t j) (λ e. stays_on cs ds (prune n ds (parent cs t)) j (freed_else cs t j) (prune_stays n ds (parent cs t) j))

pub prune_frees : (n : ℕ) (cs : List Cell) (t : ℕ) → at (prune (suc n) cs t) t ≡ free_cell
prune_frees n cs t =
    let ds : List Cell = set cs t free_cell in
    cond_both (some_code (child_codes ds (parent cs t))) ds (prune n ds (parent cs t)) (λ l. at l t ≡ free_cell)
    (λ e. freed_here cs t) (λ e. ⊎_elim (λ k. k ∙ freed_here cs t) (λ k. k) (prune_stays n ds (parent cs t) t))

pub length_prune : (n : ℕ) (cs : List Cell) (t : ℕ) → length (prune n cs t) ≡ length cs
length_prune zero cs t = refl
length_prune (suc n) cs t =
    let ds : List Cell = set cs t free_cell in
    cond_both (some_code (child_codes ds (parent cs t))) ds (prune n ds (parent cs t)) (λ l. length l ≡ length cs)
    (λ e. length-set cs t free_cell) (λ e. length_prune n ds (parent cs t) ∙ length-set cs t free_cell)
