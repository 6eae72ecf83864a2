-- A new array is sound and holds nothing; the index and climbing in a sound one.
use Rattle.std.proofs.Common.{◌≡◌, ℕ, ◌<◌, eqb, ◌⊎◌, List, [], length, get_or, negsuc, Some, sym, ap, ◌∙◌, subst, inl, inr, ⊎_elim, arith}
use Rattle.std.proofs.lemmas.List.{get_or_past}
use Rattle.std.proofs.lemmas.Bool.{cases_eq, cases_lt, cond-false, ne_eqb}
use Rattle.cells.specs.declared.Cell.{Cell}
use Rattle.cells.specs.Cells.{free_cell, root_cell, at, nat, parent}
use Rattle.cells.specs.Walking.{cell_at, number_at, turned, path_to}
use Rattle.cells.specs.Trees.{Reach}
use Rattle.cells.specs.Invariant.{Sound}
use Rattle.cells.specs.Laws.{cleared, Starts, Climbs, Indexes}
use Rattle.cells.proofs.Basics.{not_leaf}
use Rattle.cells.proofs.Paths.{reach_some}
use Rattle.cells.proofs.Counts.{within, depth}
use Rattle.cells.proofs.Climbs.{turned_back, cell_reach, number_held, held_number, path_is}
use Rattle.cells.proofs.Leaves.{Indexed, leads_from, leaf_used}
use Rattle.cells.proofs.Numbers.{number_none}
use Rattle.cells.proofs.Sounds.{Tidy, tidy_of, sound_of, reach_of}
use Rattle.cells.proofs.TakesOut.{length_turned}

-- a new array
module _ (cs : List Cell) (is : List ℕ) (all : (j : ℕ) → j < length cs → at cs j ≡ cleared j) (zeros : (n : ℕ) → get_or is n 0 ≡ 0) where
  other : (j : ℕ) → (j ≡ 1 → ⊥) → at cs j ≡ free_cell
  other j ne = ⊎_elim (λ lt. all j lt ∙ cond-false (eqb j 1) root_cell free_cell (ne_eqb j 1 ne)) (λ out. get_or_past cs j free_cell out) (cases_lt j (length cs))

  root_or_free : (j : ℕ) → (at cs j ≡ root_cell) ⊎ (at cs j ≡ free_cell)
  root_or_free j =
      ⊎_elim
      (λ e. ⊎_elim (λ lt. inl (ap (at cs) e ∙ all 1 (omega arith))) (λ out. inr (get_or_past cs j free_cell out)) (cases_lt j (length cs)))
      (λ ne. inr (other j ne))
      (cases_eq j 1)

  no_leaf : (j n : ℕ) → (at cs j).base ≡ negsuc n → ⊥
  no_leaf j n b =
      ⊎_elim (λ e. not_leaf 1 n (ap (λ c. c.base) (sym e) ∙ b)) (λ e. not_leaf 0 n (ap (λ c. c.base) (sym e) ∙ b)) (root_or_free j)

  one : (j : ℕ) → 0 < parent cs j → j ≡ 1
  one j h = ⊎_elim (λ e. e) (λ ne. absurd (omega (arith, ap (λ c. nat c.check) (other j ne)))) (cases_eq j 1)

  empty_index : Indexed cs is
  empty_index = record { leads = λ j n b lt. absurd (no_leaf j n b); entered = λ n h. absurd (omega (arith, zeros n)) }

  bare : 1 < length cs → Tidy cs is
  bare long = record {
    tree = record {
      root = ap (λ c. c.check) (all 1 long);
      blanks = λ t e. other t (λ q. omega (arith, ap (parent cs) q, ap (λ c. nat c.check) (all 1 long)));
      reach = λ t h. ([], one t h);
    };
    whole = λ t h ne. absurd (ne (one t h));
    bare = λ e. ap (λ c. c.base) (all 1 long);
    indexed = empty_index;
  }

  short_free : length cs < 2 → (j : ℕ) → at cs j ≡ free_cell
  short_free short j = ⊎_elim (λ e. get_or_past cs j free_cell (omega arith)) (other j) (cases_eq j 1)

  short : length cs < 2 → Sound cs is
  short few = record {
    rooted = λ long. absurd (omega arith);
    bare = λ long. absurd (omega arith);
    blank = λ t e. short_free few t;
    reached = λ t h. absurd (omega (arith, ap (λ c. nat c.check) (short_free few t)));
    ended = λ t h ne. absurd (omega (arith, ap (λ c. nat c.check) (short_free few t)));
    leads = leads_from cs is empty_index;
    entered = empty_index.entered;
  }

  pub starting : Starts cs is
  starting = record {
    sound = ⊎_elim (λ few. short few) (λ long. sound_of cs is (bare (omega arith))) (cases_lt (length cs) 2);
    none = λ p. number_none cs p (λ n h. no_leaf h.0 n h.2);
  }

-- cell 0
pub unused : (cs : List Cell) (is : List ℕ) → Sound cs is → at cs 0 ≡ free_cell
unused cs is h =
    ⊎_elim (h.blank 0) (λ nz. let w = reach_of cs is h 0 (omega arith) in absurd (omega (arith, reach_some cs w.0 0 w.1))) (cases_eq (parent cs 0) 0)

-- climbing
pub climbing : (cs : List Cell) (is p : List ℕ) (t : ℕ) → 1 < length cs → Sound cs is → cell_at cs p ≡ Some t → Climbs cs p t
climbing cs is p t long h e =
    let k = tidy_of cs is h long in
    let r = cell_reach cs p t e in
    record {
      path = path_is cs k.tree (turned p []) t r ∙ turned_back p;
      short = omega (arith, depth cs k.tree (turned p []) t r, length_turned p []);
    }

-- the index
module _ (cs : List Cell) (is : List ℕ) (n : ℕ) (h : Sound cs is) where
  long_from : (t : ℕ) → 0 < t → (at cs t).base ≡ negsuc n → 1 < length cs
  long_from t some b = omega (arith, within cs t (leaf_used cs h.blank t n b))

  pub indexing : Indexes cs is n
  indexing = record {
    path = λ p e lt.
        let k = number_held cs p n e in
        let some : 0 < k.0 = reach_some cs (turned p []) k.0 k.1 in
        let t = tidy_of cs is h (long_from k.0 some k.2) in
        let there : get_or is n 0 ≡ k.0 = t.indexed.leads k.0 n k.2 lt in
        (omega arith, ap (path_to cs) there ∙ path_is cs t.tree (turned p []) k.0 k.1 ∙ turned_back p);
    leaf = λ some.
        let v : ℕ = get_or is n 0 in
        let b = h.entered n some in
        let t = tidy_of cs is h (long_from v some b) in
        let w = t.tree.reach v (leaf_used cs h.blank v n b) in
        let path : path_to cs v ≡ turned w.0 [] = path_is cs t.tree w.0 v w.1 in
        ap (number_at cs) path ∙ held_number cs (turned w.0 []) n (v, subst (λ l. Reach cs l v) (sym (turned_back w.0)) w.1, b);
  }
