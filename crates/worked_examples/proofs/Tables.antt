-- The examples of triples, by computing.
use Rattle.std.proofs.Common.{◌≡◌, ℕ, ◌-◌, List, [], ◌∷◌, replicate, pos, negsuc, Some, Ok, refl, sym, ap, ◌∙◌, arith}
use Rattle.cells.specs.declared.Cell.{Cell}
use Rattle.cells.specs.Cells.{free_cell, codes_below}
use Rattle.cells.specs.Placing.{moved_list}
use Rattle.cells.specs.Examples.{new_arrays, with_cells}
use Rattle.cells.proofs.Basics.{some_same}
use Rattle.link_table.specs.Tables.{found}
use Rattle.link_table.specs.declared.triple.Triple.{Triple}
use Rattle.history.specs.Kits.{Kit, State}
use Rattle.history.specs.Calls.{figures_of}
use Rattle.worked_examples.specs.Triples.{reported, ThreeTies, TripleExamples}
use Rattle.worked_examples.proofs.Triples.{triple, link, KnownState, starts, counted, tied, stuck, taken}

-- the cells of a table of n cells after the first triple got the number u + 1
abbrev one_in : ℕ → ℕ → List Cell
one_in n u = with_cells (replicate n free_cell) (
    record { place = 1; base = pos 1; check = 1 } ∷ record { place = 3; base = pos 1; check = 1 } ∷ record { place = 4; base = pos 1; check = 3 }
    ∷ record { place = 5; base = pos 2; check = 7 } ∷ record { place = 6; base = negsuc u; check = 5 } ∷ record { place = 7; base = pos 3; check = 4 } ∷ [])

-- and the second v + 1
abbrev two_in : ℕ → ℕ → ℕ → List Cell
two_in n u v = with_cells (replicate n free_cell) (
    record { place = 1; base = pos 1; check = 1 } ∷ record { place = 3; base = pos 1; check = 1 } ∷ record { place = 4; base = pos 1; check = 3 }
    ∷ record { place = 5; base = pos 2; check = 7 } ∷ record { place = 6; base = negsuc u; check = 5 } ∷ record { place = 7; base = pos 3; check = 4 }
    ∷ record { place = 8; base = pos 7; check = 4 } ∷ record { place = 9; base = pos 6; check = 8 } ∷ record { place = 10; base = negsuc v; check = 9 } ∷ [])

-- and the third w + 1: the leaf of the first moved from 6 to 11
abbrev three_in : ℕ → ℕ → ℕ → List Cell
three_in u v w = with_cells (replicate 13 free_cell) (
    record { place = 1; base = pos 1; check = 1 } ∷ record { place = 3; base = pos 1; check = 1 } ∷ record { place = 4; base = pos 1; check = 3 }
    ∷ record { place = 5; base = pos 7; check = 7 } ∷ record { place = 7; base = pos 3; check = 4 } ∷ record { place = 8; base = pos 7; check = 4 }
    ∷ record { place = 9; base = pos 6; check = 8 } ∷ record { place = 10; base = negsuc v; check = 9 } ∷ record { place = 11; base = negsuc u; check = 5 }
    ∷ record { place = 12; base = negsuc w; check = 5 } ∷ [])

-- and the second was taken out
abbrev two_left : ℕ → ℕ → List Cell
two_left u w = with_cells (replicate 13 free_cell) (
    record { place = 1; base = pos 1; check = 1 } ∷ record { place = 3; base = pos 1; check = 1 } ∷ record { place = 4; base = pos 1; check = 3 }
    ∷ record { place = 5; base = pos 7; check = 7 } ∷ record { place = 7; base = pos 3; check = 4 } ∷ record { place = 11; base = negsuc u; check = 5 }
    ∷ record { place = 12; base = negsuc w; check = 5 } ∷ [])

-- triples of different relations differ
unlike : triple 1 5 2 ≡ triple 1 4 3 → ⊥
unlike e = let z : ◌≡◌ {A = ℕ} 5 4 = ap (λ (c : Triple). c.relation) e in absurd (omega arith)

module _ {S L R : Type 0} (K : Kit S L R) where
  -- what the three ties in 13 cells come to
  record AllIn (run : ThreeTies K 13) : Type 0 where
    u : ℕ
    v : ℕ
    w : ℕ
    one : run.one_answer ≡ Ok (link 1 2 u)
    two : run.two_answer ≡ Ok (link 1 2 v)
    three : run.three_answer ≡ Ok (link 1 3 w)
    second : found run.after.table (triple 1 5 2) ≡ Some v
    known : KnownState K run.fresh.store.list run.after (three_in (u - 1) (v - 1) (w - 1)) 3

  all_in : (run : ThreeTies K 13) → AllIn run
  unfolding codes_below moved_list
  all_in run =
      let new = run.fresh in
      let l = new.store.list in
      let one = tied K l new.store run.with_one (new_arrays 13 3).cells 0 (starts K 13 new refl) 1 2 new.one new.two 4 refl run.one_answer run.one_tied refl refl (one_in 13) (λ is n. refl) in
      let u = one.0 - 1 in
      let two = tied K l run.with_one run.with_two (one_in 13 u) 1 one.3 1 2 new.one new.two 5 refl run.two_answer run.two_tied refl refl (two_in 13 u) (λ is n. refl) in
      let v = two.0 - 1 in
      let three = tied K l run.with_two run.after (two_in 13 u v) 2 two.3 1 3 new.one new.three 4 refl run.three_answer run.three_tied refl refl (three_in u v) (λ is n. refl) in
      record { u = one.0; v = two.0; w = three.0; one = one.1; two = two.1; three = three.1; second = three.2.others (triple 1 5 2) unlike ∙ two.2.here; known = three.3 }

  pub triple_examples : TripleExamples K
  unfolding codes_below moved_list
  triple_examples = record {
    one_triple = λ run.
        let new = run.fresh in
        let l = new.store.list in
        let one = tied K l new.store run.after (new_arrays 8 3).cells 0 (starts K 8 new refl) 1 2 new.one new.two 4 refl run.answer run.tied refl refl (one_in 8) (λ is n. refl) in
        ((one.0, one.1), counted K l run.after (one_in 8 (one.0 - 1)) 1 one.3, one.3.list);
    no_triple = λ run.
        let new = run.fresh in
        let l = new.store.list in
        let cells = (new_arrays 7 3).cells in
        let start = starts K 7 new refl in
        let none = stuck K l new.store run.after cells 0 start 1 2 new.one new.two 4 refl run.answer run.tied refl refl (λ is. refl) in
        (ap reported none.0, none.1, ap (λ (s : State L R). figures_of s.table) none.1 ∙ counted K l new.store cells 0 start);
    three_triples = λ run.
        let all = all_in run in
        let cells = three_in (all.u - 1) (all.v - 1) (all.w - 1) in
        ((all.u, all.one), (all.v, all.two), (all.w, all.three), counted K run.fresh.store.list run.after cells 3 all.known, all.known.list);
    two_triples = λ run.
        let new = run.fresh in
        let l = new.store.list in
        let one = tied K l new.store run.with_one (new_arrays 12 3).cells 0 (starts K 12 new refl) 1 2 new.one new.two 4 refl run.one_answer run.one_tied refl refl (one_in 12) (λ is n. refl) in
        let u = one.0 - 1 in
        let two = tied K l run.with_one run.with_two (one_in 12 u) 1 one.3 1 2 new.one new.two 5 refl run.two_answer run.two_tied refl refl (two_in 12 u) (λ is n. refl) in
        let left = two_in 12 u (two.0 - 1) in
        let none = stuck K l run.with_two run.after left 2 two.3 1 3 new.one new.three 4 refl run.three_answer run.three_tied refl refl (λ is. refl) in
        let figures = ap (λ (s : State L R). figures_of s.table) none.1 ∙ counted K l run.with_two left 2 two.3 in
        ((one.0, one.1), (two.0, two.1), ap reported none.0, none.1, figures, ap (λ (s : State L R). s.list) none.1 ∙ two.3.list);
    one_out = λ run.
        let new = run.ties.fresh in
        let l = new.store.list in
        let all = all_in run.ties in
        let full = three_in (all.u - 1) (all.v - 1) (all.w - 1) in
        let left = two_left (all.u - 1) (all.w - 1) in
        let gone = taken K l run.ties.after run.after full 3 all.known 1 2 new.one new.two 5 refl run.answer run.deleted refl left (λ is. refl) in
        let same : gone.0 ≡ all.v = some_same gone.0 all.v (sym gone.2.had ∙ all.second) in
        (all.v, all.two, gone.1 ∙ ap (λ (n : ℕ). Ok n) same, counted K l run.after left 2 gone.3, gone.3.list, ap (λ (s : State L R). s.records) run.deleted.rest);
  }
