-- The examples of words, by computing.
use Rattle.std.proofs.Common.{ℕ, [], ◌∷◌, replicate, pos, negsuc, refl, ap, ◌∙◌}
use Rattle.cells.specs.Cells.{free_cell, codes_below}
use Rattle.cells.specs.Placing.{Arrays, moved_list}
use Rattle.cells.specs.Examples.{with_cells}
use Rattle.worked_examples.specs.Examples.{a_word, b_word, ab_word, held_by, TrieParts, list_reported, WordExamples}
use Rattle.worked_examples.proofs.Words.{new_held, entered, refused}
use Rattle.worked_examples.proofs.Words.{starts as list_starts}

-- a list of n cells with a
abbrev with_a : ℕ → Arrays
with_a n = record {
  cells = with_cells (replicate n free_cell) (
      record { place = 1; base = pos 1; check = 1 } ∷ record { place = 2; base = negsuc 0; check = 100 } ∷ record { place = 100; base = pos 1; check = 1 } ∷ []);
  index = 2 ∷ 0 ∷ 0 ∷ [];
}

-- with a and b
abbrev with_b : ℕ → Arrays
with_b n = record {
  cells = with_cells (replicate n free_cell) (
      record { place = 1; base = pos 1; check = 1 } ∷ record { place = 2; base = negsuc 0; check = 100 } ∷ record { place = 3; base = negsuc 1; check = 101 }
      ∷ record { place = 100; base = pos 1; check = 1 } ∷ record { place = 101; base = pos 2; check = 1 } ∷ []);
  index = 2 ∷ 3 ∷ 0 ∷ [];
}

-- with a, b and ab
abbrev with_ab : Arrays
with_ab = record {
  cells = with_cells (replicate 104 free_cell) (
      record { place = 1; base = pos 1; check = 1 } ∷ record { place = 2; base = negsuc 2; check = 103 } ∷ record { place = 3; base = negsuc 1; check = 101 }
      ∷ record { place = 4; base = negsuc 0; check = 100 } ∷ record { place = 100; base = pos 3; check = 1 } ∷ record { place = 101; base = pos 2; check = 1 }
      ∷ record { place = 103; base = pos 1; check = 100 } ∷ []);
  index = 4 ∷ 3 ∷ 2 ∷ [];
}

-- what a list holds with so many words
abbrev counted : Arrays → ℕ → TrieParts
counted xs n = record { cells = xs.cells; index = xs.index; count = n }

pub examples : WordExamples
unfolding codes_below moved_list
examples = record {
  three_words = λ run.
      let a = entered run.fresh run.with_a a_word run.a_answer run.a_entered (new_held 104) (list_starts 104 run.fresh refl run.made) 1 (with_a 104) refl refl refl in
      let b = entered run.with_a run.with_b b_word run.b_answer run.b_entered (counted (with_a 104) 1) a.1 2 (with_b 104) refl refl refl in
      let ab = entered run.with_b run.with_ab ab_word run.ab_answer run.ab_entered (counted (with_b 104) 2) b.1 3 with_ab refl refl refl in
      (a.0, b.0, ab.0, ab.1);
  two_words = λ run.
      let a = entered run.fresh run.with_a a_word run.a_answer run.a_entered (new_held 103) (list_starts 103 run.fresh refl run.made) 1 (with_a 103) refl refl refl in
      let b = entered run.with_a run.with_b b_word run.b_answer run.b_entered (counted (with_a 103) 1) a.1 2 (with_b 103) refl refl refl in
      let ab = refused run.with_b run.with_ab ab_word run.ab_answer run.ab_entered (counted (with_b 103) 2) b.1 refl refl in
      (a.0, b.0, ap list_reported ab.0, ab.1, ap held_by ab.1 ∙ b.1);
  noun = refl;
}
