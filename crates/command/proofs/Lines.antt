-- A line by its letter, its tab and the rest.
use Rattle.std.proofs.Common.{◌≡◌, ℕ, ◌-◌, ◌<◌, ◌≤◌, List, length, get_or, take, drop, None, sym, ap, ◌∙◌}
use Rattle.std.proofs.lemmas.List.{take_rest}
use Rattle.std.proofs.lemmas.Bool.{eq-eqb, le-leb, lt-leb, and_from, and_left, cond-true, cond-false}
use Rattle.command.specs.Fields.{fields}
use Rattle.command.specs.Commands.{letter_asks, asked_by}

module _ (line : List ℕ) where
  pub line_long : 127 < length line → asked_by line ≡ None
  line_long long = cond-false _ _ _ (and_left _ _ (lt-leb (length line) 127 long))

  -- the letter, and the rest as the code has it
  pub line_asks : length line ≤ 127 → get_or line 1 0 ≡ 9 → (l : ℕ) → l ≡ get_or line 0 0 → letter_asks l (fields (take (length line - 2) (drop 2 line))) ≡ asked_by line
  line_asks short tab l e =
      ap (λ (k : ℕ). letter_asks k (fields (take (length line - 2) (drop 2 line)))) e
      ∙ ap (λ (rest : List ℕ). letter_asks (get_or line 0 0) (fields rest)) (take_rest line 2)
      ∙ sym (cond-true _ _ _ (and_from _ _ (le-leb (length line) 127 short) (eq-eqb (get_or line 1 0) 9 tab)))
