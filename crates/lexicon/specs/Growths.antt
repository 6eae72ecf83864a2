-- How lists grow: what a growing list's members mean together.
use Rattle.std.specs.Prelude.{ℕ, Bool, false, List}

-- how lists L grow
pub record Growth (L : Type 0) : Type 1 where
  -- whether there is room for a new word
  pub room : L → List ℕ → Bool
  -- what the list's own arrays hold after the word is entered
  pub enters : L → List ℕ → L → Type 0

-- the growth that a growing list gives
abbrev pub growth_of : {L : Type 0}
    → record { roll : L → List (List ℕ); room : L → List ℕ → Bool; enters : L → List ℕ → L → Type 0 } → Growth L
growth_of g = record { room = g.room; enters = g.enters }

-- growth where there is that room, whatever the list's own arrays hold
abbrev pub any_growth : {L : Type 0} → (L → List ℕ → Bool) → Growth L
any_growth room = record { room = room; enters = λ _ _ _. Unit {0} }

-- a list that is only read takes no word
abbrev pub no_growth : {L : Type 0} → Growth L
no_growth = any_growth (λ _ _. false)
