-- How a command is written, and that lines and commands belong together one to one.
use Rattle.std.specs.Prelude.{◌≡◌, ℕ, ◌≤◌, List, [], ◌∷◌, ◌++◌, length, Some, decimal, All, ◌≢◌}
use Rattle.command.specs.Commands.{Asked, add, tie, delete, find, share, list, letter, asked_by}

-- fields with a tab before each
unfoldable pub tabbed : List (List ℕ) → List ℕ
tabbed [] = []
tabbed (f ∷ fs) = 9 ∷ (f ++ tabbed fs)

-- a command as it is written
abbrev pub line_of : Asked → List ℕ
line_of (add x y q c) = letter "A" ∷ tabbed (x ∷ (y ∷ (decimal q ∷ (decimal c ∷ []))))
line_of (tie x y q c) = letter "T" ∷ tabbed (x ∷ (y ∷ (decimal q ∷ (decimal c ∷ []))))
line_of (delete x y q) = letter "D" ∷ tabbed (x ∷ (y ∷ (decimal q ∷ [])))
line_of (find x y q) = letter "F" ∷ tabbed (x ∷ (y ∷ (decimal q ∷ [])))
line_of (share x y q) = letter "S" ∷ tabbed (x ∷ (y ∷ (decimal q ∷ [])))
line_of (list x q) = letter "L" ∷ tabbed (x ∷ (decimal q ∷ []))

-- a word without a tab
abbrev pub Tabless : List ℕ → Type 0
Tabless word = All (λ b. b ≢ 9) word

-- the words have no tab, and the numbers are within their limits
abbrev pub Writable : Asked → Type 0
Writable (add x y q c) = Tabless x × Tabless y × (q ≤ 255) × (c ≤ 4294967295)
Writable (tie x y q c) = Tabless x × Tabless y × (q ≤ 255) × (c ≤ 4294967295)
Writable (delete x y q) = Tabless x × Tabless y × (q ≤ 255)
Writable (find x y q) = Tabless x × Tabless y × (q ≤ 255)
Writable (share x y q) = Tabless x × Tabless y × (q ≤ 255)
Writable (list x q) = Tabless x × (q ≤ 255)

-- a line is the text of a sound command, and not too long
pub record Writes (line : List ℕ) (asked : Asked) : Type 0 where
  pub text : line ≡ line_of asked
  pub sound : Writable asked
  pub short : length line ≤ 127

-- a line asks for a command just where it is the text of that command
pub record OneToOne : Type 0 where
  pub read : (line : List ℕ) (asked : Asked) → Writes line asked → asked_by line ≡ Some asked
  pub only : (line : List ℕ) (asked : Asked) → asked_by line ≡ Some asked → Writes line asked
