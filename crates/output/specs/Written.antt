-- A list written into another at a place.
use Rattle.std.specs.Prelude.{◌≡◌, ℕ, ◌+◌, ◌<◌, ◌≤◌, Bool, List, ◌++◌, length, take, drop, Some, None, Option, nat_le}

-- the list has places for xs from `at` on
abbrev pub fits : {X : Type 0} → List X → ℕ → List X → Bool
fits out at xs = nat_le (at + length xs) (length out)

-- the list with xs written from `at` on: what stands before and after stays
unfoldable pub written : {X : Type 0} → List X → ℕ → List X → List X
written out at xs = take at out ++ (xs ++ drop (at + length xs) out)

-- xs fill the output from its start and how many they are is answered, or the output is too short and nothing is
-- written
abbrev pub Filled : {X : Type 0} → List X → List X → Option ℕ → List X → Type 0
Filled xs out None after = (length out < length xs) × (after ≡ out)
Filled xs out (Some n) after = (length xs ≤ length out) × (n ≡ length xs) × (after ≡ written out 0 xs)
