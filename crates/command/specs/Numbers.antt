-- The numbers of a line: decimal digits with no leading zero, at most a limit.
use Rattle.std.specs.Prelude.{◌≡◌, ℕ, ◌+◌, ◌-◌, ◌*◌, ◌^◌, ◌<◌, ◌≤◌, Bool, cond, not, ◌&&◌, ◌||◌, List, [], ◌∷◌, length, Some, None, decimal, Option, ◌==◌, nat_le, slice_index}
use Rattle.std.specs.Str.{all_ascii_digits}

-- digits read on from n; byte 48 is the digit 0
unfoldable pub read_on : ℕ → List ℕ → ℕ
read_on n [] = n
read_on n (b ∷ bs) = read_on (10 * n + (b - 48)) bs

-- not empty, and with a zero first only where it stands alone
abbrev pub plain : List ℕ → Bool
plain s = nat_le 1 (length s) && (nat_le (length s) 1 || not (slice_index s 0 == 48))

-- the text is a number, and at most the limit
abbrev pub is_number : ℕ → List ℕ → Bool
is_number limit s = plain s && (all_ascii_digits s && nat_le (read_on 0 s) limit)

-- the number that a text writes
abbrev pub number_read : ℕ → List ℕ → Option ℕ
number_read limit s = cond (is_number limit s) (Some (read_on 0 s)) None

-- what is written of a number is read back, and nothing else is read
pub record ReadsBack (limit : ℕ) : Type 0 where
  -- the decimal text of a number within the limit
  pub written : (n : ℕ) → n ≤ limit → number_read limit (decimal n) ≡ Some n
  -- a number over the limit is none
  pub over : (n : ℕ) → n < 2 ^ 64 → limit < n → number_read limit (decimal n) ≡ None
  -- what is read as a number is its decimal text
  pub only : (s : List ℕ) (n : ℕ) → number_read limit s ≡ Some n → (s ≡ decimal n) × (n ≤ limit)
  -- an empty text is none, and a leading zero makes none
  pub empty : number_read limit [] ≡ None
  pub leading_zero : (b : ℕ) (bs : List ℕ) → number_read limit (48 ∷ (b ∷ bs)) ≡ None
