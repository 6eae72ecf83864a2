-- Rolls: the different words of a list, spelled in labels, in the order of their numbers.
use Rattle.std.specs.Prelude.{◌≡◌, ℕ, suc, ◌-◌, ◌<◌, ◌≤◌, Bool, true, cond, ◌&&◌, List, [], ◌∷◌, length, Some, None, Option, nat_le, slice_index_or}
use Rattle.std.specs.Str.{bytes_eq}

-- a spelled word has 1 to 128 labels
abbrev pub label_sized : List ℕ → Bool
label_sized word = nat_le 1 (length word) && nat_le (length word) 128

-- the number of the first of the words that is the one sought, where they are numbered from n
abbrev pub number_from : ℕ → List (List ℕ) → List ℕ → Option ℕ
number_from n [] word = None
number_from n (v ∷ more) word = cond (bytes_eq v word) (Some n) (number_from (suc n) more word)

-- the number of a word: the first word of the roll has 1, and each later one has one more than the word before it
abbrev pub number_of : List (List ℕ) → List ℕ → Option ℕ
number_of roll word = number_from 1 roll word

-- the word of a number
abbrev pub word_of : List (List ℕ) → ℕ → List ℕ
word_of roll number = slice_index_or roll (number - 1) []

-- some word has the number
abbrev pub numbered : List (List ℕ) → ℕ → Bool
numbered roll number = nat_le 1 number && nat_le number (length roll)

-- the places i and j of the roll have the same word
abbrev pub Alike : List (List ℕ) → ℕ → ℕ → Type 0
Alike roll i j = (i < length roll) × (j < length roll) × (slice_index_or roll i [] ≡ slice_index_or roll j [])

-- each word has 1 to 128 labels
abbrev pub Sized : List (List ℕ) → Type 0
Sized roll = (k : ℕ) → k < length roll → label_sized (slice_index_or roll k []) ≡ true

-- no two words are alike
abbrev pub Distinct : List (List ℕ) → Type 0
Distinct roll = (i j : ℕ) → Alike roll i j → i ≡ j

-- what holds of every roll: at most 65,535 words, each of 1 to 128 labels, no two alike
pub record Lawful (roll : List (List ℕ)) : Type 0 where
  pub few : length roll ≤ 65535
  pub sized : Sized roll
  pub apart : Distinct roll
