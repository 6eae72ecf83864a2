-- What a plain list means, and what its arrays hold.
use Rattle.std.specs.Prelude.{◌≡◌, ℕ, ◌-◌, min, Bool, ◌&&◌, List, [], length, take, vec_items, vec_len, sum_by, Vec, nat_le, nat_lt, slice_set}
use Rattle.std.specs.declared.alloc.Global.{Global}
use Rattle.output.specs.Written.{written}
use Rattle.plain_list.specs.Cuts.{cut}
use Rattle.plain_list.specs.declared.list.PlainList.{PlainList}

-- the words: as many as are counted, cut from the bytes by their lengths
abbrev pub roll_of : PlainList → List (List ℕ)
roll_of s = cut (take s.count (vec_items s.lengths)) (vec_items s.bytes)

-- how many bytes words take: one for each of their labels
abbrev pub bytes_in : List (List ℕ) → ℕ
bytes_in words = sum_by length words

-- room for a word: there are fewer words than lengths, up to 65,535, and it has no more labels than
-- there are bytes that no word uses, up to 8,388,608
abbrev pub room_of : PlainList → List ℕ → Bool
room_of s word =
    nat_lt (length (roll_of s)) (min (vec_len s.lengths) 65535)
    && nat_le (length word) (min (vec_len s.bytes) 8388608 - bytes_in (roll_of s))

-- a list newly made: the arrays as they were given, and no word
pub record IsNewPlainList (bytes lengths : Vec ℕ Global) (s : PlainList) : Type 0 where
  pub bytes_same : s.bytes ≡ bytes
  pub lengths_same : s.lengths ≡ lengths
  pub no_words : roll_of s ≡ []

-- the arrays of the list t are those of s with a word more: its bytes stand after those of the words,
-- its length after theirs, and every other byte and length is as it was
pub record Appended (s : PlainList) (word : List ℕ) (t : PlainList) : Type 0 where
  pub bytes_after : vec_items t.bytes ≡ written (vec_items s.bytes) (bytes_in (roll_of s)) word
  pub lengths_after : vec_items t.lengths ≡ slice_set (vec_items s.lengths) (length (roll_of s)) (length word)
