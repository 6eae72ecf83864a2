-- Which records are sound.
use Rattle.std.specs.Prelude.{◌≡◌, Bool, false, ◌&&◌, pos, nat_le, Float}
use Rattle.std.specs.Float.{nan, fin}
use Rattle.std.specs.Float.Ieee.{le}
use Rattle.record.specs.declared.Tally.{Tally}
use Rattle.record.specs.declared.Score.{Score}
use Rattle.record.specs.declared.Score.TheVariants.{Chance, Cost, Band}

-- the number 0
abbrev pub zero_float : Float
zero_float = fin false 0 (pos 0)

-- the number 1
abbrev pub one_float : Float
one_float = fin false 1 (pos 0)

-- the number 1,000,000, which is 15,625 times 2 to the 6th
abbrev pub million_float : Float
million_float = fin false 15625 (pos 6)

-- the test of a tally: its count is neither below 1 nor above 1,000,000,000
abbrev pub sound_tally : Tally → Bool
sound_tally tally = nat_le 1 tally.count && nat_le tally.count 1000000000

-- the test of a score, by its case; the chances of a band are in order too
abbrev pub sound_score : Score → Bool
sound_score (Chance chance) = le zero_float chance && le chance one_float
sound_score (Cost cost) = le zero_float cost && le cost million_float
sound_score (Band low high) = le zero_float low && le low high && le high one_float

-- a score that has a NaN fails the test
pub record NanUnsound : Type 0 where
  pub chance : sound_score (Chance nan) ≡ false
  pub cost : sound_score (Cost nan) ≡ false
  pub low : (high : Float) → sound_score (Band nan high) ≡ false
  pub high : (low : Float) → sound_score (Band low nan) ≡ false
