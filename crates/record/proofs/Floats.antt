-- The bounds of scores as the code writes them, and NaN.
use Rattle.std.proofs.Common.{◌≡◌, false, ◌&&◌, refl}
use lib.Ieee.{Float, nan, inf, fin, le, lt, eq, binary64, of_bits, of_fields, odd}
use Rattle.std.proofs.lemmas.Bool.{and_left, and_right}
use Rattle.record.specs.Soundness.{zero_float, one_float, million_float, NanUnsound}

pub zero_is : of_bits binary64 0 ≡ zero_float
unfolding of_bits of_fields odd
zero_is = refl

pub one_is : of_bits binary64 4607182418800017408 ≡ one_float
unfolding of_bits of_fields odd
one_is = refl

pub million_is : of_bits binary64 4696837146684686336 ≡ million_float
unfolding of_bits of_fields odd
million_is = refl

le_nan : (x : Float) → le x nan ≡ false
unfolding le lt eq
le_nan nan = refl
le_nan (inf s) = refl
le_nan (fin s m e) = refl

nan_le : (x : Float) → le nan x ≡ false
unfolding le lt eq
nan_le x = refl

pub nan_unsound : NanUnsound
nan_unsound = record {
  chance = and_left (le zero_float nan) (le nan one_float) (le_nan zero_float);
  cost = and_left (le zero_float nan) (le nan million_float) (le_nan zero_float);
  low = λ high. and_left (le zero_float nan && le nan high) (le high one_float) (and_left (le zero_float nan) (le nan high) (le_nan zero_float));
  high = λ low. and_right (le zero_float low && le low nan) (le nan one_float) (nan_le one_float);
}
