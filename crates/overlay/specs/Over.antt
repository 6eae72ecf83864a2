-- What a list above another means, by what both lists mean.
use Rattle.std.specs.Prelude.{◌≡◌, ℕ, ◌+◌, Bool, ◌&&◌, List, ◌++◌, length, nat_lt, ◌↔◌}

module _ {L U : Type 0} (lower : L → List (List ℕ)) (upper : U → List (List ℕ)) where
  -- its roll: the words of the lower list, and then those of the upper
  abbrev pub RollOver : (L × U → List (List ℕ)) → Type 0
  RollOver roll = (v : L × U) → roll v ≡ lower v.0 ++ upper v.1

  -- its room: a number is left, and the upper list has room
  abbrev pub RoomOver : (U → List ℕ → Bool) → (L × U → List ℕ → Bool) → Type 0
  RoomOver above room =
      (v : L × U) (w : List ℕ) → room v w ≡ (nat_lt (length (lower v.0) + length (upper v.1)) 65535 && above v.1 w)

-- an entry into it: one into the upper list, which leaves the lower as it is
abbrev pub EntersOver : {L U : Type 0} → (U → List ℕ → U → Type 0) → (L × U → List ℕ → L × U → Type 0) → Type 0
EntersOver {L} {U} above enters = (s t : L × U) (w : List ℕ) → enters s w t ↔ (above s.1 w t.1 × (t.0 ≡ s.0))
