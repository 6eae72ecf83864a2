-- What each call refuses, in its order. A list of refusals pairs each with the test by which it applies.
use Rattle.std.specs.Prelude.{ℕ, Bool, cond, not, List, [], ◌∷◌, ◌++◌, is_some, Some, None, Option, ◌==◌, nat_lt}
use Rattle.refusal.specs.declared.Side.{Side}
use Rattle.refusal.specs.declared.Side.TheVariants.{First, Second}
use Rattle.refusal.specs.declared.Refusal.{Refusal}
use Rattle.refusal.specs.declared.Refusal.TheVariants.{WordLength, RelationZero, RecordUnsound, UnknownWord, NoRoom, TriplePresent, TripleAbsent, NoPlace, NumbersHeld, UnknownLink, OutputTooShort}
use Rattle.script.specs.Words.{word_sized}

-- the first refusal that applies
abbrev pub first : List (Bool × Refusal) → Option Refusal
first [] = None
first (c ∷ cs) = cond c.0 (Some c.1) (first cs)

-- whether nothing was found
abbrev pub none : {X : Type 0} → Option X → Bool
none o = not (is_some o)

-- the word on a side has no symbol or more than 32
abbrev pub length_refusal : {S : Type 0} → List S → Side → Bool × Refusal
length_refusal x side = (not (word_sized x), WordLength side)

-- the word on a side is not in the list, where a is the number that the roll has for it
abbrev pub unknown_refusal : Option ℕ → Side → Bool × Refusal
unknown_refusal a side = (none a, UnknownWord side)

-- of two words and a relation: both lengths, and the relation 0
abbrev pub word_refusals : {S : Type 0} → List S → List S → ℕ → List (Bool × Refusal)
word_refusals x y q = length_refusal x First ∷ length_refusal y Second ∷ (q == 0, RelationZero) ∷ []

-- of words that the list is to have, by the numbers that the roll has for them
abbrev pub unknown_refusals : Option ℕ → Option ℕ → List (Bool × Refusal)
unknown_refusals a b = unknown_refusal a First ∷ unknown_refusal b Second ∷ []

-- of a triple that is sought: its words and relation, words that are not in the list, and that it is not present
abbrev pub sought_refusals : {S : Type 0} → List S → List S → ℕ → Option ℕ → Option ℕ → Bool → List (Bool × Refusal)
sought_refusals x y q a b held = word_refusals x y q ++ unknown_refusals a b ++ (not held, TripleAbsent) ∷ []

-- of two words, a relation and a record: it is not sound
abbrev pub put_refusals : {S : Type 0} → List S → List S → ℕ → Bool → List (Bool × Refusal)
put_refusals x y q good = word_refusals x y q ++ (not good, RecordUnsound) ∷ []

-- of a new triple: it is present, every number is held, its code has no place
abbrev pub link_refusals : Bool → Bool → Bool → List (Bool × Refusal)
link_refusals held full place = (held, TriplePresent) ∷ (full, NumbersHeld) ∷ (not place, NoPlace) ∷ []

-- add, where a word lacks if it is new and has no room, and `links` are those of the new triple
abbrev pub add_refusals : {S : Type 0} → List S → List S → ℕ → Bool → Bool → Bool → List (Bool × Refusal)
    → List (Bool × Refusal)
add_refusals x y q good lacks_x lacks_y links =
    put_refusals x y q good ++ (lacks_x, NoRoom First) ∷ (lacks_y, NoRoom Second) ∷ links

-- tie, with the numbers a and b that the roll has for the words
abbrev pub tie_refusals : {S : Type 0} → List S → List S → ℕ → Bool → Option ℕ → Option ℕ → List (Bool × Refusal)
    → List (Bool × Refusal)
tie_refusals x y q good a b links = put_refusals x y q good ++ unknown_refusals a b ++ links

-- read, where `has` says that a present triple has the number
abbrev pub read_refusals : Bool → List (Bool × Refusal)
read_refusals has = (not has, UnknownLink) ∷ []

-- change
abbrev pub change_refusals : Bool → Bool → List (Bool × Refusal)
change_refusals has good = (not has, UnknownLink) ∷ (not good, RecordUnsound) ∷ []

-- list, with an output of so many places and so many rows to write
abbrev pub list_refusals : {S : Type 0} → List S → Option ℕ → ℕ → ℕ → List (Bool × Refusal)
list_refusals x a places rows =
    length_refusal x First ∷ unknown_refusal a First ∷ (nat_lt places rows, OutputTooShort) ∷ []
