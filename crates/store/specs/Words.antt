-- Words of symbols, spelled and looked up: the parts that the calls are made of.
use Rattle.std.specs.Prelude.{◌≡◌, ℕ, ◌+◌, Bool, true, false, ◌&&◌, List, length, Some, None, Ok, Err, Option, Result}
use Rattle.refusal.specs.declared.Side.{Side}
use Rattle.refusal.specs.declared.Refusal.{Refusal}
use Rattle.refusal.specs.declared.Refusal.TheVariants.{WordLength, NoRoom}
use Rattle.script.specs.Words.{word_sized, spelled}
use Rattle.lexicon.specs.Rolls.{number_of}
use Rattle.lexicon.specs.Answers.{EnterLeaves}
use Rattle.link_table.specs.declared.triple.Triple.{Triple}
use Rattle.lexicon.specs.Growths.{Growth}
use Rattle.history.specs.Refusals.{first, none, word_refusals, unknown_refusals, put_refusals}

-- a word on a side has the right length, or it is refused
abbrev pub SizeTested : {S : Type 0} → List S → Side → Result (Unit {0}) Refusal → Type 0
SizeTested word side (Ok _) = word_sized word ≡ true
SizeTested word side (Err e) = (word_sized word ≡ false) × (e ≡ WordLength side)

-- both words have the right length and the relation is not 0, or the first refusal that applies
abbrev pub WordsTested : {S : Type 0} → List S → List S → ℕ → Result (Unit {0}) Refusal → Type 0
WordsTested x y q (Ok _) = first (word_refusals x y q) ≡ None
WordsTested x y q (Err e) = first (word_refusals x y q) ≡ Some e

-- the same with a record that is to be sound
abbrev pub NewTested : {S : Type 0} → List S → List S → ℕ → Bool → Result (Unit {0}) Refusal → Type 0
NewTested x y q good (Ok _) = first (put_refusals x y q good) ≡ None
NewTested x y q good (Err e) = first (put_refusals x y q good) ≡ Some e

-- the triple of two words that have the numbers a and b, or the first of them that has none
abbrev pub KnownTriple : Option ℕ → Option ℕ → ℕ → Result Triple Refusal → Type 0
KnownTriple a b q (Ok t) = (a ≡ Some t.x) × (b ≡ Some t.y) × (t.relation ≡ q)
KnownTriple a b q (Err e) = first (unknown_refusals a b) ≡ Some e

-- the same of two words of symbols, by a roll
abbrev pub KnownWords : {S : Type 0} → List (List ℕ) → (S → List ℕ) → List S → List S → ℕ → Result Triple Refusal → Type 0
KnownWords roll spelling x y q r = KnownTriple (number_of roll (spelled spelling x)) (number_of roll (spelled spelling y)) q r

-- entering a word of the right length, whose number was a: it keeps its number, or becomes the last, or has no room
abbrev pub entered_answer : Option ℕ → Bool → ℕ → Side → Result ℕ Refusal
entered_answer (Some a) room count side = Ok a
entered_answer None true count side = Ok (count + 1)
entered_answer None false count side = Err (NoRoom side)

-- a word of the right length was entered into s, which left t
abbrev pub EnteredWord : {L : Type 0} → (L → List (List ℕ)) → Growth L → L → List ℕ → Side → Result ℕ Refusal → L
    → Type 0
EnteredWord roll G s word side r t =
    (r ≡ entered_answer (number_of (roll s) word) (G.room s word) (length (roll s)) side)
    × EnterLeaves roll G.enters s word t (none (number_of (roll s) word) && G.room s word)
