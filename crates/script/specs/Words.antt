-- Words of symbols, and how they are spelled.
use Rattle.std.specs.Prelude.{◌≡◌, ℕ, Bool, cond, ◌&&◌, List, length, Ok, Err, Result, nat_le}
use Rattle.std.specs.List.{flat_map}
use Rattle.script.specs.declared.SpellFault.{SpellFault}
use Rattle.script.specs.declared.SpellFault.TheVariants.{WordLength}

-- whether a row of symbols is a word: 1 to 32 of them
abbrev pub word_sized : {S : Type 0} → List S → Bool
word_sized word = nat_le 1 (length word) && nat_le (length word) 32

-- the labels of a word: those of its symbols, one symbol after another
abbrev pub spelled : {S : Type 0} → (S → List ℕ) → List S → List ℕ
spelled spelling word = flat_map spelling word

-- what spelling a word answers: its labels, or the refusal
abbrev pub spell_answer : {S : Type 0} → (S → List ℕ) → List S → Result (List ℕ) SpellFault
spell_answer spelling word = cond (word_sized word) (Ok (spelled spelling word)) (Err WordLength)

-- no two words are spelled alike
abbrev pub WordsApart : {S : Type 0} → (S → List ℕ) → Type 0
WordsApart {S} spelling = (v w : List S) → spelled spelling v ≡ spelled spelling w → v ≡ w
