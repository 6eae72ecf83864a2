-- What the calls of a word list answer and leave, by its roll.
use Rattle.std.specs.Prelude.{◌≡◌, ℕ, ◌+◌, Bool, true, false, cond, not, ◌&&◌, List, [], ◌∷◌, ◌++◌, length, is_some, Some, None, Ok, Err, Option, Result}
use Rattle.lexicon.specs.declared.ListFault.{ListFault}
use Rattle.lexicon.specs.declared.ListFault.TheVariants.{WordLength, UnknownWord, NoRoom, OutputTooShort}
use Rattle.output.specs.Written.{fits, written}
use Rattle.lexicon.specs.Rolls.{label_sized, number_of, word_of, numbered, Lawful}

-- finding a word: its number or none; a spelling of the wrong length is refused
abbrev pub find_answer : List (List ℕ) → List ℕ → Result (Option ℕ) ListFault
find_answer roll word = cond (label_sized word) (Ok (number_of roll word)) (Err WordLength)

-- spelling the word of a number: how many labels it has; an unknown number is refused, then a short output
abbrev pub word_answer : List (List ℕ) → ℕ → List ℕ → Result ℕ ListFault
word_answer roll number out =
    cond (numbered roll number)
    (cond (fits out 0 (word_of roll number)) (Ok (length (word_of roll number))) (Err OutputTooShort))
    (Err UnknownWord)

-- what the output holds then: the word from its start and the rest as it was, or all as it was
abbrev pub word_output : List (List ℕ) → ℕ → List ℕ → List ℕ
word_output roll number out =
    cond (numbered roll number) (cond (fits out 0 (word_of roll number)) (written out 0 (word_of roll number)) out) out

-- entering a word of the right length: the number that it has, or else, with room, the next after the last
abbrev pub held_or_next : Option ℕ → Bool → ℕ → Result ℕ ListFault
held_or_next (Some number) room count = Ok number
held_or_next None true count = Ok (count + 1)
held_or_next None false count = Err NoRoom

-- entering a word: its number; a spelling of the wrong length is refused, then a new word without room
abbrev pub enter_answer : List (List ℕ) → Bool → List ℕ → Result ℕ ListFault
enter_answer roll room word = cond (label_sized word) (held_or_next (number_of roll word) room (length roll))
    (Err WordLength)

-- whether the roll gets the word: its length is right, the roll lacks it, and there is room
abbrev pub is_new : List (List ℕ) → Bool → List ℕ → Bool
is_new roll room word = label_sized word && (not (is_some (number_of roll word)) && room)

-- the list t after s was asked to enter the word: with the new word last and a lawful roll, or the very same list
abbrev pub EnterLeaves : {L : Type 0} → (L → List (List ℕ)) → (L → List ℕ → L → Type 0) → L → List ℕ → L → Bool → Type 0
EnterLeaves roll enters s word t true = enters s word t × (roll t ≡ roll s ++ word ∷ []) × Lawful (roll t)
EnterLeaves roll enters s word t false = t ≡ s

-- the same of a list that judges by its room whether the word is new
abbrev pub EnterChanges : {L : Type 0} → (L → List (List ℕ)) → (L → List ℕ → Bool) → (L → List ℕ → L → Type 0) → L → List ℕ
    → L → Type 0
EnterChanges roll room enters s word t = EnterLeaves roll enters s word t (is_new (roll s) (room s word) word)
