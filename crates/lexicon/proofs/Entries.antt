-- What an entry answers and leaves, case by case.
use Rattle.std.proofs.Common.{◌≡◌, ℕ, ◌+◌, Bool, true, false, not, ◌&&◌, List, [], ◌∷◌, ◌++◌, length, is_some, None, Ok, Err, Option, sym, ap, ◌∙◌, subst}
use Rattle.std.proofs.lemmas.Bool.{cond-true, and_from, and_right}
use Rattle.lexicon.specs.declared.ListFault.TheVariants.{WordLength, NoRoom}
use Rattle.lexicon.specs.Rolls.{label_sized, number_of, Lawful}
use Rattle.lexicon.specs.Answers.{held_or_next, enter_answer, is_new, EnterLeaves}

-- a word of the right length that the roll lacks, with room
module _ (roll : List (List ℕ)) (room : Bool) (word : List ℕ) (sized : label_sized word ≡ true) (absent : number_of roll word ≡ None) (free : room ≡ true) where
  pub new_answer : enter_answer roll room word ≡ Ok (length roll + 1)
  new_answer =
      cond-true (label_sized word) (held_or_next (number_of roll word) room (length roll)) (Err WordLength) sized
      ∙ ap (λ (o : Option ℕ). held_or_next o room (length roll)) absent ∙ ap (λ (b : Bool). held_or_next None b (length roll)) free

  pub new_is : is_new roll room word ≡ true
  new_is =
      and_from (label_sized word) (not (is_some (number_of roll word)) && room) sized
      (and_from (not (is_some (number_of roll word))) room (ap (λ (o : Option ℕ). not (is_some o)) absent) free)

-- what a new word leaves
pub leaves_new : {L : Type 0} (roll : L → List (List ℕ)) (enters : L → List ℕ → L → Type 0) (s : L) (word : List ℕ) (t : L) (b : Bool)
    → b ≡ true → enters s word t → roll t ≡ roll s ++ word ∷ [] → Lawful (roll t) → EnterLeaves roll enters s word t b
leaves_new roll enters s word t b new arrays grown kept = subst (λ (z : Bool). EnterLeaves roll enters s word t z) (sym new) (arrays, grown, kept)

-- a word of the right length that the roll lacks, without room
module _ (roll : List (List ℕ)) (room : Bool) (word : List ℕ) (sized : label_sized word ≡ true) (absent : number_of roll word ≡ None) (full : room ≡ false) where
  pub full_answer : enter_answer roll room word ≡ Err NoRoom
  full_answer =
      cond-true (label_sized word) (held_or_next (number_of roll word) room (length roll)) (Err WordLength) sized
      ∙ ap (λ (o : Option ℕ). held_or_next o room (length roll)) absent ∙ ap (λ (b : Bool). held_or_next None b (length roll)) full

  pub full_is : is_new roll room word ≡ false
  full_is = and_right (label_sized word) (not (is_some (number_of roll word)) && room) (and_right (not (is_some (number_of roll word))) room full)

-- what a word that is not entered leaves
pub leaves_same : {L : Type 0} (roll : L → List (List ℕ)) (enters : L → List ℕ → L → Type 0) (s : L) (word : List ℕ) (t : L) (b : Bool)
    → b ≡ false → t ≡ s → EnterLeaves roll enters s word t b
leaves_same roll enters s word t b old same = subst (λ (z : Bool). EnterLeaves roll enters s word t z) (sym old) same
