-- How an entry follows from what the list answers, and that it keeps the numbers of words.
use Rattle.std.proofs.Common.{◌≡◌, ℕ, ◌+◌, ◌≤◌, Bool, true, false, cond, not, ◌&&◌, ltb, List, [], ◌∷◌, ◌++◌, length, is_some, IfOk, Some, None, Ok, Err, Option, Result, sym, refl, ap, ◌∙◌, subst, inl, inr, ⊎_elim, arith}
use Rattle.std.proofs.lemmas.Bool.{cond-true, cond-false, cases_Bool, lt-ltb, le-ltb}
use Rattle.refusal.specs.declared.Side.TheVariants.{Neither}
use Rattle.lexicon.specs.declared.ListFault.{ListFault}
use Rattle.lexicon.specs.declared.ListFault.TheVariants.{WordLength as BadLength}
use Rattle.refusal.specs.declared.Refusal.{Refusal}
use Rattle.refusal.specs.declared.Refusal.TheVariants.{WordLength, NoRoom}
use Rattle.refusal.specs.Reports.{list_refusal}
use Rattle.script.specs.declared.SpellFault.TheVariants.{WordLength as TooLong}
use Rattle.script.specs.Words.{word_sized, spelled, spell_answer, WordsApart}
use Rattle.lexicon.specs.Rolls.{label_sized, number_of}
use Rattle.lexicon.specs.Answers.{held_or_next, enter_answer, is_new, EnterLeaves}
use Rattle.lexicon.proofs.Numbers.{bounds_label, number_some, number_from_kept, number_from_last, number_from_only}
use Rattle.entry.specs.declared.WordEntry.{WordEntry}
use Rattle.entry.specs.declared.WordEntry.TheVariants.{New, Known}
use Rattle.entry.specs.Entries.{held_or_new, entry_answer, number_entered, KeepsNumbers}

-- what the list's answer becomes, where the list had so many words before
abbrev pub entry_from : ℕ → Result ℕ ListFault → Result WordEntry Refusal
entry_from count (Ok number) = cond (ltb count number) (Ok (New number)) (Ok (Known number))
entry_from count (Err fault) = Err (list_refusal fault Neither)

-- the list's roll after the call
abbrev pub RollLeaves : List (List ℕ) → List ℕ → List (List ℕ) → Bool → Type 0
RollLeaves before word after true = after ≡ before ++ word ∷ []
RollLeaves before word after false = after ≡ before

pub roll_leaves : {L : Type 0} (roll : L → List (List ℕ)) (enters : L → List ℕ → L → Type 0) (s : L) (word : List ℕ) (t : L) (b : Bool)
    → EnterLeaves roll enters s word t b → RollLeaves (roll s) word (roll t) b
roll_leaves roll enters s word t true leaves = leaves.1
roll_leaves roll enters s word t false leaves = ap roll leaves

module _ {S : Type 0} (spelling : S → List ℕ) (before : List (List ℕ)) (room : Bool) (word : List S) where
  -- a held number is at most the count, a new one above it
  from_next : (o : Option ℕ) (b : Bool) → number_of before (spelled spelling word) ≡ o → entry_from (length before) (held_or_next o b (length before)) ≡ held_or_new o b (length before)
  from_next (Some n) b e =
      cond-false (ltb (length before) n) (Ok (New n)) (Ok (Known n)) (le-ltb (length before) n (number_some before (spelled spelling word) n e).1)
  from_next None true e =
      cond-true (ltb (length before) (length before + 1)) (Ok (New (length before + 1))) (Ok (Known (length before + 1))) (lt-ltb (length before) (length before + 1) (omega arith))
  from_next None false e = refl

  -- the answer, where the word has the right length
  pub entry_is : word_sized word ≡ true → label_sized (spelled spelling word) ≡ true
      → (count : ℕ) → count ≡ length before → (told : Result ℕ ListFault) → told ≡ enter_answer before room (spelled spelling word)
      → entry_from count told ≡ entry_answer spelling before room word
  entry_is sized labels count counted told answer =
      ap (λ (n : ℕ). entry_from n told) counted
      ∙ ap (entry_from (length before)) (answer ∙ cond-true (label_sized (spelled spelling word)) (held_or_next (number_of before (spelled spelling word)) room (length before)) (Err BadLength) labels)
      ∙ from_next (number_of before (spelled spelling word)) room refl
      ∙ sym (cond-true (word_sized word) (held_or_new (number_of before (spelled spelling word)) room (length before)) (Err (WordLength Neither)) sized)

  -- nothing was entered
  same_roll : (after : List (List ℕ)) (x : Result WordEntry Refusal) → after ≡ before → IfOk x (λ entry. number_of before (spelled spelling word) ≡ Some (number_entered entry)) → KeepsNumbers spelling before word after x
  same_roll after x same found = record {
    kept = λ v n e. ap (λ (r : List (List ℕ)). number_of r (spelled spelling v)) same ∙ e;
    only = λ v n e. inl (sym (ap (λ (r : List (List ℕ)). number_of r (spelled spelling v)) same) ∙ e);
    entered = subst (λ (r : List (List ℕ)). IfOk x (λ entry. number_of r (spelled spelling word) ≡ Some (number_entered entry))) (sym same) found;
  }

  -- the word is the last of the roll
  grown_roll : WordsApart spelling → (after : List (List ℕ)) → after ≡ before ++ spelled spelling word ∷ [] → number_of before (spelled spelling word) ≡ None
      → KeepsNumbers spelling before word after (Ok (New (length before + 1)))
  grown_roll apart after grown absent = record {
    kept = λ v n e. ap (λ (r : List (List ℕ)). number_of r (spelled spelling v)) grown ∙ number_from_kept 1 before (spelled spelling word) (spelled spelling v) n e;
    only = λ v n e.
        ⊎_elim (λ found. inl found) (λ same. inr (apart v word same))
        (number_from_only 1 before (spelled spelling word) (spelled spelling v) n (sym (ap (λ (r : List (List ℕ)). number_of r (spelled spelling v)) grown) ∙ e));
    entered =
        ap (λ (r : List (List ℕ)). number_of r (spelled spelling word)) grown ∙ number_from_last 1 before (spelled spelling word) absent
        ∙ ap (λ k. Some k) (let z : 1 + length before ≡ length before + 1 = omega arith in z);
  }

  by_cases : WordsApart spelling → (after : List (List ℕ)) (o : Option ℕ) (b : Bool) → number_of before (spelled spelling word) ≡ o
      → RollLeaves before (spelled spelling word) after (not (is_some o) && b) → KeepsNumbers spelling before word after (held_or_new o b (length before))
  by_cases apart after (Some n) b e leaves = same_roll after (Ok (Known n)) leaves e
  by_cases apart after None true e leaves = grown_roll apart after leaves e
  by_cases apart after None false e leaves = same_roll after (Err (NoRoom Neither)) leaves tt

  -- the numbers of words, where the word has the right length
  pub keeps_numbers : WordsApart spelling → word_sized word ≡ true → label_sized (spelled spelling word) ≡ true
      → (after : List (List ℕ)) → RollLeaves before (spelled spelling word) after (is_new before room (spelled spelling word))
      → (x : Result WordEntry Refusal) → x ≡ entry_answer spelling before room word → KeepsNumbers spelling before word after x
  keeps_numbers apart sized labels after leaves x answer =
      let o = number_of before (spelled spelling word) in
      let new : is_new before room (spelled spelling word) ≡ (not (is_some o) && room) = ap (λ (b : Bool). b && (not (is_some o) && room)) labels in
      let said : x ≡ held_or_new o room (length before) = answer ∙ cond-true (word_sized word) (held_or_new o room (length before)) (Err (WordLength Neither)) sized in
      subst (λ (z : Result WordEntry Refusal). KeepsNumbers spelling before word after z) (sym said)
      (by_cases apart after o room refl (subst (λ (b : Bool). RollLeaves before (spelled spelling word) after b) new leaves))

-- a word that was spelled: its size is right, and these are its labels
pub record Spelled {S : Type 0} (spelling : S → List ℕ) (word : List S) (slice : List ℕ) : Type 0 where
  pub sized : word_sized word ≡ true
  pub labels : label_sized (spelled spelling word) ≡ true
  pub same : slice ≡ spelled spelling word

pub spelled_slice : {S : Type 0} (spelling : S → List ℕ) (word : List S) (labels slice : List ℕ) → slice ≡ labels
    → Ok labels ≡ spell_answer spelling word → (1 ≤ length labels) × (length labels ≤ 128)
    → Spelled spelling word slice
spelled_slice spelling word labels slice whole answer bounds =
    ⊎_elim
    (λ fit.
    let said : Ok labels ≡ Ok w = answer ∙ cond-true (word_sized word) (Ok w) (Err TooLong) fit in
    let same : labels ≡ w = cc in
    record {
      sized = fit;
      labels = bounds_label w (omega (arith, bounds.0, ap length same)) (omega (arith, bounds.1, ap length same));
      same = whole ∙ same;
    })
    (λ misfit.
    absurd (let said : Ok labels ≡ Err TooLong = answer ∙ cond-false (word_sized word) (Ok w) (Err TooLong) misfit in
    let z : ◌≡◌ {A = ℕ} 0 1 = cc in omega arith))
    (cases_Bool (word_sized word))
  where
    w : List ℕ
    w = spelled spelling word

-- what the call says, from what the list said
module _ {S L : Type 0} (spelling : S → List ℕ) (roll : L → List (List ℕ)) (room : L → List ℕ → Bool) (enters : L → List ℕ → L → Type 0)
    (s : L) (word : List S) (t : L) where
  pub record EntryTold (x : Result WordEntry Refusal) : Type 0 where
    pub answer : x ≡ entry_answer spelling (roll s) (room s (spelled spelling word)) word
    pub after : EnterLeaves roll enters s (spelled spelling word) t (word_sized word && is_new (roll s) (room s (spelled spelling word)) (spelled spelling word))
    pub numbers : KeepsNumbers spelling (roll s) word (roll t) x

  pub told : WordsApart spelling → (slice : List ℕ) → Spelled spelling word slice → (count : ℕ) (r : Result ℕ ListFault)
      → count ≡ length (roll s) → r ≡ enter_answer (roll s) (room s slice) slice
      → EnterLeaves roll enters s slice t (is_new (roll s) (room s slice) slice)
      → (x : Result WordEntry Refusal) → x ≡ entry_from count r → EntryTold x
  told apart slice fit count r counted answered left x from =
      let w = spelled spelling word in
      let answer : x ≡ entry_answer spelling (roll s) (room s w) word =
      from ∙ entry_is spelling (roll s) (room s w) word fit.sized fit.labels count counted r
      (subst (λ (z : List ℕ). r ≡ enter_answer (roll s) (room s z) z) fit.same answered) in
      let leaves : EnterLeaves roll enters s w t (is_new (roll s) (room s w) w) =
      subst (λ (z : List ℕ). EnterLeaves roll enters s z t (is_new (roll s) (room s z) z)) fit.same left in
      record {
        answer = answer;
        after = subst (λ (b : Bool). EnterLeaves roll enters s w t (b && is_new (roll s) (room s w) w)) (sym fit.sized) leaves;
        numbers =
            keeps_numbers spelling (roll s) (room s w) word apart fit.sized fit.labels (roll t)
            (roll_leaves roll enters s w t (is_new (roll s) (room s w) w) leaves) x answer;
      }
