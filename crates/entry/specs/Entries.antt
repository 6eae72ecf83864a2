-- What entering a word of symbols answers, and what it means for the numbers of all words.
use Rattle.std.specs.Prelude.{◌≡◌, ℕ, ◌+◌, Bool, true, false, cond, ◌&&◌, ◌⊎◌, List, [], ◌∷◌, ◌++◌, length, take, IfOk, Some, None, Ok, Err, codes, decimal, sum_by, Option, Result, ◌==◌, slice_index}
use Rattle.refusal.specs.declared.Side.TheVariants.{Neither}
use Rattle.refusal.specs.declared.Refusal.{Refusal}
use Rattle.refusal.specs.declared.Refusal.TheVariants.{WordLength, NoRoom}
use Rattle.std.specs.Result.{result_map_both}
use Rattle.refusal.specs.declared.Report.{Report}
use Rattle.refusal.specs.Reports.{report_of, report_text}
use Rattle.script.specs.Words.{word_sized, spelled}
use Rattle.lexicon.specs.Answers.{is_new, EnterLeaves}
use Rattle.lexicon.specs.Growths.{Growth}
use Rattle.lexicon.specs.Rolls.{number_of, word_of, numbered}
use Rattle.entry.specs.declared.WordEntry.{WordEntry}
use Rattle.entry.specs.declared.WordEntry.TheVariants.{New, Known}
use Rattle.entry.specs.declared.EntryReply.{EntryReply}

-- entering a word of the right length: held with its number, or new with the next after the last, or refused
abbrev pub held_or_new : Option ℕ → Bool → ℕ → Result WordEntry Refusal
held_or_new (Some number) room count = Ok (Known number)
held_or_new None true count = Ok (New (count + 1))
held_or_new None false count = Err (NoRoom Neither)

-- entering a word: a word of no symbol or of more than 32 is refused first
abbrev pub entry_answer : {S : Type 0} → (S → List ℕ) → List (List ℕ) → Bool → List S → Result WordEntry Refusal
entry_answer spelling roll room word =
    cond (word_sized word) (held_or_new (number_of roll (spelled spelling word)) room (length roll))
    (Err (WordLength Neither))

-- the word of symbols becomes the last of the roll: its length is right, the roll lacks it, and there is room
abbrev pub is_new_word : {S : Type 0} → (S → List ℕ) → List (List ℕ) → Bool → List S → Bool
is_new_word spelling roll room word = word_sized word && is_new roll room (spelled spelling word)

-- entering a word into a list, by its roll and its room
abbrev pub entry_in : {S L : Type 0} → (S → List ℕ) → (L → List (List ℕ)) → Growth L → L → List S
    → Result WordEntry Refusal
entry_in spelling roll G list word = entry_answer spelling (roll list) (G.room list (spelled spelling word)) word

-- what entering a word leaves of the list s: the list t, which has the word as its last if it was new, and else is s
abbrev pub EntryLeaves : {S L : Type 0} → (S → List ℕ) → (L → List (List ℕ)) → Growth L → L → List S → L → Type 0
EntryLeaves spelling roll G s word t =
    EnterLeaves roll G.enters s (spelled spelling word) t
    (is_new_word spelling (roll s) (G.room s (spelled spelling word)) word)

-- the number in an entry
abbrev pub number_entered : WordEntry → ℕ
number_entered (New number) = number
number_entered (Known number) = number

-- the numbers of words before and after a word was entered
pub record KeepsNumbers {S : Type 0} (spelling : S → List ℕ) (before : List (List ℕ)) (word : List S)
    (after : List (List ℕ)) (answer : Result WordEntry Refusal) : Type 0 where
  -- every word that had a number has it still
  pub kept : (v : List S) (n : ℕ) → number_of before (spelled spelling v) ≡ Some n
      → number_of after (spelled spelling v) ≡ Some n
  -- a word that has a number had it before, or is the one entered
  pub only : (v : List S) (n : ℕ) → number_of after (spelled spelling v) ≡ Some n
      → (number_of before (spelled spelling v) ≡ Some n) ⊎ (v ≡ word)
  -- the word entered has the number that is answered
  pub entered : IfOk answer (λ entry. number_of after (spelled spelling word) ≡ Some (number_entered entry))

-- how many labels the word of a number has; 0 where no word has the number
abbrev pub labels_at : List (List ℕ) → ℕ → ℕ
labels_at roll number = cond (numbered roll number) (length (word_of roll number)) 0

-- how many labels the words have together
abbrev pub label_total : List (List ℕ) → ℕ
label_total roll = sum_by length roll

-- the text of a line as it was read: without its line feed, which is byte 10; none of no bytes
abbrev pub text_read : List ℕ → Option (List ℕ)
text_read [] = None
text_read (b ∷ more) = let read = b ∷ more in cond (slice_index read (length more) == 10)
    (Some (take (length more) read)) (Some read)

-- the beginning that a line asks for: what follows a question mark, which is byte 63
abbrev pub asked_of : List ℕ → Option (List ℕ)
asked_of [] = None
asked_of (b ∷ more) = cond (b == 63) (Some more) None

-- the reply to an answer
abbrev pub reply_of : Result WordEntry Refusal → EntryReply
reply_of answer = record { 0 = result_map_both (λ entry. entry) report_of answer }

-- an answer as it is printed
abbrev pub entry_text : Result WordEntry Report → List ℕ
entry_text (Ok (New number)) = decimal number ++ codes " new"
entry_text (Ok (Known number)) = decimal number ++ codes " held"
entry_text (Err report) = codes "no " ++ report_text report

-- a reply as it is printed
abbrev pub reply_text : EntryReply → List ℕ
reply_text r = entry_text r.0
