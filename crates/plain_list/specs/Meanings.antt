-- What the plain list means, as docs/WORD_LISTS.md has it: its roll, for which words it has room, and what
-- an entry leaves.
use Rattle.std.specs.Prelude.{◌≡◌, ℕ, List, length, ◌↔◌}
use Rattle.lexicon.specs.Rolls.{Lawful}
use Rattle.plain_list.specs.Plain.{roll_of, bytes_in, room_of, Appended}
use Rattle.plain_list.specs.contracts.calls.PlainListReadableList.TheImpl.{ghosts as readable}
use Rattle.plain_list.specs.contracts.calls.PlainListGrowingList.TheImpl.{ghosts as growing}
use Rattle.plain_list.specs.declared.list.PlainList.{PlainList}

-- the members of the list interfaces
pub record MeaningOfPlainList : Type 0 where
  -- the roll is cut from the bytes by the lengths
  pub roll : (s : PlainList) → readable.roll s ≡ roll_of s
  -- which is lawful
  pub lawful : (s : PlainList) → Lawful (roll_of s)
  -- there is room exactly if a length is left, and bytes for the word
  pub room : (s : PlainList) (word : List ℕ) → growing.room s word ≡ room_of s word
  -- after an entry the word stands behind those of the roll, and nothing else has changed
  pub enters : (s t : PlainList) (word : List ℕ) → growing.enters s word t ↔ Appended s word t

-- what the list counts of its roll
pub record CountersOfPlainList : Type 0 where
  -- how many words it has
  pub count : (s : PlainList) → s.count ≡ length (roll_of s)
  -- and how many bytes these take
  pub used : (s : PlainList) → s.used ≡ bytes_in (roll_of s)
