-- What a reply means to the library's interfaces: what it is made of, and how it is printed.
use Rattle.std.specs.Prelude.{◌≡◌, Some}
use Rattle.refusal.specs.Meanings.{Gives}
use Rattle.entry.specs.declared.EntryReply.{EntryReply}
use Rattle.entry.specs.Entries.{reply_of, reply_text}
use Rattle.entry.specs.contracts.EntryReplyDisplay.TheImpl.{ghosts as replies}
use Rattle.entry.specs.contracts.EntryReplyFromResultWordEntryRefusal.TheImpl.{ghosts as from_answer}

-- a reply is that of the answer, and is printed by its text
pub record MeaningOfReplies : Type 0 where
  pub made : Gives from_answer.from_gives reply_of
  pub printed : (r : EntryReply) → replies.output r ≡ Some (reply_text r)
