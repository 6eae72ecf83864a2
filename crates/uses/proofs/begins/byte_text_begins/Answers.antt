use Rattle.script.specs.contracts.alphabets.U8Script.TheImpl.{ghosts as byte_text}
use Rattle.trie_list.specs.contracts.calls.TrieListReadableList.TheImpl.{ghosts as trie}
use Rattle.plain_list.specs.contracts.calls.PlainListReadableList.TheImpl.{ghosts as plain}
use Rattle.record.specs.contracts.TallyRecord.TheImpl.{ghosts as tally}
use Rattle.record.specs.contracts.ScoreRecord.TheImpl.{ghosts as score}
use Rattle.history.specs.Kits.{kit_of}
use Rattle.history.specs.Runs.{new}
use Rattle.history.proofs.Runs.{law_of}
use Rattle.trie_list.proofs.Lists.{roll_lawful as trie_lawful}
use Rattle.plain_list.proofs.Lists.{roll_lawful as plain_lawful}
use Rattle.uses.proofs.begins.byte_text_begins.Goals as goal

pub returns : goal.returns
returns c =
    record {
      trie_tallies = λ _ _ list _ _ made. (new (trie_lawful list) made, law_of (kit_of byte_text trie tally) (new (trie_lawful list) made));
      trie_scores = λ _ _ list _ _ made. (new (trie_lawful list) made, law_of (kit_of byte_text trie score) (new (trie_lawful list) made));
      plain_tallies = λ _ _ list _ _ made. (new (plain_lawful list) made, law_of (kit_of byte_text plain tally) (new (plain_lawful list) made));
      plain_scores = λ _ _ list _ _ made. (new (plain_lawful list) made, law_of (kit_of byte_text plain score) (new (plain_lawful list) made));
    }
