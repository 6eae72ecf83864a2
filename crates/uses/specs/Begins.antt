-- Stores of byte text over either list, with either record type, and that they begin.
use Rattle.std.specs.Prelude.{ℕ, List, [], length}
use Rattle.script.specs.contracts.alphabets.U8Script.TheImpl.{ghosts as byte_text}
use Rattle.trie_list.specs.contracts.calls.TrieListReadableList.TheImpl.{ghosts as trie}
use Rattle.plain_list.specs.contracts.calls.PlainListReadableList.TheImpl.{ghosts as plain}
use Rattle.record.specs.contracts.TallyRecord.TheImpl.{ghosts as tally}
use Rattle.record.specs.contracts.ScoreRecord.TheImpl.{ghosts as score}
use Rattle.link_table.specs.Tables.{IsNewTable}
use Rattle.link_table.specs.declared.table.LinkTable.{LinkTable}
use Rattle.history.specs.Kits.{Kit, kit_of, state_of}
use Rattle.history.specs.Runs.{Reached}
use Rattle.history.specs.Laws.{Law}

-- over a list of any words, with any records and a table that was made for them, a history begins and the law holds
abbrev pub Begins : {S L R : Type 0} → Kit S L R → Type 0
Begins {L = L} {R = R} K =
    (cells index : ℕ) (list : L) (records : List R) (table : LinkTable) → IsNewTable cells index (length records) table
    → Reached K [] (state_of list table records) × Law K [] (state_of list table records)

-- the four kinds of stores of byte text
pub record ByteTextBegins : Type 0 where
  pub trie_tallies : Begins (kit_of byte_text trie tally)
  pub trie_scores : Begins (kit_of byte_text trie score)
  pub plain_tallies : Begins (kit_of byte_text plain tally)
  pub plain_scores : Begins (kit_of byte_text plain score)
