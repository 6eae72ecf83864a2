-- Linking a triple of word numbers, with its record.
use Rattle.std.specs.Prelude.{◌≡◌, ℕ, ◌-◌, true, List, [], is_some, Some, None, Ok, Err, Option, Result, slice_set}
use Rattle.std.specs.Option.{unwrap_or}
use Rattle.refusal.specs.declared.Refusal.{Refusal}
use Rattle.script.specs.declared.Script.{Ghosts as Scripts}
use Rattle.lexicon.specs.declared.ReadableList.{Ghosts as Lists}
use Rattle.record.specs.declared.Record.{Ghosts as Records}
use Rattle.link_table.specs.Tables.{found, all_held, has_place, Put}
use Rattle.link_table.specs.declared.table.LinkTable.{LinkTable}
use Rattle.link_table.specs.declared.triple.Triple.{Triple}
use Rattle.history.specs.declared.replies.Link.{Link}
use Rattle.history.specs.Kits.{Kit, triple_in}
use Rattle.history.specs.Calls.{answered, link_in, refusal_of_sought}
use Rattle.history.specs.Refusals.{first, link_refusals}

-- the meaning that a script and a list give to calls that see no record
abbrev pub word_kit : {S A L : Type 0} → Scripts S A → Lists L → Kit S L (Unit {0})
word_kit s l = record { spelling = s.spelling; roll = l.roll; good = λ _. true }

-- the meaning that a record type gives to calls that see no word
abbrev pub record_kit : {R : Type 0} → Records R → Kit (Unit {0}) (Unit {0}) R
record_kit r = record { spelling = λ _. []; roll = λ _. []; good = r.sound }

-- the triple was refused and nothing changed, or it has the new number u and the record stands there
abbrev pub JoinsAt : {R : Type 0} → Option Refusal → LinkTable → List R → Triple → R → Result Link Refusal → LinkTable
    → List R → Type 0
JoinsAt (Some f) s rs triple r n t rs' = (n ≡ Err f) × (t ≡ s) × (rs' ≡ rs)
JoinsAt None s rs triple r n t rs' = (u : ℕ) × (n ≡ Ok (record { x = triple.x; y = triple.y; number = u }))
    × Put s triple u t × (rs' ≡ slice_set rs (u - 1) r)

abbrev pub Joins : {R : Type 0} → LinkTable → List R → Triple → R → Result Link Refusal → LinkTable → List R → Type 0
Joins s rs triple r n t rs' =
    JoinsAt (first (link_refusals (is_some (found s triple)) (all_held s) (has_place s triple))) s rs triple r n t rs'

-- the link of a triple that is sought, or why it is not found
abbrev pub link_answer : {S L R : Type 0} → Kit S L R → L → LinkTable → List S → List S → ℕ → Result Link Refusal
link_answer K l t x y q =
    answered (refusal_of_sought K l t x y q) (link_in K l x y (unwrap_or (found t (triple_in K l x y q)) 0))
