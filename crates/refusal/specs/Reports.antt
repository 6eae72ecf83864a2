-- The number, the layer and the side of each refusal, and the refusal that a fault of spelling, of a list or of the
-- link table leads to.
use Rattle.std.specs.Prelude.{ℕ, List, ◌++◌, codes, decimal}
use Rattle.refusal.specs.declared.Layer.{Layer}
use Rattle.refusal.specs.declared.Layer.TheVariants.{Call, List as WordList, Table}
use Rattle.refusal.specs.declared.Side.{Side}
use Rattle.refusal.specs.declared.Side.TheVariants.{Neither, First, Second}
use Rattle.refusal.specs.declared.Refusal.{Refusal}
use Rattle.refusal.specs.declared.Refusal.TheVariants.{WordLength, RelationZero, RecordUnsound, UnknownWord, NoRoom, TriplePresent, TripleAbsent, NoPlace, NumbersHeld, UnknownLink, OutputTooShort, MalformedLine}
use Rattle.refusal.specs.declared.Report.{Report}
use Rattle.script.specs.declared.SpellFault.{SpellFault}
use Rattle.script.specs.declared.SpellFault.TheVariants.{WordLength as NotSpelled}
use Rattle.link_table.specs.declared.faults.LinkFault.{LinkFault}
use Rattle.link_table.specs.declared.faults.LinkFault.TheVariants.{TriplePresent as IsPresent, TripleAbsent as IsAbsent, NoPlace as NoCell, NumbersHeld as AllHeld}
use Rattle.lexicon.specs.declared.ListFault.{ListFault}
use Rattle.lexicon.specs.declared.ListFault.TheVariants.{WordLength as NotSized, UnknownWord as NotHeld, NoRoom as Full, OutputTooShort as Short}

-- how a refusal is reported: its number, its layer, and the side where a word is meant
abbrev pub report_of : Refusal → Report
report_of (WordLength side) = record { number = 1; layer = Call; side = side }
report_of RelationZero = record { number = 2; layer = Call; side = Neither }
report_of RecordUnsound = record { number = 3; layer = Call; side = Neither }
report_of (UnknownWord side) = record { number = 4; layer = WordList; side = side }
report_of (NoRoom side) = record { number = 5; layer = WordList; side = side }
report_of TriplePresent = record { number = 6; layer = Table; side = Neither }
report_of TripleAbsent = record { number = 7; layer = Table; side = Neither }
report_of NoPlace = record { number = 8; layer = Table; side = Neither }
report_of NumbersHeld = record { number = 9; layer = Table; side = Neither }
report_of UnknownLink = record { number = 10; layer = Table; side = Neither }
report_of OutputTooShort = record { number = 11; layer = Call; side = Neither }
report_of MalformedLine = record { number = 12; layer = Call; side = Neither }

-- what spelling refuses, at the word on a side
abbrev pub spell_refusal : SpellFault → Side → Refusal
spell_refusal NotSpelled side = WordLength side

-- what a word list refuses, at the word on a side
abbrev pub list_refusal : ListFault → Side → Refusal
list_refusal NotSized side = WordLength side
list_refusal NotHeld side = UnknownWord side
list_refusal Full side = NoRoom side
list_refusal Short side = OutputTooShort

-- what the link table refuses
abbrev pub link_refusal : LinkFault → Refusal
link_refusal IsPresent = TriplePresent
link_refusal IsAbsent = TripleAbsent
link_refusal NoCell = NoPlace
link_refusal AllHeld = NumbersHeld

-- the number of a layer
abbrev pub layer_number : Layer → ℕ
layer_number Call = 1
layer_number WordList = 2
layer_number Table = 3

-- the number of a side
abbrev pub side_number : Side → ℕ
side_number Neither = 0
side_number First = 1
side_number Second = 2

-- a side in words
abbrev pub side_text : Side → List ℕ
side_text Neither = codes "the word"
side_text First = codes "the first word"
side_text Second = codes "the second word"

-- a report as it is printed: number, layer and side
abbrev pub report_text : Report → List ℕ
report_text r = decimal r.number
    ++ (codes " " ++ (decimal (layer_number r.layer) ++ (codes " " ++ decimal (side_number r.side))))
