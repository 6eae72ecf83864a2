-- What a store is made of, by what its parts mean.
use Rattle.std.specs.Prelude.{ℕ, Bool, List, Option}
use Rattle.std.specs.Option.{unwrap_or}
use Rattle.script.specs.declared.Script.{Ghosts as Scripts}
use Rattle.script.specs.Words.{spelled}
use Rattle.lexicon.specs.declared.ReadableList.{Ghosts as Lists}
use Rattle.lexicon.specs.Rolls.{number_of}
use Rattle.record.specs.declared.Record.{Ghosts as Records}
use Rattle.link_table.specs.declared.table.LinkTable.{LinkTable}
use Rattle.link_table.specs.declared.triple.Triple.{Triple}

-- the meaning of symbols S, lists L and records R
pub record Kit (S L R : Type 0) : Type 1 where
  -- the labels of a symbol
  pub spelling : S → List ℕ
  -- the words of a list, spelled, in the order of their numbers
  pub roll : L → List (List ℕ)
  -- whether a record is sound
  pub good : R → Bool

-- the meaning that a script, a list and a record type give
abbrev pub kit_of : {S A L R : Type 0} → Scripts S A → Lists L → Records R → Kit S L R
kit_of s l r = record { spelling = s.spelling; roll = l.roll; good = r.sound }

-- a store: its word list, its link table and its records
pub record State (L R : Type 0) : Type 0 where
  pub list : L
  pub table : LinkTable
  pub records : List R

abbrev pub state_of : {L R : Type 0} → L → LinkTable → List R → State L R
state_of l t rs = record { list = l; table = t; records = rs }

module _ {S L R : Type 0} (K : Kit S L R) where
  -- the labels of a word
  abbrev pub labels_of : List S → List ℕ
  labels_of x = spelled K.spelling x

  -- the number of a word in the roll, or none
  abbrev pub number_in : L → List S → Option ℕ
  number_in l x = number_of (K.roll l) (labels_of x)

  -- the triple of two words and a relation, in word numbers; 0 stands for a word that the roll lacks
  abbrev pub triple_in : L → List S → List S → ℕ → Triple
  triple_in l x y q = record { x = unwrap_or (number_in l x) 0; relation = q; y = unwrap_or (number_in l y) 0 }
