-- What a caller reads by a link number that it was handed.
use Rattle.std.specs.Prelude.{◌≡◌, ℕ, List, length, IsOkAnd, Some, Ok, Err, Result}
use Rattle.members.specs.Lists.{In}
use Rattle.refusal.specs.declared.Refusal.{Refusal}
use Rattle.history.specs.declared.replies.Reading.{Reading}
use Rattle.script.specs.declared.word_triple.WordTriple.{WordTriple}
use Rattle.link_table.specs.Tables.{IsNewTable}
use Rattle.lexicon.specs.Growths.{Growth}
use Rattle.history.specs.Kits.{Kit, State, state_of, number_in}
use Rattle.link_table.specs.declared.table.LinkTable.{LinkTable}
use Rattle.history.specs.declared.replies.Link.{Link}
use Rattle.history.specs.Calls.{Adds, Ties, Deletes, read_of}
use Rattle.history.specs.Runs.{History, PresentTriple, present, Reached}

-- the reading is of the words x and y, by the numbers that the list has for them, and the relation q, and has the
-- record r
pub record IsOwnReading {S L R : Type 0} (K : Kit S L R) (l : L) (x y : List S) (q : ℕ) (r : R)
    (reading : Reading R) : Type 0 where
  pub x_number : number_in K l x ≡ Some reading.triple.x
  pub y_number : number_in K l y ≡ Some reading.triple.y
  pub relation : reading.triple.relation ≡ q
  pub kept : reading.«record» ≡ r

-- of every history that led to the state s, and of a triple that is present after it with the number u: the answer n is
-- of its own words, and has the record last written for it
abbrev pub ReadsItsOwn : {S L R : Type 0} → Kit S L R → State L R → ℕ → Result (Reading R) Refusal → Type 0
ReadsItsOwn {S} {L} {R} K s u n =
    (h : History S R) → Reached K h s → (e : PresentTriple S R) → In (present K h) e → e.link ≡ u
    → IsOkAnd n (IsOwnReading K s.list e.x e.y e.relation e.kept)

-- a caller's run over a list, a table and records, with two pairs and the record r: what it answers, n, and the list
-- and the records that it leaves, l and rs
module _ {S L R : Type 0} (K : Kit S L R) (G : Growth L) (pair other : WordTriple S) (r : R)
    (n : Result (Reading R) Refusal) (l : L) (rs : List R) where
  -- a call was refused so, and the state s is left
  abbrev pub Stops : State L R → Refusal → Type 0
  Stops s f = (n ≡ Err f) × (l ≡ s.list) × (rs ≡ s.records)

  -- the other was deleted, or not: in the first case the number is read
  abbrev pub AfterDelete : State L R → LinkTable → Link → Result ℕ Refusal → Type 0
  AfterDelete s t link (Err f) = Stops s f
  AfterDelete s t link (Ok u) = (n ≡ read_of t s.records link.number) × (l ≡ s.list) × (rs ≡ s.records)

  -- the other was added, or not: in the first case the pair is asked for once more, whatever comes of it, and the other
  -- deleted
  abbrev pub AfterOther : State L R → Link → Result Link Refusal → Type 0
  AfterOther s link (Err f) = Stops s f
  AfterOther s link (Ok second) =
      (m : Result Link Refusal) × (t : State L R) × Ties K s pair.x.now pair.y.now pair.relation r m t
      × (d : Result ℕ Refusal) × (u : LinkTable) × Deletes K t.list t.table other.x.now other.y.now other.relation d u
      × AfterDelete t u link d

  -- the pair was added, or not: in the first case the other is added
  abbrev pub AfterPair : State L R → Result Link Refusal → Type 0
  AfterPair s (Err f) = Stops s f
  AfterPair s (Ok link) =
      (m : Result Link Refusal) × (t : State L R) × Adds K G s other.x.now other.y.now other.relation r m t
      × AfterOther t link m

  -- from the state s on
  abbrev pub Runs : State L R → Type 0
  Runs s =
      (m : Result Link Refusal) × (t : State L R) × Adds K G s pair.x.now pair.y.now pair.relation r m t
      × AfterPair t m

-- the run over the list and the records, with a table newly made of so many cells and index places
abbrev pub RunsFrom : {S L R : Type 0} → Kit S L R → Growth L → ℕ → ℕ → L → List R → WordTriple S → WordTriple S → R
    → Result (Reading R) Refusal → L → List R → Type 0
RunsFrom K G cells index list records pair other r n l rs =
    (table : LinkTable) × IsNewTable cells index (length records) table
    × Runs K G pair other r n l rs (state_of list table records)
