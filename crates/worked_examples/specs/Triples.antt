-- Worked examples of the calls on triples: tie and delete between known words, and what figures answers.
use Rattle.std.specs.Prelude.{◌≡◌, ℕ, true, List, length, Some, None, Ok, Err, Option, Result}
use Rattle.refusal.specs.Reports.{report_of}
use Rattle.refusal.specs.declared.Layer.TheVariants.{Table}
use Rattle.refusal.specs.declared.Side.TheVariants.{Neither}
use Rattle.refusal.specs.declared.Refusal.{Refusal}
use Rattle.refusal.specs.declared.Report.{Report}
use Rattle.script.specs.Words.{word_sized}
use Rattle.link_table.specs.Tables.{IsNewTable}
use Rattle.history.specs.declared.replies.Link.{Link}
use Rattle.history.specs.Kits.{Kit, State, state_of, number_in}
use Rattle.history.specs.Calls.{Ties, Deletes, figures_of}

-- how a refused answer is reported, none where it is not refused
abbrev pub reported : {A : Type 0} → Result A Refusal → Option Report
reported (Ok v) = None
reported (Err f) = Some (report_of f)

-- the report that a code has no place
abbrev pub no_place : Report
no_place = record { number = 8; layer = Table; side = Neither }

-- the answer is a link between the words with the numbers a and b
abbrev pub Links : ℕ → ℕ → Result Link Refusal → Type 0
Links a b n = (u : ℕ) × (n ≡ Ok (record { x = a; y = b; number = u }))

module _ {S L R : Type 0} (K : Kit S L R) where
  -- a word of 1 to 32 symbols that has the number a in the list
  pub record Word (l : L) (a : ℕ) : Type 0 where
    pub symbols : List S
    pub sized : word_sized symbols ≡ true
    pub number : number_in K l symbols ≡ Some a

  -- a store with a new table of n link cells and three index entries for three records; its list has three words or
  -- more
  pub record NewStore (n : ℕ) : Type 0 where
    pub store : State L R
    pub one : Word store.list 1
    pub two : Word store.list 2
    pub three : Word store.list 3
    pub three_records : length store.records ≡ 3
    pub made : IsNewTable n 3 (length store.records) store.table

  -- x and y were tied by the relation q with a sound record: the answer was n, and it left t
  pub record Tied (s : State L R) (x y : List S) (q : ℕ) (n : Result Link Refusal) (t : State L R) : Type 0 where
    pub kept : R
    pub sound : K.good kept ≡ true
    pub ties : Ties K s x y q kept n t

  -- the triple of x, q and y was deleted: the answer was n, and it left t
  pub record DeletesTriple (s : State L R) (x y : List S) (q : ℕ) (n : Result ℕ Refusal) (t : State L R) : Type 0 where
    pub deletes : Deletes K s.list s.table x y q n t.table
    pub rest : t ≡ state_of s.list t.table s.records

  -- one tie in a new store of n link cells
  pub record OneTie (n : ℕ) : Type 0 where
    pub fresh : NewStore n
    pub after : State L R
    pub answer : Result Link Refusal
    pub tied : Tied fresh.store fresh.one.symbols fresh.two.symbols 4 answer after

  -- three ties, one after another
  pub record ThreeTies (n : ℕ) : Type 0 where
    pub fresh : NewStore n
    pub with_one : State L R
    pub with_two : State L R
    pub after : State L R
    pub one_answer : Result Link Refusal
    pub two_answer : Result Link Refusal
    pub three_answer : Result Link Refusal
    pub one_tied : Tied fresh.store fresh.one.symbols fresh.two.symbols 4 one_answer with_one
    pub two_tied : Tied with_one fresh.one.symbols fresh.two.symbols 5 two_answer with_two
    pub three_tied : Tied with_two fresh.one.symbols fresh.three.symbols 4 three_answer after

  -- the three ties and a delete of the second triple
  pub record OneOut (n : ℕ) : Type 0 where
    pub ties : ThreeTies n
    pub after : State L R
    pub answer : Result ℕ Refusal
    pub deleted : DeletesTriple ties.after ties.fresh.one.symbols ties.fresh.two.symbols 5 answer after

  -- what comes of them; the list stays as it was
  pub record TripleExamples : Type 0 where
    -- one triple takes 6 of 8 link cells
    pub one_triple : (run : OneTie 8) → Links 1 2 run.answer
        × (figures_of run.after.table ≡ record { triples = 1; cells = 6 }) × (run.after.list ≡ run.fresh.store.list)
    -- in 7 link cells it has no place; the store is the very same
    pub no_triple : (run : OneTie 7) → (reported run.answer ≡ Some no_place) × (run.after ≡ run.fresh.store)
        × (figures_of run.after.table ≡ record { triples = 0; cells = 1 })
    -- three triples take 10 of 13 link cells
    pub three_triples : (run : ThreeTies 13) → Links 1 2 run.one_answer × Links 1 2 run.two_answer
        × Links 1 3 run.three_answer
        × (figures_of run.after.table ≡ record { triples = 3; cells = 10 }) × (run.after.list ≡ run.fresh.store.list)
    -- in 12 link cells the third has no place; the store is what two left, and that takes 9
    pub two_triples : (run : ThreeTies 12) → Links 1 2 run.one_answer × Links 1 2 run.two_answer
        × (reported run.three_answer ≡ Some no_place) × (run.after ≡ run.with_two)
        × (figures_of run.after.table ≡ record { triples = 2; cells = 9 }) × (run.after.list ≡ run.fresh.store.list)
    -- of the three in 13 link cells the second is deleted: the answer is the number that it was tied with, 7 cells are
    -- in use, and list and records stay as they were
    pub one_out : (run : OneOut 13) → (u : ℕ) × (run.ties.two_answer ≡ Ok (record { x = 1; y = 2; number = u }))
        × (run.answer ≡ Ok u)
        × (figures_of run.after.table ≡ record { triples = 2; cells = 7 })
        × (run.after.list ≡ run.ties.fresh.store.list) × (run.after.records ≡ run.ties.after.records)
