-- The law: what holds after every run of calls.
use Rattle.std.specs.Prelude.{◌≡◌, ℕ, zero, suc, ◌+◌, ◌≤◌, Bool, true, false, cond, ◌&&◌, List, [], ◌∷◌, map, length, is_ok, Some, None, Ok, Err, filter, Option, Result, ◌==◌, ◌≢◌}
use Rattle.refusal.specs.declared.Refusal.{Refusal}
use Rattle.lexicon.specs.Rolls.{Lawful}
use Rattle.cells.specs.Cells.{path_of_labels}
use Rattle.cells.specs.declared.Cell.{Cell}
use Rattle.cells.specs.Counting.{in_use, beginnings}
use Rattle.members.specs.Lists.{In, Apart}
use Rattle.cells.specs.Walking.{number_at}
use Rattle.double_array.specs.Views.{cells_of}
use Rattle.link_table.specs.Codes.{code_of}
use Rattle.link_table.specs.Tables.{limit}
use Rattle.link_table.specs.declared.table.LinkTable.{LinkTable}
use Rattle.listing.specs.declared.row.LinkRow.{LinkRow}
use Rattle.history.specs.declared.replies.Link.{Link}
use Rattle.history.specs.declared.replies.Reply.{Reply}
use Rattle.lexicon.specs.Growths.{any_growth}
use Rattle.history.specs.Kits.{Kit, State, number_in, triple_in}
use Rattle.history.specs.Refusals.{first, word_refusals, sought_refusals, link_refusals, add_refusals, tie_refusals, read_refusals, change_refusals, list_refusals}
use Rattle.history.specs.Calls.{Call, lacks, place_in, Ties, Adds, Deletes, Changes, Lists, find_of, read_of, rows_in, figures_of}
use Rattle.history.specs.Runs.{event_of, History, PresentTriple, same_word, same_triple, present, handed, puts, deletes, Reached}

-- accepted unless a refusal applies, and then refused by it
abbrev pub Unless : {A : Type 0} → Option Refusal → Result A Refusal → Type 0
Unless (Some f) n = n ≡ Err f
Unless None n = is_ok n ≡ true

-- whether one of the present triples is this one
abbrev pub has_triple : {S L R : Type 0} → Kit S L R → List (PresentTriple S R) → List S → List S → ℕ → Bool
has_triple K [] x y q = false
has_triple K (e ∷ es) x y q = cond (same_triple K x y q e) true (has_triple K es x y q)

-- whether one of the present triples has the link number
abbrev pub has_link : {S R : Type 0} → List (PresentTriple S R) → ℕ → Bool
has_link [] u = false
has_link (e ∷ es) u = cond (e.link == u) true (has_link es u)

-- whether the relation q asks for the relation k: it is k, or 0
abbrev pub asks : ℕ → ℕ → Bool
asks zero k = true
asks (suc q) k = k == suc q

-- the present triples of X with the relation q, 0 for all
abbrev pub listed_triples : {S L R : Type 0} → Kit S L R → List (PresentTriple S R) → List S → ℕ
    → List (PresentTriple S R)
listed_triples K es x q = filter (λ e. same_word K e.x x && asks q e.relation) es

-- what an array of cells says of the present triples, of which each has a code in it: in two cells or more those in use
-- are one more than the different non-empty beginnings of the codes, and walking finds exactly the codes, each with its
-- triple's link number
pub record CodesInCells {S R : Type 0} (code : PresentTriple S R → List ℕ) (cells : List Cell)
    (es : List (PresentTriple S R)) : Type 0 where
  pub used : 2 ≤ length cells → in_use cells ≡ 1 + length (beginnings (map code es))
  pub walks : (p : List ℕ) (u : ℕ) → number_at cells p ≡ Some u → (e : PresentTriple S R) × In es e
      × (path_of_labels (code e) ≡ p) × (e.link ≡ u)
  pub walked : (e : PresentTriple S R) → In es e → number_at cells (path_of_labels (code e)) ≡ Some e.link

module _ {S L R : Type 0} (K : Kit S L R) where
  -- the code of a present triple
  abbrev pub code_in : L → PresentTriple S R → List ℕ
  code_in l e = code_of (triple_in K l e.x e.y e.relation)

  -- what reading a present triple's number and finding the triple answer: its words' numbers in the roll, its relation,
  -- the record last written and the number
  pub record Answers (s : State L R) (e : PresentTriple S R) : Type 0 where
    pub a : ℕ
    pub b : ℕ
    pub x_number : number_in K s.list e.x ≡ Some a
    pub y_number : number_in K s.list e.y ≡ Some b
    pub read : read_of s.table s.records e.link
        ≡ Ok (record { triple = record { x = a; relation = e.relation; y = b }; «record» = e.kept })
    pub find : find_of K s.list s.table e.x e.y e.relation ≡ Ok (Some (record { x = a; y = b; number = e.link }))

  -- what listing a word answers: a row for each of its present triples that is asked for, and no other row
  pub record ListsTriples (s : State L R) (es : List (PresentTriple S R)) (x : List S) (q : ℕ) : Type 0 where
    pub rows : (r : LinkRow) → In (rows_in K s.list s.table x q) r
        → (e : PresentTriple S R) × In (listed_triples K es x q) e × (r.relation ≡ e.relation)
        × (number_in K s.list e.y ≡ Some r.y) × (r.link ≡ e.link)
    pub triples : (e : PresentTriple S R) → In (listed_triples K es x q) e
        → (r : LinkRow) × In (rows_in K s.list s.table x q) r × (r.relation ≡ e.relation)
        × (number_in K s.list e.y ≡ Some r.y) × (r.link ≡ e.link)
    pub as_many : length (rows_in K s.list s.table x q) ≡ length (listed_triples K es x q)

  -- the next call is accepted unless a refusal listed for it applies, judged by the roll and the present triples, room
  -- by the list and a place by the cells
  pub record Next (es : List (PresentTriple S R)) (s : State L R) : Type 0 where
    pub add : (room : L → List ℕ → Bool) (x y : List S) (q : ℕ) (r : R) (n : Result Link Refusal) (t : State L R)
        → (a : Adds K (any_growth room) s x y q r n t)
        → Unless (first (add_refusals x y q (K.good r) (lacks K (any_growth room) s.list x)
        (lacks K (any_growth room) a.mid y)
        (link_refusals (has_triple K es x y q) (length es == limit s.table) (place_in K a.last s.table x y q)))) n
    pub tie : (x y : List S) (q : ℕ) (r : R) (n : Result Link Refusal) (t : State L R) → Ties K s x y q r n t
        → Unless (first (tie_refusals x y q (K.good r) (number_in K s.list x) (number_in K s.list y)
        (link_refusals (has_triple K es x y q) (length es == limit s.table) (place_in K s.list s.table x y q)))) n
    pub delete : (x y : List S) (q : ℕ) (n : Result ℕ Refusal) (t : LinkTable) → Deletes K s.list s.table x y q n t
        → Unless (first (sought_refusals x y q (number_in K s.list x) (number_in K s.list y) (has_triple K es x y q))) n
    pub find : (x y : List S) (q : ℕ) → Unless (first (word_refusals x y q)) (find_of K s.list s.table x y q)
    pub read : (u : ℕ) → Unless (first (read_refusals (has_link es u))) (read_of s.table s.records u)
    pub change : (u : ℕ) (r : R) (n : Result (Unit {0}) Refusal) (rs : List R) → Changes K s.table s.records u r n rs
        → Unless (first (change_refusals (has_link es u) (K.good r))) n
    pub list : (x : List S) (q : ℕ) (out : List LinkRow) (n : Result ℕ Refusal) (out' : List LinkRow)
        → Lists K s.list s.table x q out n out'
        → Unless (first (list_refusals x (number_in K s.list x) (length out) (length (listed_triples K es x q)))) n
    -- unless all m numbers are held, there is one that no present triple has
    pub open_number : (length es ≢ limit s.table) → (u : ℕ) × (1 ≤ u) × (u ≤ limit s.table) × (has_link es u ≡ false)

  pub record Law (h : History S R) (s : State L R) : Type 0 where
    -- the words of the list are at most 65,535, each of 1 to 128 labels, no two alike
    pub roll : Lawful (K.roll s.list)
    -- the link numbers handed out and not since taken back are those of the present triples, no two alike
    pub numbers : handed h ≡ map (λ e. e.link) (present K h)
    pub unlike : Apart (handed h)
    -- figures counts the present triples, which are the accepted adds and ties less the accepted deletes, and the cells
    -- in use
    pub figure : figures_of s.table ≡ record { triples = length (present K h); cells = in_use (cells_of s.table.array) }
    pub tally : length (present K h) + deletes h ≡ puts h
    -- no two present triples are the same
    pub once : (e f : PresentTriple S R) → In (present K h) e → In (present K h) f
        → same_triple K f.x f.y f.relation e ≡ true → e ≡ f
    -- the record of each present triple is sound
    pub sound : (e : PresentTriple S R) → In (present K h) e → K.good e.kept ≡ true
    -- each of them is read by its number and found by its words
    pub answers : (e : PresentTriple S R) → In (present K h) e → Answers s e
    -- the link cells hold the codes of the present triples and nothing else
    pub codes : CodesInCells (code_in s.list) (cells_of s.table.array) (present K h)
    -- listing a known word gives its present triples
    pub lists : (x : List S) (q : ℕ) (a : ℕ) → number_in K s.list x ≡ Some a → ListsTriples s (present K h) x q
    pub next : Next (present K h) s

  -- what a call that was answered n and left the state t says of every history that led to s
  abbrev pub Onward : State L R → Call S R → Result (Reply R) Refusal → State L R → Type 0
  Onward s c n t = (h : History S R) → Reached K h s → Reached K (event_of c n ∷ h) t × Law (event_of c n ∷ h) t
