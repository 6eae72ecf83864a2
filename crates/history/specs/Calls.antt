-- The eight calls: what each answers and leaves.
use Rattle.std.specs.Prelude.{◌≡◌, ℕ, ◌-◌, Bool, not, ◌&&◌, List, length, is_some, Some, None, Ok, Err, Option, Result, slice_set}
use Rattle.std.specs.List.{slice_get}
use Rattle.std.specs.Option.{unwrap_or}
use Rattle.refusal.specs.declared.Refusal.{Refusal}
use Rattle.refusal.specs.declared.Refusal.TheVariants.{UnknownLink}
use Rattle.output.specs.Written.{written}
use Rattle.lexicon.specs.Answers.{EnterLeaves}
use Rattle.cells.specs.Counting.{in_use}
use Rattle.double_array.specs.Views.{cells_of}
use Rattle.link_table.specs.Tables.{found, coded, numbers, all_held, has_place, Put, Out}
use Rattle.link_table.specs.declared.table.LinkTable.{LinkTable}
use Rattle.link_table.specs.declared.triple.Triple.{Triple}
use Rattle.listing.specs.Rows.{rows_of}
use Rattle.listing.specs.declared.row.LinkRow.{LinkRow}
use Rattle.history.specs.declared.replies.Link.{Link}
use Rattle.history.specs.declared.replies.Reading.{Reading}
use Rattle.history.specs.declared.replies.Figures.{Figures as FigurePair}
use Rattle.history.specs.declared.replies.Reply.{Reply}
use Rattle.history.specs.declared.replies.Reply.TheVariants.{Linked, Deleted, Found, Read, Changed, Listed, Counted}
use Rattle.lexicon.specs.Growths.{Growth}
use Rattle.history.specs.Kits.{Kit, State, state_of, labels_of, number_in, triple_in}
use Rattle.history.specs.Refusals.{first, none, word_refusals, sought_refusals, put_refusals, link_refusals, add_refusals, tie_refusals, change_refusals, list_refusals}

-- refused: the answer is that refusal and what the call might change is as it was; otherwise P
abbrev pub Decided : {A X : Type 0} → Option Refusal → X → Result A Refusal → X → Type 0 → Type 0
Decided (Some f) s n t P = (n ≡ Err f) × (t ≡ s)
Decided None s n t P = P

-- the answer v unless a refusal applies
abbrev pub answered : {A : Type 0} → Option Refusal → A → Result A Refusal
answered (Some f) v = Err f
answered None v = Ok v

module _ {S L R : Type 0} (K : Kit S L R) where
  -- the link between two words that has the number u
  abbrev pub link_in : L → List S → List S → ℕ → Link
  link_in l x y u = record { x = unwrap_or (number_in K l x) 0; y = unwrap_or (number_in K l y) 0; number = u }

  -- whether the table has the triple
  abbrev pub held_in : L → LinkTable → List S → List S → ℕ → Bool
  held_in l t x y q = is_some (found t (triple_in K l x y q))

  -- whether the placing rule finds every place of the triple's code
  abbrev pub place_in : L → LinkTable → List S → List S → ℕ → Bool
  place_in l t x y q = has_place t (triple_in K l x y q)

  -- what refuses the triple as a new one
  abbrev pub links_in : L → LinkTable → List S → List S → ℕ → List (Bool × Refusal)
  links_in l t x y q = link_refusals (held_in l t x y q) (all_held t) (place_in l t x y q)

  -- why the triple is not found that is sought
  abbrev pub refusal_of_sought : L → LinkTable → List S → List S → ℕ → Option Refusal
  refusal_of_sought l t x y q = first (sought_refusals x y q (number_in K l x) (number_in K l y) (held_in l t x y q))

  -- a new triple gets one of the free numbers from 1 to m, u; the rule leaves open which.
  -- The table is what the placing rule leaves, and the record stands at its number
  pub record LinkMade (s : State L R) (x y : List S) (q : ℕ) (r : R) (n : Result Link Refusal)
      (t : State L R) : Type 0 where
    pub u : ℕ
    pub answer : n ≡ Ok (link_in s.list x y u)
    pub list : t.list ≡ s.list
    pub table : Put s.table (triple_in K s.list x y q) u t.table
    pub records : t.records ≡ slice_set s.records (u - 1) r

  -- tie: the triple is entered between known words
  abbrev pub refusal_of_tie : L → LinkTable → List S → List S → ℕ → R → Option Refusal
  refusal_of_tie l t x y q r =
      first (tie_refusals x y q (K.good r) (number_in K l x) (number_in K l y) (links_in l t x y q))

  abbrev pub Ties : State L R → List S → List S → ℕ → R → Result Link Refusal → State L R → Type 0
  Ties s x y q r n t = Decided (refusal_of_tie s.list s.table x y q r) s n t (LinkMade s x y q r n t)

  -- whether the word is new and has no room
  abbrev pub lacks : Growth L → L → List S → Bool
  lacks G l x = none (number_in K l x) && not (G.room l (labels_of K x))

  -- whether the word is new and has room
  abbrev pub grows : Growth L → L → List S → Bool
  grows G l x = none (number_in K l x) && G.room l (labels_of K x)

  -- whether none of the refusals applies that come before any word is entered
  abbrev pub fine : List S → List S → ℕ → R → Bool
  fine x y q r = none (first (put_refusals x y q (K.good r)))

  abbrev pub refusal_of_add : Growth L → L → L → L → LinkTable → List S → List S → ℕ → R → Option Refusal
  refusal_of_add G l mid last t x y q r =
      first (add_refusals x y q (K.good r) (lacks G l x) (lacks G mid y) (links_in last t x y q))

  -- add: first X goes into the list, next Y, and last their triple into the table. A refusal takes no word back
  pub record Adds (G : Growth L) (s : State L R) (x y : List S) (q : ℕ) (r : R) (n : Result Link Refusal)
      (t : State L R) : Type 0 where
    -- the list after X, and after Y
    pub mid : L
    pub last : L
    pub x_entered : EnterLeaves K.roll G.enters s.list (labels_of K x) mid (fine x y q r && grows G s.list x)
    pub y_entered : EnterLeaves K.roll G.enters mid (labels_of K y) last
        ((fine x y q r && not (lacks G s.list x)) && grows G mid y)
    pub result : Decided (refusal_of_add G s.list mid last s.table x y q r)
        (state_of last s.table s.records) n t (LinkMade (state_of last s.table s.records) x y q r n t)

  -- delete: the triple's path is pruned, and its number answered; list and records stay
  abbrev pub Deletes : L → LinkTable → List S → List S → ℕ → Result ℕ Refusal → LinkTable → Type 0
  Deletes l t x y q n t' =
      Decided (refusal_of_sought l t x y q) t n t' ((u : ℕ) × (n ≡ Ok u) × Out t (triple_in K l x y q) u t')

  -- find: the link where both words and the triple are there; nothing changes
  abbrev pub link_by : Option ℕ → Option ℕ → Option ℕ → Option Link
  link_by None b u = None
  link_by (Some a) None u = None
  link_by (Some a) (Some b) None = None
  link_by (Some a) (Some b) (Some u) = Some (record { x = a; y = b; number = u })

  abbrev pub find_of : L → LinkTable → List S → List S → ℕ → Result (Option Link) Refusal
  find_of l t x y q = answered (first (word_refusals x y q))
      (link_by (number_in K l x) (number_in K l y) (found t (triple_in K l x y q)))

  -- change: of the records that of the number is another then, and all else is the same
  abbrev pub refusal_of_change : LinkTable → ℕ → R → Option Refusal
  refusal_of_change t u r = first (change_refusals (is_some (coded t u)) (K.good r))

  abbrev pub Changes : LinkTable → List R → ℕ → R → Result (Unit {0}) Refusal → List R → Type 0
  Changes t rs u r n rs' = Decided (refusal_of_change t u r) rs n rs' ((n ≡ Ok tt) × (rs' ≡ slice_set rs (u - 1) r))

  -- list: the rows of X fill the output from its start; nothing else changes
  abbrev pub rows_in : L → LinkTable → List S → ℕ → List LinkRow
  rows_in l t x q = rows_of t (unwrap_or (number_in K l x) 0) q

  abbrev pub refusal_of_list : L → LinkTable → List S → ℕ → ℕ → Option Refusal
  refusal_of_list l t x q places = first (list_refusals x (number_in K l x) places (length (rows_in l t x q)))

  abbrev pub Lists : L → LinkTable → List S → ℕ → List LinkRow → Result ℕ Refusal → List LinkRow → Type 0
  Lists l t x q out n out' =
      Decided (refusal_of_list l t x q (length out)) out n out'
      ((n ≡ Ok (length (rows_in l t x q))) × (out' ≡ written out 0 (rows_in l t x q)))

-- read: the triple of the number, and the record that stands there; nothing changes
abbrev pub read_by : {R : Type 0} → Option Triple → Option R → Result (Reading R) Refusal
read_by None r = Err UnknownLink
read_by (Some t) None = Err UnknownLink
read_by (Some t) (Some r) = Ok (record { triple = t; «record» = r })

abbrev pub read_of : {R : Type 0} → LinkTable → List R → ℕ → Result (Reading R) Refusal
read_of t rs u = read_by (coded t u) (slice_get rs (u - 1))

-- figures: the present triples and the link cells in use, both counted; nothing changes
abbrev pub figures_of : LinkTable → FigurePair
figures_of t = record { triples = length (numbers t); cells = in_use (cells_of t.array) }

-- a call with its arguments
pub data Call (S R : Type 0) : Type 0 where
  add : (x y : List S) (q : ℕ) (r : R) → Call S R
  tie : (x y : List S) (q : ℕ) (r : R) → Call S R
  delete : (x y : List S) (q : ℕ) → Call S R
  find : (x y : List S) (q : ℕ) → Call S R
  read : (u : ℕ) → Call S R
  change : (u : ℕ) (r : R) → Call S R
  list : (x : List S) (q : ℕ) → Call S R
  figures : Call S R

-- an answer as a reply
abbrev pub replied : {A R : Type 0} → (A → Reply R) → Result A Refusal → Result (Reply R) Refusal
replied f (Ok v) = Ok (f v)
replied f (Err e) = Err e

-- the call was made in the state s with the output `out`, was answered n, and left the state t and the output out'
abbrev pub Steps : {S L R : Type 0} → Kit S L R → Growth L → State L R → List LinkRow → Call S R
    → Result (Reply R) Refusal → State L R → List LinkRow → Type 0
Steps K G s out (add x y q r) n t out' = (m : Result Link Refusal) × (n ≡ replied Linked m) × Adds K G s x y q r m t
    × (out' ≡ out)
Steps K G s out (tie x y q r) n t out' = (m : Result Link Refusal) × (n ≡ replied Linked m) × Ties K s x y q r m t
    × (out' ≡ out)
Steps K G s out (delete x y q) n t out' = (m : Result ℕ Refusal) × (n ≡ replied Deleted m)
    × Deletes K s.list s.table x y q m t.table × (t ≡ state_of s.list t.table s.records) × (out' ≡ out)
Steps K G s out (find x y q) n t out' = (n ≡ replied Found (find_of K s.list s.table x y q)) × (t ≡ s) × (out' ≡ out)
Steps K G s out (read u) n t out' = (n ≡ replied Read (read_of s.table s.records u)) × (t ≡ s) × (out' ≡ out)
Steps K G s out (change u r) n t out' = (m : Result (Unit {0}) Refusal) × (n ≡ replied (λ _. Changed) m)
    × Changes K s.table s.records u r m t.records × (t ≡ state_of s.list s.table t.records) × (out' ≡ out)
Steps K G s out (list x q) n t out' = (m : Result ℕ Refusal) × (n ≡ replied Listed m)
    × Lists K s.list s.table x q out m out' × (t ≡ s)
Steps K G s out figures n t out' = (n ≡ Ok (Counted (figures_of s.table))) × (t ≡ s) × (out' ≡ out)
