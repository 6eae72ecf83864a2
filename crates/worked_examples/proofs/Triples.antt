-- Ties and deletes between known words, by the cells of the table.
use Rattle.std.proofs.Common.{◌≡◌, ℕ, ◌+◌, ◌-◌, min, Bool, true, false, cond, not, eqb, List, length, is_some, Some, None, Ok, Err, Option, Result, unwrap_or, sym, refl, ap, ◌∙◌, subst, arith}
use Rattle.refusal.specs.declared.Side.TheVariants.{First, Second}
use Rattle.refusal.specs.declared.Refusal.{Refusal}
use Rattle.refusal.specs.declared.Refusal.TheVariants.{WordLength, RelationZero, NoPlace}
use Rattle.script.specs.Words.{word_sized}
use Rattle.cells.specs.declared.Cell.{Cell}
use Rattle.cells.specs.Placing.{Arrays, enter}
use Rattle.cells.specs.Pruning.{take_out}
use Rattle.cells.specs.Walking.{number_at}
use Rattle.cells.specs.Counting.{in_use}
use Rattle.cells.specs.Examples.{new_arrays}
use Rattle.cells.proofs.Basics.{some_same}
use Rattle.double_array.specs.Views.{cells_of, index_of}
use Rattle.link_table.specs.Codes.{path_of_triple}
use Rattle.link_table.specs.Tables.{limit, numbers, Put, Out}
use Rattle.link_table.specs.declared.triple.Triple.{Triple}
use Rattle.history.specs.declared.replies.Link.{Link}
use Rattle.history.specs.Kits.{Kit, State, number_in, triple_in}
use Rattle.history.specs.Refusals.{first, link_refusals, tie_refusals, sought_refusals}
use Rattle.history.specs.Calls.{Decided, LinkMade, figures_of, refusal_of_tie, refusal_of_sought}
use Rattle.worked_examples.specs.Triples.{Word, NewStore, Tied, DeletesTriple}
use Rattle.worked_examples.proofs.Starts.{new_cells}

-- the triple of two words' numbers and a relation
abbrev pub triple : ℕ → ℕ → ℕ → Triple
triple x relation y = record { x = x; relation = relation; y = y }

-- the link between two words' numbers
abbrev pub link : ℕ → ℕ → ℕ → Link
link x y number = record { x = x; y = y; number = number }

-- the cells of what there is
abbrev pub cells_in : Option Arrays → Option (List Cell)
cells_in None = None
cells_in (Some xs) = Some xs.cells

-- there are some where there is something
some_cells : (o : Option Arrays) → is_some (cells_in o) ≡ is_some o
some_cells None = refl
some_cells (Some xs) = refl

module _ {S L R : Type 0} (K : Kit S L R) where
  -- a state has the list l, and a table of three link numbers with the cells cs, of which k are held
  pub record KnownState (l : L) (s : State L R) (cs : List Cell) (k : ℕ) : Type 0 where
    pub list : s.list ≡ l
    pub cells : cells_of s.table.array ≡ cs
    pub held : length (numbers s.table) ≡ k
    pub most : limit s.table ≡ 3

  pub starts : (n : ℕ) (f : NewStore K n) → min n 1048576 ≡ n → KnownState f.store.list f.store (new_arrays n 3).cells 0
  starts n f small = record {
    list = refl;
    cells = new_cells n (cells_of f.store.table.array) (f.made.cells_long ∙ small) f.made.cells_clear;
    held = f.made.none_held;
    most = f.made.limit_is ∙ ap (λ (k : ℕ). min (min k 3) 1048575) f.three_records;
  }

  -- what figures answers
  pub counted : (l : L) (s : State L R) (cs : List Cell) (k : ℕ) → KnownState l s cs k → figures_of s.table ≡ record { triples = k; cells = in_use cs }
  counted l s cs k H = λ i. record { triples = H.held i; cells = in_use (H.cells i) }

  module _ (l : L) (s t : State L R) (cs : List Cell) (k : ℕ) (H : KnownState l s cs k) (a b : ℕ) (x : Word K l a) (y : Word K l b) (q : ℕ) (some : eqb q 0 ≡ false) where
    -- lengths and relation are not refused
    fit : (o : Option Refusal) → cond (not (word_sized x.symbols)) (Some (WordLength First)) (cond (not (word_sized y.symbols)) (Some (WordLength Second)) (cond (eqb q 0) (Some RelationZero) o)) ≡ o
    fit o = λ i. cond (not (x.sized i)) (Some (WordLength First)) (cond (not (y.sized i)) (Some (WordLength Second)) (cond (some i) (Some RelationZero) o))

    x_number : number_in K s.list x.symbols ≡ Some a
    x_number = ap (λ (z : L). number_in K z x.symbols) H.list ∙ x.number

    y_number : number_in K s.list y.symbols ≡ Some b
    y_number = ap (λ (z : L). number_in K z y.symbols) H.list ∙ y.number

    triple_is : triple_in K s.list x.symbols y.symbols q ≡ triple a q b
    triple_is = λ i. triple (unwrap_or (x_number i) 0) q (unwrap_or (y_number i) 0)

    -- whether the table has the triple
    held_is : is_some (number_at (cells_of s.table.array) (path_of_triple (triple_in K s.list x.symbols y.symbols q))) ≡ is_some (number_at cs (path_of_triple (triple a q b)))
    held_is = λ i. is_some (number_at (H.cells i) (path_of_triple (triple_is i)))

    -- whether its code has a place
    place_is : is_some (enter (cells_of s.table.array) (index_of s.table.array) (path_of_triple (triple_in K s.list x.symbols y.symbols q)) 0) ≡ is_some (enter cs (index_of s.table.array) (path_of_triple (triple a q b)) 0)
    place_is = λ i. is_some (enter (H.cells i) (index_of s.table.array) (path_of_triple (triple_is i)) 0)

    -- the triple is absent and a number is spare: the tie is refused only where the code has no place
    judged : (r : R) (place : Bool) → K.good r ≡ true → is_some (number_at cs (path_of_triple (triple a q b))) ≡ false → eqb k 3 ≡ false
        → is_some (enter cs (index_of s.table.array) (path_of_triple (triple a q b)) 0) ≡ place
        → refusal_of_tie K s.list s.table x.symbols y.symbols q r ≡ cond (not place) (Some NoPlace) None
    judged r place sound absent spare has =
        let held = held_is ∙ absent in
        let full : eqb (length (numbers s.table)) (limit s.table) ≡ false = ap (λ (n : ℕ). eqb n (limit s.table)) H.held ∙ ap (eqb k) H.most ∙ spare in
        let placed = place_is ∙ has in
        (λ i. first (tie_refusals x.symbols y.symbols q (sound i) (x_number i) (y_number i) (link_refusals (held i) (full i) (placed i)))) ∙ fit (cond (not place) (Some NoPlace) None)

    -- the code has a place, whatever the index: the triple is tied
    pub tied : (n : Result Link Refusal) → Tied K s x.symbols y.symbols q n t → is_some (number_at cs (path_of_triple (triple a q b))) ≡ false → eqb k 3 ≡ false
        → (f : ℕ → List Cell) → ((is : List ℕ) (u : ℕ) → cells_in (enter cs is (path_of_triple (triple a q b)) u) ≡ Some (f u))
        → (u : ℕ) × (n ≡ Ok (link a b u)) × Put s.table (triple a q b) u t.table × KnownState l t (f (u - 1)) (k + 1)
    tied n T absent spare f step =
        let is = index_of s.table.array in
        let has : is_some (enter cs is (path_of_triple (triple a q b)) 0) ≡ true = sym (some_cells (enter cs is (path_of_triple (triple a q b)) 0)) ∙ ap is_some (step is 0) in
        let made : LinkMade K s x.symbols y.symbols q T.kept n t =
        subst (λ (o : Option Refusal). Decided o s n t (LinkMade K s x.symbols y.symbols q T.kept n t)) (judged T.kept true T.sound absent spare has) T.ties in
        let put : Put s.table (triple a q b) made.u t.table = subst (λ (c : Triple). Put s.table c made.u t.table) triple_is made.table in (
          made.u,
          made.answer ∙ (λ i. Ok (link (unwrap_or (x_number i) 0) (unwrap_or (y_number i) 0) made.u)),
          put,
          record {
            list = made.list ∙ H.list;
            cells = some_same (cells_of t.table.array) (f (made.u - 1)) (
                sym (ap cells_in put.arrays_after)
                ∙ ap (λ (ds : List Cell). cells_in (enter ds is (path_of_triple (triple a q b)) (made.u - 1))) H.cells
                ∙ step is (made.u - 1));
            held = put.one_more ∙ ap (λ (n : ℕ). n + 1) H.held;
            most = put.limit_same ∙ H.most;
          },
        )

    -- it has none: the tie is refused
    pub stuck : (n : Result Link Refusal) → Tied K s x.symbols y.symbols q n t → is_some (number_at cs (path_of_triple (triple a q b))) ≡ false → eqb k 3 ≡ false
        → ((is : List ℕ) → is_some (enter cs is (path_of_triple (triple a q b)) 0) ≡ false) → (n ≡ Err NoPlace) × (t ≡ s)
    stuck n T absent spare lacks =
        subst (λ (o : Option Refusal). Decided o s n t (LinkMade K s x.symbols y.symbols q T.kept n t)) (judged T.kept false T.sound absent spare (lacks (index_of s.table.array))) T.ties

    -- a present triple is deleted
    pub taken : (n : Result ℕ Refusal) → DeletesTriple K s x.symbols y.symbols q n t → is_some (number_at cs (path_of_triple (triple a q b))) ≡ true
        → (ds : List Cell) → ((is : List ℕ) → cells_in (take_out cs is (path_of_triple (triple a q b))) ≡ Some ds)
        → (u : ℕ) × (n ≡ Ok u) × Out s.table (triple a q b) u t.table × KnownState l t ds (k - 1)
    taken n D there ds step =
        let held = held_is ∙ there in
        let fine : refusal_of_sought K s.list s.table x.symbols y.symbols q ≡ None =
        (λ i. first (sought_refusals x.symbols y.symbols q (x_number i) (y_number i) (held i))) ∙ fit None in
        let gone = subst (λ (o : Option Refusal). Decided o s.table n t.table ((u : ℕ) × (n ≡ Ok u) × Out s.table (triple_in K s.list x.symbols y.symbols q) u t.table)) fine D.deletes in
        let out : Out s.table (triple a q b) gone.0 t.table = subst (λ (c : Triple). Out s.table c gone.0 t.table) triple_is gone.2 in (
          gone.0,
          gone.1,
          out,
          record {
            list = ap (λ (z : State L R). z.list) D.rest ∙ H.list;
            cells = some_same (cells_of t.table.array) ds (
                sym (ap cells_in out.arrays_after)
                ∙ ap (λ (es : List Cell). cells_in (take_out es (index_of s.table.array) (path_of_triple (triple a q b)))) H.cells
                ∙ step (index_of s.table.array));
            held = omega (arith, out.one_less, H.held);
            most = out.limit_same ∙ H.most;
          },
        )
