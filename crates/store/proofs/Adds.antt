-- From what the list and the table say to what add says.
use Rattle.std.proofs.Common.{◌≡◌, ℕ, ◌+◌, Bool, true, false, cond, not, ◌&&◌, List, ◌∷◌, ◌++◌, length, Some, None, Ok, Err, Option, Result, sym, refl, ap, ◌∙◌, subst, arith}
use Rattle.refusal.specs.declared.Side.{Side}
use Rattle.refusal.specs.declared.Side.TheVariants.{First, Second}
use Rattle.refusal.specs.declared.Refusal.{Refusal}
use Rattle.refusal.specs.declared.Refusal.TheVariants.{NoRoom}
use Rattle.lexicon.specs.Rolls.{number_of}
use Rattle.lexicon.specs.Answers.{EnterLeaves}
use Rattle.lexicon.proofs.Numbers.{number_from_kept, number_from_last}
use Rattle.link_table.specs.declared.table.LinkTable.{LinkTable}
use Rattle.history.specs.declared.replies.Link.{Link}
use Rattle.lexicon.specs.Growths.{Growth}
use Rattle.history.specs.Kits.{Kit, state_of, labels_of, number_in}
use Rattle.history.specs.Refusals.{first, none, put_refusals}
use Rattle.history.specs.Calls.{links_in, lacks, grows, fine, refusal_of_add, Adds}
use Rattle.store.specs.Words.{entered_answer, EnteredWord}
use Rattle.store.specs.Links.{Joins}
use Rattle.store.proofs.Decisions.{first_on, first_out, decided_err}
use Rattle.store.proofs.Ties.{link_made}

same_ok : {A B : Type 0} (a b : A) → ◌≡◌ {A = Result A B} (Ok a) (Ok b) → a ≡ b
same_ok a b e = cc

never_both : {A B : Type 0} (a : A) (b : B) → ◌≡◌ {A = Result A B} (Ok a) (Err b) → ⊥
never_both a b e = let z : ◌≡◌ {A = ℕ} 0 1 = cc in omega arith

module _ {S L R : Type 0} (K : Kit S L R) (G : Growth L) where
  -- what a word's entry answers: its number in the list after, or that it lacks room
  abbrev Went : L → List S → Side → L → Result ℕ Refusal → Type 0
  Went l x side l' (Ok a) = (number_in K l' x ≡ Some a) × (lacks K G l x ≡ false)
  Went l x side l' (Err f) = (f ≡ NoRoom side) × (lacks K G l x ≡ true)

  -- a word entered, in the words of the calls
  pub record Stepped (l : L) (x : List S) (side : Side) (l' : L) (n : Result ℕ Refusal) : Type 0 where
    pub entered : EnterLeaves K.roll G.enters l (labels_of K x) l' (grows K G l x)
    pub went : Went l x side l' n

  module _ (l : L) (x : List S) (side : Side) (l' : L) where
    by_cases : (n : Result ℕ Refusal) (a : Option ℕ) → number_in K l x ≡ a → (b : Bool) → G.room l (labels_of K x) ≡ b
        → n ≡ entered_answer a b (length (K.roll l)) side → EnterLeaves K.roll G.enters l (labels_of K x) l' (none a && b) → Went l x side l' n
    by_cases n (Some a) e b eb en h = subst (Went l x side l') (sym en) (ap (λ (z : L). number_in K z x) h ∙ e, ap (λ (z : Option ℕ). none z && not (G.room l (labels_of K x))) e)
    by_cases n None e true eb en h =
        let next : length (K.roll l) + 1 ≡ 1 + length (K.roll l) = omega arith in
        subst (Went l x side l') (sym en) (
          ap (λ (z : List (List ℕ)). number_of z (labels_of K x)) h.1 ∙ number_from_last 1 (K.roll l) (labels_of K x) e ∙ ap (λ (k : ℕ). Some k) (sym next),
          ap (λ (z : Option ℕ). none z && not (G.room l (labels_of K x))) e ∙ ap not eb,
        )
    by_cases n None e false eb en h = subst (Went l x side l') (sym en) (refl, ap (λ (z : Option ℕ). none z && not (G.room l (labels_of K x))) e ∙ ap not eb)

    pub stepped : (w : List ℕ) → w ≡ labels_of K x → (n : Result ℕ Refusal) → EnteredWord K.roll G l w side n l' → Stepped l x side l' n
    stepped w same n h =
        let k = subst (λ (z : List ℕ). EnteredWord K.roll G l z side n l') same h in
        record { entered = k.1; went = by_cases n (number_in K l x) refl (G.room l (labels_of K x)) refl k.0 k.1 }

module _ {S L R : Type 0} (K : Kit S L R) (G : Growth L) (l : L) (t : LinkTable) (rs : List R) (x y : List S) (q : ℕ) (r : R) where
  abbrev after_y : L → L → List (Bool × Refusal)
  after_y mid last = (lacks K G mid y, NoRoom Second) ∷ links_in K last t x y q

  abbrev after_x : L → L → List (Bool × Refusal)
  after_x mid last = (lacks K G l x, NoRoom First) ∷ after_y mid last

  -- refused before a word is entered
  pub add_refused : (f : Refusal) (n : Result Link Refusal) → first (put_refusals x y q (K.good r)) ≡ Some f → n ≡ Err f → Adds K G (state_of l t rs) x y q r n (state_of l t rs)
  add_refused f n e en =
      let off : fine K x y q r ≡ false = ap none e in
      record {
        mid = l;
        last = l;
        x_entered = subst (λ (b : Bool). EnterLeaves K.roll G.enters l (labels_of K x) l (b && grows K G l x)) (sym off) refl;
        y_entered = subst (λ (b : Bool). EnterLeaves K.roll G.enters l (labels_of K y) l ((b && not (lacks K G l x)) && grows K G l y)) (sym off) refl;
        result = decided_err (refusal_of_add K G l l l t x y q r) (state_of l t rs) n _ f (first_out (put_refusals x y q (K.good r)) (after_x l l) f e) en;
      }

  module _ (fit : first (put_refusals x y q (K.good r)) ≡ None) where
    on : fine K x y q r ≡ true
    on = ap none fit

    -- refused since X has no room
    pub add_no_x : (mid : L) (f : Refusal) (n : Result Link Refusal) → Stepped K G l x First mid (Err f) → n ≡ Err f → Adds K G (state_of l t rs) x y q r n (state_of mid t rs)
    add_no_x mid f n w en = record {
      mid = mid;
      last = mid;
      x_entered = subst (λ (b : Bool). EnterLeaves K.roll G.enters l (labels_of K x) mid (b && grows K G l x)) (sym on) w.entered;
      y_entered = subst (λ (b : Bool). EnterLeaves K.roll G.enters mid (labels_of K y) mid ((b && not (lacks K G l x)) && grows K G mid y)) (sym on)
          (subst (λ (b : Bool). EnterLeaves K.roll G.enters mid (labels_of K y) mid (not b && grows K G mid y)) (sym w.went.1) refl);
      result = decided_err (refusal_of_add K G l mid mid t x y q r) (state_of mid t rs) n _ (NoRoom First)
          (first_on (put_refusals x y q (K.good r)) (after_x mid mid) fit ∙ ap (λ (b : Bool). cond b (Some (NoRoom First)) (first (after_y mid mid))) w.went.1) (en ∙ ap (λ (e : Refusal). Err e) w.went.0);
    }

    module _ (mid last : L) (a : ℕ) (wx : Stepped K G l x First mid (Ok a)) where
      x_in : EnterLeaves K.roll G.enters l (labels_of K x) mid (fine K x y q r && grows K G l x)
      x_in = subst (λ (b : Bool). EnterLeaves K.roll G.enters l (labels_of K x) mid (b && grows K G l x)) (sym on) wx.entered

      y_in : EnterLeaves K.roll G.enters mid (labels_of K y) last (grows K G mid y)
          → EnterLeaves K.roll G.enters mid (labels_of K y) last ((fine K x y q r && not (lacks K G l x)) && grows K G mid y)
      y_in e = subst (λ (b : Bool). EnterLeaves K.roll G.enters mid (labels_of K y) last ((b && not (lacks K G l x)) && grows K G mid y)) (sym on)
          (subst (λ (b : Bool). EnterLeaves K.roll G.enters mid (labels_of K y) last (not b && grows K G mid y)) (sym wx.went.1) e)

      past_x : (ds : List (Bool × Refusal)) → first (put_refusals x y q (K.good r) ++ (lacks K G l x, NoRoom First) ∷ ds) ≡ first ds
      past_x ds = first_on (put_refusals x y q (K.good r)) ((lacks K G l x, NoRoom First) ∷ ds) fit ∙ ap (λ (b : Bool). cond b (Some (NoRoom First)) (first ds)) wx.went.1

      -- refused since Y has no room
      pub add_no_y : (f : Refusal) (n : Result Link Refusal) → Stepped K G mid y Second last (Err f) → n ≡ Err f → Adds K G (state_of l t rs) x y q r n (state_of last t rs)
      add_no_y f n w en = record {
        mid = mid;
        last = last;
        x_entered = x_in;
        y_entered = y_in w.entered;
        result = decided_err (refusal_of_add K G l mid last t x y q r) (state_of last t rs) n _ (NoRoom Second)
            (past_x (after_y mid last) ∙ ap (λ (b : Bool). cond b (Some (NoRoom Second)) (first (links_in K last t x y q))) w.went.1) (en ∙ ap (λ (e : Refusal). Err e) w.went.0);
      }

      module _ (b : ℕ) (wy : Stepped K G mid y Second last (Ok b)) where
        -- X keeps its number while Y is entered
        x_kept : (z : Bool) → EnterLeaves K.roll G.enters mid (labels_of K y) last z → number_in K last x ≡ Some a
        x_kept true e = ap (λ (v : List (List ℕ)). number_of v (labels_of K x)) e.1 ∙ number_from_kept 1 (K.roll mid) (labels_of K y) (labels_of K x) a wx.went.0
        x_kept false e = ap (λ (v : L). number_in K v x) e ∙ wx.went.0

        -- both words are in, and the table has decided
        pub add_joined : (n : Result Link Refusal) (t' : LinkTable) (rs' : List R) → Joins t rs (record { x = a; relation = q; y = b }) r n t' rs' → Adds K G (state_of l t rs) x y q r n (state_of last t' rs')
        add_joined n t' rs' h = record {
          mid = mid;
          last = last;
          x_entered = x_in;
          y_entered = y_in wy.entered;
          result = link_made K last t t' rs rs' x y q r (record { x = a; relation = q; y = b }) (x_kept (grows K G mid y) wy.entered) wy.went.0 refl n (refusal_of_add K G l mid last t x y q r)
              (past_x (after_y mid last) ∙ ap (λ (z : Bool). cond z (Some (NoRoom Second)) (first (links_in K last t x y q))) wy.went.1) h;
        }
