-- What the law says to a caller that reads by a number that it was handed.
use Rattle.std.proofs.Common.{◌≡◌, ℕ, false, not, List, [], ◌∷◌, Ok, Err, Result, IfOk, IsOkAnd, sym, refl, ap, ◌∙◌, subst, inl, inr, ⊎_elim}
use Rattle.std.proofs.lemmas.Bool.{cases_Bool}
use Rattle.refusal.specs.declared.Refusal.{Refusal}
use Rattle.members.specs.Lists.{In}
use Rattle.members.proofs.Pigeons.{in_kept}
use Rattle.link_table.specs.declared.table.LinkTable.{LinkTable}
use Rattle.history.specs.declared.replies.Link.{Link}
use Rattle.history.specs.declared.replies.Reading.{Reading}
use Rattle.history.specs.declared.replies.Reply.TheVariants.{Linked, Deleted}
use Rattle.lexicon.specs.Growths.{Growth}
use Rattle.history.specs.Kits.{Kit, State, state_of}
use Rattle.history.specs.Calls.{Adds, Ties, Deletes, read_of, add, tie, delete, replied}
use Rattle.history.specs.Runs.{PresentTriple, present_triple, event_of, History, present, put_in, handed_by, same_triple, Reached}
use Rattle.history.specs.Laws.{Law}
use Rattle.history.proofs.Onwards.{onward}
use Rattle.history.proofs.Runs.{law_of}
use Rattle.uses.specs.Evidence.{IsOwnReading, ReadsItsOwn}

module _ {S L R : Type 0} (K : Kit S L R) (G : Growth L) where
  -- an entry stays where another may be put in
  stays_put : (x y : List S) (q : ℕ) (r : R) (m : Result Link Refusal) (es : List (PresentTriple S R)) (e : PresentTriple S R) → In es e → In (put_in x y q r (handed_by {R = R} (replied {R = R} Linked m)) es) e
  stays_put x y q r (Ok link) es e i = inr i
  stays_put x y q r (Err f) es e i = i

  -- a caller's run: two adds, a tie that may be refused, and a delete of the other triple
  module _ (s0 s1 s2 s3 : State L R) (t : LinkTable) (x y x' y' : List S) (q q' : ℕ) (r : R) (link link' : Link) (m : Result Link Refusal) (u : ℕ)
      (start : Reached K [] s0) (added : Adds K G s0 x y q r (Ok link) s1) (other : Adds K G s1 x' y' q' r (Ok link') s2)
      (tied : Ties K s2 x y q r m s3) (deleted : Deletes K s3.list s3.table x' y' q' (Ok u) t) where
    mine : PresentTriple S R
    mine = present_triple x y q link.number r

    theirs : PresentTriple S R
    theirs = present_triple x' y' q' link'.number r

    -- the histories after each call
    one : History S R
    one = event_of (add x y q r) (Ok (Linked link)) ∷ []

    two : History S R
    two = event_of (add x' y' q' r) (Ok (Linked link')) ∷ one

    three : History S R
    three = event_of (tie x y q r) (replied Linked m) ∷ two

    four : History S R
    four = event_of (delete x' y' q') (Ok (Deleted u)) ∷ three

    after_one : Reached K one s1 × Law K one s1
    unfolding one
    after_one = onward K G s0 [] (add x y q r) (Ok (Linked link)) s1 [] (Ok link, refl, added, refl) [] start

    after_two : Reached K two s2 × Law K two s2
    unfolding two
    after_two = onward K G s1 [] (add x' y' q' r) (Ok (Linked link')) s2 [] (Ok link', refl, other, refl) one after_one.0

    after_three : Reached K three s3 × Law K three s3
    unfolding three
    after_three = onward K G s2 [] (tie x y q r) (replied Linked m) s3 [] (m, refl, tied, refl) two after_two.0

    last : State L R
    last = state_of s3.list t s3.records

    after_four : Reached K four last × Law K four last
    unfolding four last
    after_four = onward K G s3 [] (delete x' y' q') (Ok (Deleted u)) (state_of s3.list t s3.records) [] (Ok u, refl, deleted, refl, refl) three after_three.0

    -- the two triples are not the same, since their numbers are not
    unlike : same_triple K x' y' q' mine ≡ false
    unfolding mine theirs one two
    unlike =
        ⊎_elim
        (λ same. absurd (after_two.1.unlike.0 (inl (sym (ap (λ (e : PresentTriple S R). e.link) (after_two.1.once mine theirs (inr (inl refl)) (inl refl) same))))))
        (λ no. no)
        (cases_Bool (same_triple K x' y' q' mine))

    -- so the first is present at the end
    present_last : In (present K four) mine
    unfolding mine one two three four
    present_last = in_kept (λ e. not (same_triple K x' y' q' e)) (present K three) mine (ap not unlike) (stays_put x y q r m (present K two) mine (inr (inl refl)))

    -- what is read by its number
    pub read_back : (n : Result (Reading R) Refusal) → n ≡ read_of t s3.records link.number → IfOk n (IsOwnReading K s3.list x y q r)
    unfolding mine last
    read_back n e =
        let a = after_four.1.answers mine present_last in
        subst (λ (k : Result (Reading R) Refusal). IfOk k (IsOwnReading K s3.list x y q r)) (sym (e ∙ a.read))
        (record { x_number = a.x_number; y_number = a.y_number; relation = refl; kept = refl })

-- what is read by the number of a present triple is its own
pub reads_own : {S L R : Type 0} (K : Kit S L R) (s : State L R) (u : ℕ) (n : Result (Reading R) Refusal) → n ≡ read_of s.table s.records u → ReadsItsOwn K s u n
reads_own K s u n e h run p i same =
    let a = (law_of K run).answers p i in
    subst (λ (k : Result (Reading _) Refusal). IsOkAnd k (IsOwnReading K s.list p.x p.y p.relation p.kept))
    (sym (e ∙ ap (read_of s.table s.records) (sym same) ∙ a.read))
    (record { x_number = a.x_number; y_number = a.y_number; relation = refl; kept = refl })
