-- A call that keeps its rule leads every history on, and the law with it.
use Rattle.std.proofs.Common.{ℕ, Bool, true, false, List, Result}
use Rattle.refusal.specs.declared.Refusal.{Refusal}
use Rattle.lexicon.specs.Answers.{EnterLeaves}
use Rattle.listing.specs.declared.row.LinkRow.{LinkRow}
use Rattle.history.specs.declared.replies.Reply.{Reply}
use Rattle.history.specs.declared.replies.Link.{Link}
use Rattle.lexicon.specs.Growths.{Growth, any_growth}
use Rattle.history.specs.Kits.{Kit, State}
use Rattle.history.specs.Calls.{Call, add, tie, delete, find, read, change, list, figures, Adds, Steps}
use Rattle.history.specs.Runs.{after}
use Rattle.history.specs.Laws.{Onward}
use Rattle.history.proofs.Runs.{law_of}

-- what a list's own arrays hold may be left out
leaves_any : {L : Type 0} (roll : L → List (List ℕ)) (enters : L → List ℕ → L → Type 0) (s : L) (w : List ℕ) (t : L) (b : Bool)
    → EnterLeaves roll enters s w t b → EnterLeaves roll (λ _ _ _. Unit {0}) s w t b
leaves_any roll enters s w t true h = (tt, h.1, h.2)
leaves_any roll enters s w t false h = h

module _ {S L R : Type 0} (K : Kit S L R) (G : Growth L) where
  adds_any : (s : State L R) (x y : List S) (q : ℕ) (r : R) (n : Result Link Refusal) (t : State L R) → Adds K G s x y q r n t → Adds K (any_growth G.room) s x y q r n t
  adds_any s x y q r n t a = record {
    mid = a.mid;
    last = a.last;
    x_entered = leaves_any K.roll G.enters _ _ _ _ a.x_entered;
    y_entered = leaves_any K.roll G.enters _ _ _ _ a.y_entered;
    result = a.result;
  }

  steps_any : (s : State L R) (out : List LinkRow) (c : Call S R) (n : Result (Reply R) Refusal) (t : State L R) (out' : List LinkRow) → Steps K G s out c n t out' → Steps K (any_growth G.room) s out c n t out'
  steps_any s out (add x y q r) n t out' h = (h.0, h.1, adds_any s x y q r h.0 t h.2, h.3)
  steps_any s out (tie x y q r) n t out' h = h
  steps_any s out (delete x y q) n t out' h = h
  steps_any s out (find x y q) n t out' h = h
  steps_any s out (read u) n t out' h = h
  steps_any s out (change u r) n t out' h = h
  steps_any s out (list x q) n t out' h = h
  steps_any s out figures n t out' h = h

  -- what a call says of a state, it says of every history that led to it
  pub onward : (s : State L R) (out : List LinkRow) (c : Call S R) (n : Result (Reply R) Refusal) (t : State L R) (out' : List LinkRow) → Steps K G s out c n t out' → Onward K s c n t
  onward s out c n t out' does h run =
      let next = after G.room out out' run (steps_any s out c n t out' does) in
      (next, law_of K next)
