use Rattle.std.proofs.Common.{◌≡◌, ℕ, ◌+◌, ◌<◌, ◌++◌, ◌&&◌, List, true, length, None, Ok, Option, Result, sym, refl, ap, ◌∙◌, subst, arith, length-append}
use Rattle.std.specs.Prelude.{nat_lt}
use Rattle.std.proofs.lemmas.Bool.{and_from, lt-ltb}
use Rattle.lexicon.specs.declared.ListFault.{ListFault}
use Rattle.lexicon.specs.Answers.{find_answer}
use Rattle.lexicon.proofs.Entries.{new_answer, new_is, leaves_new}
use Rattle.overlay.proofs.Appends.{EnteredAbove, entered}
use Rattle.overlay.proofs.OverlayGrowingList.enter.Given.{Over}
use Rattle.overlay.proofs.OverlayGrowingList.enter.Goals.{In_ok-number-2}
use Rattle.overlay.proofs.OverlayGrowingList.enter.Goals as goal

-- where the upper list has taken the word
module _ (g : Over) (c : In_ok-number-2 g) where
  abbrev lower : List (List ℕ)
  lower = g.L.ReadableList.roll c.self.inside.lower

  abbrev upper : List (List ℕ)
  upper = g.U.ReadableList.roll c.self.inside.upper

  -- a number is left
  few : length lower + length upper < 65535
  few = omega (arith, c.self.invariant.few, length-append lower upper, c.count-lower.ensures.count, c.count.ensures.count, c.if-lower-count-eq-MAX_WORDS.false)

  -- and both lists lacked the word
  taken : EnteredAbove g.U.ReadableList.roll g.U.GrowingList.room g.U.GrowingList.enters lower c.self.inside.upper c.enter.new.self c.args.word.now c.in_ok-number-2.number
  taken =
      entered g.U.ReadableList.roll g.U.GrowingList.room g.U.GrowingList.enters lower c.self.inside.upper c.enter.new.self c.args.word.now c.in_ok-number-2.number c.self.invariant few
      (subst (λ (v : g.row.L.Denot × g.row.U.Denot). ◌≡◌ {A = Result (Option ℕ) ListFault} (Ok None) (find_answer (g.L.ReadableList.roll v.0 ++ g.U.ReadableList.roll v.1) c.args.word.now)) (sym c.self.view_is)
      (ap (λ (o : Option ℕ). Ok o) (sym c.in_default.is) ∙ c.in_ok-number.ensures))
      c.in_ok-number-2.ensures.answer c.in_ok-number-2.ensures.after

  free : (nat_lt (length lower + length upper) 65535 && g.U.GrowingList.room c.self.inside.upper c.args.word.now) ≡ true
  free = and_from _ _ (lt-ltb _ _ few) taken.free

pub overflow_add-result : goal.overflow_add-result
overflow_add-result g c =
    let at = (goal.at.overflow_add-result g c).In_ok-number-2 in
    omega (arith, few g at, (taken g at).next, c.count-lower.ensures.count)

pub invariant_of-self-2 : goal.invariant_of-self-2
invariant_of-self-2 g c = (taken g (goal.at.invariant_of-self-2 g c).In_ok-number-2).lawful

pub returns-clause-answer : goal.returns-clause-answer
returns-clause-answer g c =
    let at = (goal.at.returns-clause-answer g c).In_ok-number-2 in
    let a = lower g at in
    let b = upper g at in
    let all = taken g at in
    let sum : c.count-lower.result + c.in_ok-number-2.number ≡ length (a ++ b) + 1 = omega (arith, all.next, c.count-lower.ensures.count, length-append a b) in
    rw (← c.self.view_is) (ap (λ (n : ℕ). Ok n) sum ∙ sym (new_answer (a ++ b) _ c.args.word.now all.sized all.absent (free g at)))

pub returns-clause-after : goal.returns-clause-after
returns-clause-after g c =
    let at = (goal.at.returns-clause-after g c).In_ok-number-2 in
    let all = taken g at in
    rw (← c.self.view_is)
    (leaves_new
    (λ (v : g.row.L.Denot × g.row.U.Denot). g.L.ReadableList.roll v.0 ++ g.U.ReadableList.roll v.1)
    (λ (s : g.row.L.Denot × g.row.U.Denot) (w : List ℕ) (t : g.row.L.Denot × g.row.U.Denot). g.U.GrowingList.enters s.1 w t.1 × (t.0 ≡ s.0))
    (c.self.inside.lower, c.self.inside.upper) c.args.word.now (c.self.inside.lower, c.enter.new.self) _
    (new_is (lower g at ++ upper g at) _ c.args.word.now all.sized all.absent (free g at)) (all.arrays, refl) all.grown all.lawful)

pub returns-clause-lawful : goal.returns-clause-lawful
returns-clause-lawful g c = (taken g (goal.at.returns-clause-lawful g c).In_ok-number-2).lawful
