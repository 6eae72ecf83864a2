-- Options, tests and the first refusal that applies.
use Rattle.std.proofs.Common.{◌≡◌, ℕ, ◌≤◌, Bool, true, false, cond, List, [], ◌∷◌, is_some, is_ok, Some, None, Option, Result, unwrap_or, sym, refl, ap, ◌∙◌, arith}
use Rattle.std.specs.List.{AllByRecursion}
use Rattle.std.proofs.lemmas.Bool.{both_ways}
use Rattle.refusal.specs.declared.Refusal.{Refusal}
use Rattle.cells.proofs.Basics.{no_some}
use Rattle.history.specs.Refusals.{first}
use Rattle.history.specs.Calls.{Decided, answered}
use Rattle.history.specs.Laws.{Unless}

-- two tests are the same if each is true where the other is
pub same_test : (b c : Bool) → (b ≡ true → c ≡ true) → (c ≡ true → b ≡ true) → b ≡ c
same_test true c f g = sym (f refl)
same_test false true f g = g refl
same_test false false f g = refl

-- an option that is not some is none
pub none_from : {X : Type 0} (o : Option X) → is_some o ≡ false → o ≡ None
none_from None e = refl
none_from (Some x) e = absurd (both_ways true e refl)

-- a number that stands for an option and is not 0 is what the option has
pub some_from : (o : Option ℕ) (a : ℕ) → unwrap_or o 0 ≡ a → 1 ≤ a → o ≡ Some a
some_from None a e low = absurd (omega arith)
some_from (Some n) a e low = ap (λ (k : ℕ). Some k) e

-- where none applies, the first does not and none after it does
first_step : (b : Bool) (f : Refusal) (o : Option Refusal) → cond b (Some f) o ≡ None → (b ≡ false) × (o ≡ None)
first_step true f o e = absurd (no_some f (sym e))
first_step false f o e = (refl, e)

-- where no refusal applies, no test is true
pub none_applies : (cs : List (Bool × Refusal)) → first cs ≡ None → AllByRecursion (λ c. c.0 ≡ false) cs
none_applies [] e = tt
none_applies (c ∷ cs) e = let s = first_step c.0 c.1 (first cs) e in (s.0, none_applies cs s.1)

-- and back
pub applies_none : (cs : List (Bool × Refusal)) → AllByRecursion (λ c. c.0 ≡ false) cs → first cs ≡ None
applies_none [] a = refl
applies_none (c ∷ cs) a = ap (λ (b : Bool). cond b (Some c.1) (first cs)) a.0 ∙ applies_none cs a.1

-- an answer that is given unless a refusal applies
pub unless_answered : {A : Type 0} (o : Option Refusal) (v : A) → Unless o (answered o v)
unless_answered (Some f) v = refl
unless_answered None v = refl

-- a call that is accepted where no refusal applies
pub unless_decided : {A X : Type 0} (o : Option Refusal) (s : X) (n : Result A Refusal) (t : X) (P : Type 0) → (P → is_ok n ≡ true) → Decided o s n t P → Unless o n
unless_decided (Some f) s n t P ok d = d.0
unless_decided None s n t P ok d = ok d
