-- The first refusal of lists one after the other.
use Rattle.std.proofs.Common.{◌≡◌, ℕ, Bool, true, false, cond, List, [], ◌∷◌, ◌++◌, Some, None, Err, Option, Result, sym, refl, subst, arith}
use Rattle.refusal.specs.declared.Refusal.{Refusal}
use Rattle.history.specs.Refusals.{first}
use Rattle.history.specs.Calls.{Decided}

never : {X : Type 0} (x : X) → ◌≡◌ {A = Option X} (Some x) None → ⊥
never x e = let z : ◌≡◌ {A = ℕ} 0 1 = cc in omega arith

on_step : (b : Bool) (f : Refusal) (o p r : Option Refusal) → (o ≡ None → p ≡ r) → cond b (Some f) o ≡ None → cond b (Some f) p ≡ r
on_step true f o p r k e = absurd (never f e)
on_step false f o p r k e = k e

-- where none of the first list applies, the second decides
pub first_on : (cs ds : List (Bool × Refusal)) → first cs ≡ None → first (cs ++ ds) ≡ first ds
first_on [] ds e = refl
first_on (c ∷ cs) ds e = on_step c.0 c.1 (first cs) (first (cs ++ ds)) (first ds) (first_on cs ds) e

out_step : (b : Bool) (f g : Refusal) (o p : Option Refusal) → (o ≡ Some f → p ≡ Some f) → cond b (Some g) o ≡ Some f → cond b (Some g) p ≡ Some f
out_step true f g o p k e = e
out_step false f g o p k e = k e

-- one of the first list comes before all of the second
pub first_out : (cs ds : List (Bool × Refusal)) (f : Refusal) → first cs ≡ Some f → first (cs ++ ds) ≡ Some f
first_out [] ds f e = absurd (never f (sym e))
first_out (c ∷ cs) ds f e = out_step c.0 f c.1 (first cs) (first (cs ++ ds)) (first_out cs ds f) e

-- a call that is refused
pub decided_err : {A X : Type 0} (o : Option Refusal) (s : X) (n : Result A Refusal) (P : Type 0) (f : Refusal) → o ≡ Some f → n ≡ Err f → Decided o s n s P
decided_err o s n P f e en = subst (λ (z : Option Refusal). Decided z s n s P) (sym e) (en, refl)

-- a call that is accepted
pub decided_ok : {A X : Type 0} (o : Option Refusal) (s : X) (n : Result A Refusal) (t : X) (P : Type 0) → o ≡ None → P → Decided o s n t P
decided_ok o s n t P e done = subst (λ (z : Option Refusal). Decided z s n t P) (sym e) done
