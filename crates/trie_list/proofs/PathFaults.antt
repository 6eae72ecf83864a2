-- A fault of the double array, as the list passes it on.
use Rattle.std.proofs.Common.{◌≡◌, ℕ, Ok, Err, Result, sym, refl, ◌∙◌, subst, arith}
use Rattle.std.specs.Result.{MatchResult, IsErrAnd}
use Rattle.double_array.specs.declared.faults.PathFault.{PathFault}
use Rattle.lexicon.specs.declared.ListFault.{ListFault}
use Rattle.trie_list.specs.Faults.{list_fault_of}

-- what an entry answered, and what the list makes of it
abbrev pub PassedOn : Result (Unit {0}) PathFault → Result (Unit {0}) ListFault → Type 0
PassedOn m k = MatchResult m (λ x. k ≡ Ok x) (λ e. IsErrAnd k (λ d. d ≡ list_fault_of e))

-- an accepted entry was accepted by the array
pub passed_ok : (m : Result (Unit {0}) PathFault) (k : Result (Unit {0}) ListFault) → PassedOn m k → k ≡ Ok tt → m ≡ Ok tt
passed_ok (Ok x) k p e = refl
passed_ok (Err f) k p e = absurd (subst (λ (z : Result (Unit {0}) ListFault). IsErrAnd z (λ d. d ≡ list_fault_of f)) e p)

-- a refused one was refused by it, with the fault that leads to this one
pub passed_err : (m : Result (Unit {0}) PathFault) (k : Result (Unit {0}) ListFault) (d : ListFault) → PassedOn m k → k ≡ Err d → (f : PathFault) × (m ≡ Err f) × (d ≡ list_fault_of f)
passed_err (Ok x) k d p e = absurd (let said : ◌≡◌ {A = Result (Unit {0}) ListFault} (Ok x) (Err d) = sym p ∙ e in let z : ◌≡◌ {A = ℕ} 0 1 = cc in omega arith)
passed_err (Err f) k d p e = (f, refl, subst (λ (z : Result (Unit {0}) ListFault). IsErrAnd z (λ d. d ≡ list_fault_of f)) e p)
