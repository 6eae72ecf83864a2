-- Small facts about signed numbers, answers and codes.
use Rattle.std.proofs.Common.{◌≡◌, ℕ, true, false, List, [], ◌∷◌, pos, negsuc, is_some, Some, None, Option, refl, ap, arith}
use Rattle.std.proofs.lemmas.Bool.{both_ways}
use Rattle.cells.specs.Cells.{some_code}

-- no answer is none and some at once
pub no_some : {A : Type 0} (x : A) → ◌≡◌ {A = Option A} None (Some x) → ⊥
no_some x e = let z : ◌≡◌ {A = ℕ} 0 1 = cc in omega arith

pub some_same : {A : Type 0} (x y : A) → ◌≡◌ {A = Option A} (Some x) (Some y) → x ≡ y
some_same x y e = cc

pub some_is : {A : Type 0} (o : Option A) → is_some o ≡ true → (x : A) × (o ≡ Some x)
some_is (Some x) e = (x, refl)
some_is None e = absurd (both_ways false refl e)

-- no BASE is that of a leaf and of another node at once
pub not_leaf : (k n : ℕ) → pos k ≡ negsuc n → ⊥
not_leaf k n e = let z : ◌≡◌ {A = ℕ} 0 1 = cc in omega arith

pub leaf_same : (k n : ℕ) → negsuc k ≡ negsuc n → k ≡ n
leaf_same k n e = cc

-- no list of codes is empty and not
pub no_codes : (l : List ℕ) → l ≡ [] → some_code l ≡ true → ⊥
no_codes l e t = both_ways (some_code l) (ap some_code e) t

pub none_code : (l : List ℕ) → some_code l ≡ false → l ≡ []
none_code [] e = refl
none_code (c ∷ more) e = absurd (both_ways true e refl)
