-- Whether a path has a place does not hang on the number that it gets.
use Rattle.std.proofs.Common.{◌≡◌, ℕ, ◌+◌, Bool, true, false, cond, ◌&&◌, List, [], ◌∷◌, ◌++◌, set, ℤ, pos, negsuc, is_some, Some, None, Option, sym, refl, ◌∙◌}
use Rattle.cells.specs.declared.Cell.{Cell}
use Rattle.cells.specs.Cells.{base_of, is_free, is_leaf, child, child_codes, some_code, all_codes}
use Rattle.cells.specs.Placing.{Arrays, Spot, lowest, placed_at, place, grow, extend, found_or, enter_from, enter}
use Rattle.cells.specs.Walking.{onward}

cond_any : {X : Type 0} (b : Bool) (x y u v : Option X) → is_some x ≡ is_some y → is_some u ≡ is_some v → is_some (cond b x u) ≡ is_some (cond b y v)
cond_any true x y u v e f = e
cond_any false x y u v e f = f

placed_any : (cs : List Cell) (is : List ℕ) (s : ℕ) (codes : List ℕ) (a : ℕ) (z y : ℤ) (o : Option ℕ) → is_some (placed_at cs is s codes a z o) ≡ is_some (placed_at cs is s codes a y o)
placed_any cs is s codes a z y None = refl
placed_any cs is s codes a z y (Some e) = refl

place_any : (cs : List Cell) (is : List ℕ) (s a : ℕ) (z y : ℤ) → is_some (place cs is s a z) ≡ is_some (place cs is s a y)
place_any cs is s a z y =
    cond_any (some_code (child_codes cs s) && is_free cs (base_of cs s + a)) _ _ _ _ refl
    (placed_any cs is s (child_codes cs s) a z y (lowest cs (child_codes cs s ++ a ∷ [])))

then_any : {X : Type 0} (o : Option Spot) (f g : Spot → Option X) → ((r : Spot) → is_some (f r) ≡ is_some (g r)) → is_some (onward o f) ≡ is_some (onward o g)
then_any None f g h = refl
then_any (Some r) f g h = h r

grow_any : (more : List ℕ) (cs : List Cell) (is : List ℕ) (s a : ℕ) (z y : ℤ) → is_some (grow more cs is s a z) ≡ is_some (grow more cs is s a y)
grow_any [] cs is s a z y = place_any cs is s a z y
grow_any (b ∷ more) cs is s a z y = then_any (place cs is s a (pos 0)) _ _ (λ r. grow_any more r.cells r.index r.spot b z y)

then_some : (o : Option Spot) (n : ℕ) → is_some {T = Arrays} (onward o (λ r. Some (record { cells = r.cells; index = set r.index n r.spot }))) ≡ is_some o
then_some None n = refl
then_some (Some r) n = refl

extend_any : (more : List ℕ) (cs : List Cell) (is : List ℕ) (s a n m : ℕ) → is_some (extend more cs is s a n) ≡ is_some (extend more cs is s a m)
extend_any more cs is s a n m =
    then_some (grow more cs is s a (negsuc n)) n ∙ grow_any more cs is s a (negsuc n) (negsuc m) ∙ sym (then_some (grow more cs is s a (negsuc m)) m)

found_any : (o : Option ℕ) (x y : Option Arrays) (f g : ℕ → Option Arrays) → is_some x ≡ is_some y → ((t : ℕ) → is_some (f t) ≡ is_some (g t)) → is_some (found_or o x f) ≡ is_some (found_or o y g)
found_any None x y f g e h = e
found_any (Some t) x y f g e h = h t

enter_from_any : (cs : List Cell) (is : List ℕ) (s : ℕ) (p : List ℕ) (n m : ℕ) → is_some (enter_from cs is s p n) ≡ is_some (enter_from cs is s p m)
enter_from_any cs is s [] n m = refl
enter_from_any cs is s (a ∷ more) n m =
    found_any (child cs s a) _ _ _ _ (cond_any (is_leaf cs s) None None _ _ refl (extend_any more cs is s a n m)) (λ t. enter_from_any cs is t more n m)

pub enter_any : (cs : List Cell) (is p : List ℕ) (n m : ℕ) → is_some (enter cs is p n) ≡ is_some (enter cs is p m)
enter_any cs is p n m = cond_any (all_codes p) _ _ None None (enter_from_any cs is 1 p n m) refl
