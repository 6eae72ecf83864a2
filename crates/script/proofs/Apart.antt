-- Words of symbols of one width: their length, and that no two are spelled alike.
use Rattle.std.proofs.Common.{◌≡◌, ℕ, ◌≤◌, List, [], ◌∷◌, length, take, drop, sym, refl, ap, ◌∙◌, arith, length-append}
use Rattle.std.specs.List.{flat_map}
use Rattle.std.proofs.lemmas.List.{take_at, drop_at}

module _ {X : Type 0} (f : X → List ℕ) (width : ℕ) (some : 1 ≤ width) (even : (x : X) → length (f x) ≡ width) where
  some_label : (y : X) (ys : List X) → 0 ≡ length (flat_map f (y ∷ ys)) → ⊥
  some_label y ys e = omega (arith, even y, length-append (f y) (flat_map f ys))

  pub words_apart : ((x y : X) → f x ≡ f y → x ≡ y) → (xs ys : List X) → flat_map f xs ≡ flat_map f ys → xs ≡ ys
  words_apart apart [] [] e = refl
  words_apart apart [] (y ∷ ys) e = absurd (some_label y ys (ap length e))
  words_apart apart (x ∷ xs) [] e = absurd (some_label x xs (sym (ap length e)))
  words_apart apart (x ∷ xs) (y ∷ ys) e =
      let front : f x ≡ f y = sym (take_at (f x) (flat_map f xs) width (even x)) ∙ ap (take width) e ∙ take_at (f y) (flat_map f ys) width (even y) in
      let back : flat_map f xs ≡ flat_map f ys = sym (drop_at (f x) (flat_map f xs) width (even x)) ∙ ap (drop width) e ∙ drop_at (f y) (flat_map f ys) width (even y) in
      ap (λ z. z ∷ xs) (apart x y front) ∙ ap (λ z. y ∷ z) (words_apart apart xs ys back)
