-- Members of lists that are joined or mapped.
use Rattle.std.proofs.Common.{◌≡◌, ℕ, zero, suc, ◌<◌, ◌⊎◌, List, [], ◌∷◌, ◌++◌, map, length, get_or, sym, refl, ap, ◌∙◌, inl, inr, ⊎_elim, arith}
use Rattle.members.specs.Lists.{In}

module _ {X : Type 0} where
  pub in_append : (xs ys : List X) (a : X) → In (xs ++ ys) a → In xs a ⊎ In ys a
  in_append [] ys a i = inr i
  in_append (x ∷ xs) ys a (inl e) = inl (inl e)
  in_append (x ∷ xs) ys a (inr i) = ⊎_elim (λ k. inl (inr k)) (λ k. inr k) (in_append xs ys a i)

  pub in_front : (xs ys : List X) (a : X) → In xs a → In (xs ++ ys) a
  in_front [] ys a i = absurd i
  in_front (x ∷ xs) ys a (inl e) = inl e
  in_front (x ∷ xs) ys a (inr i) = inr (in_front xs ys a i)

  pub in_rest : (xs ys : List X) (a : X) → In ys a → In (xs ++ ys) a
  in_rest [] ys a i = i
  in_rest (x ∷ xs) ys a i = inr (in_rest xs ys a i)

  pub in_at : (xs : List X) (k : ℕ) (d : X) → k < length xs → In xs (get_or xs k d)
  in_at [] k d h = absurd (omega arith)
  in_at (x ∷ xs) zero d h = inl refl
  in_at (x ∷ xs) (suc k) d h = inr (in_at xs k d (omega arith))

  pub at_in : (xs : List X) (a d : X) → In xs a → (k : ℕ) × (k < length xs) × (get_or xs k d ≡ a)
  at_in [] a d i = absurd i
  at_in (x ∷ xs) a d (inl e) = (0, omega arith, sym e)
  at_in (x ∷ xs) a d (inr i) = let h = at_in xs a d i in (suc h.0, omega (arith, h.1), h.2)

module _ {X Y : Type 0} (f : X → Y) where
  pub in_map : (xs : List X) (a : X) → In xs a → In (map f xs) (f a)
  in_map [] a i = absurd i
  in_map (x ∷ xs) a (inl e) = inl (ap f e)
  in_map (x ∷ xs) a (inr i) = inr (in_map xs a i)

  pub map_in : (xs : List X) (b : Y) → In (map f xs) b → (a : X) × In xs a × (b ≡ f a)
  map_in [] b i = absurd i
  map_in (x ∷ xs) b (inl e) = (x, inl refl, e)
  map_in (x ∷ xs) b (inr i) = let k = map_in xs b i in (k.0, inr k.1, k.2)

  pub map_through : {Z : Type 0} (g : Y → Z) (h : X → Z) (xs : List X) → ((x : X) → In xs x → g (f x) ≡ h x) → map g (map f xs) ≡ map h xs
  map_through g h [] same = refl
  map_through g h (x ∷ xs) same = ap (λ y. y ∷ map g (map f xs)) (same x (inl refl)) ∙ ap (λ l. h x ∷ l) (map_through g h xs (λ y i. same y (inr i)))
