-- Lists of which each element comes before all that follow it.
use Rattle.std.proofs.Common.{List, [], ◌∷◌, ◌++◌, map, sym, refl, subst, inl, inr, ⊎_elim}
use Rattle.members.specs.Lists.{In, Rises}
use Rattle.members.proofs.Members.{in_append, map_in}

-- two such lists, of which each element of the first comes before each of the second, together are one
pub rises_append : {X : Type 0} (R : X → X → Type 0) (xs ys : List X) → Rises R xs → Rises R ys → ((x y : X) → In xs x → In ys y → R x y) → Rises R (xs ++ ys)
rises_append R [] ys a b across = b
rises_append R (x ∷ xs) ys a b across =
    (λ y i. ⊎_elim (a.0 y) (across x y (inl refl)) (in_append xs ys y i), rises_append R xs ys a.1 b (λ u v i. across u v (inr i)))

-- what keeps the order keeps a list in order
pub rises_map : {X Y : Type 0} (R : X → X → Type 0) (S : Y → Y → Type 0) (f : X → Y) → ((x y : X) → R x y → S (f x) (f y)) → (xs : List X) → Rises R xs → Rises S (map f xs)
rises_map R S f up [] h = tt
rises_map R S f up (x ∷ xs) h =
    (λ y i. let k = map_in f xs y i in subst (S (f x)) (sym k.2) (up x k.0 (h.0 k.0 k.1)), rises_map R S f up xs h.1)
