-- Codes have as many different beginnings as the paths that spell them.
use Rattle.std.proofs.Common.{◌≡◌, ℕ, ◌+◌, Bool, true, false, cond, ◌&&◌, ◌||◌, eqb, List, [], ◌∷◌, ◌++◌, map, length, refl, ap, ◌∙◌, arith}
use Rattle.std.proofs.lemmas.List.{length-map}
use Rattle.std.proofs.lemmas.Bool.{eqb-true, eq-eqb}
use Rattle.cells.specs.Cells.{path_of_labels}
use Rattle.cells.specs.Counting.{same_path, has, with_beginning, add_beginnings, beginnings}
use Rattle.history.proofs.Options.{same_test}

-- codes are the same if labels are
same_code : (a b : ℕ) → eqb (a + 2) (b + 2) ≡ eqb a b
same_code a b = same_test (eqb (a + 2) (b + 2)) (eqb a b)
    (λ e. eq-eqb a b (let z = eqb-true (a + 2) (b + 2) e in omega arith))
    (λ e. eq-eqb (a + 2) (b + 2) (ap (λ (n : ℕ). n + 2) (eqb-true a b e)))

-- paths are the same if codes are
same_paths : (p q : List ℕ) → same_path (path_of_labels p) (path_of_labels q) ≡ same_path p q
same_paths [] [] = refl
same_paths [] (b ∷ q) = refl
same_paths (a ∷ p) [] = refl
same_paths (a ∷ p) (b ∷ q) = ap (λ (x : Bool). x && same_path (path_of_labels p) (path_of_labels q)) (same_code a b) ∙ ap (λ (x : Bool). eqb a b && x) (same_paths p q)

-- a path is one of the paths if its code is one of the codes
has_paths : (bs : List (List ℕ)) (p : List ℕ) → has (map path_of_labels bs) (path_of_labels p) ≡ has bs p
has_paths [] p = refl
has_paths (b ∷ bs) p = ap (λ (x : Bool). x || has (map path_of_labels bs) (path_of_labels p)) (same_paths p b) ∙ ap (λ (x : Bool). same_path p b || x) (has_paths bs p)

-- a code more, a path more
add_paths : (p : List ℕ) (bs : List (List ℕ)) → with_beginning (path_of_labels p) (map path_of_labels bs) ≡ map path_of_labels (with_beginning p bs)
add_paths p bs = ap (λ (x : Bool). cond x (map path_of_labels bs) (path_of_labels p ∷ map path_of_labels bs)) (has_paths bs p) ∙ both (has bs p)
  where
    -- it is new in both or in neither
    both : (x : Bool) → cond x (map path_of_labels bs) (path_of_labels p ∷ map path_of_labels bs) ≡ map path_of_labels (cond x bs (p ∷ bs))
    both true = refl
    both false = refl

-- a label more
push_label : (q : List ℕ) (a : ℕ) → path_of_labels q ++ (a + 2) ∷ [] ≡ path_of_labels (q ++ a ∷ [])
push_label [] a = refl
push_label (b ∷ q) a = ap (λ (l : List ℕ). (b + 2) ∷ l) (push_label q a)

-- the beginnings of a code more
add_all : (q p : List ℕ) (bs : List (List ℕ)) → add_beginnings (path_of_labels q) (path_of_labels p) (map path_of_labels bs) ≡ map path_of_labels (add_beginnings q p bs)
add_all q [] bs = refl
add_all q (a ∷ p) bs =
    ap (λ (l : List ℕ). with_beginning l (add_beginnings l (path_of_labels p) (map path_of_labels bs))) (push_label q a)
    ∙ ap (with_beginning (path_of_labels (q ++ a ∷ []))) (add_all (q ++ a ∷ []) p bs)
    ∙ add_paths (q ++ a ∷ []) (add_beginnings (q ++ a ∷ []) p bs)

-- the beginnings of the paths are those of the codes, as paths
path_beginnings : (ks : List (List ℕ)) → beginnings (map path_of_labels ks) ≡ map path_of_labels (beginnings ks)
path_beginnings [] = refl
path_beginnings (k ∷ ks) = ap (add_beginnings [] (path_of_labels k)) (path_beginnings ks) ∙ add_all [] k (beginnings ks)

-- so they are as many
pub as_many_beginnings : (ks : List (List ℕ)) → length (beginnings (map path_of_labels ks)) ≡ length (beginnings ks)
as_many_beginnings ks = ap length (path_beginnings ks) ∙ length-map (beginnings ks) path_of_labels
