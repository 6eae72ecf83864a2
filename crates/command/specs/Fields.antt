-- The fields of a text: what stands between its tabs, which are byte 9.
use Rattle.std.specs.Prelude.{ℕ, Bool, cond, List, [], ◌∷◌, ◌==◌}

abbrev pub is_tab : ℕ → Bool
is_tab b = b == 9

-- a byte before the first of the fields
abbrev pub before_first : ℕ → List (List ℕ) → List (List ℕ)
before_first b [] = (b ∷ []) ∷ []
before_first b (f ∷ fs) = (b ∷ f) ∷ fs

-- the fields, one more than there are tabs: the empty text is one empty field
unfoldable pub fields : List ℕ → List (List ℕ)
fields [] = [] ∷ []
fields (b ∷ bs) = cond (is_tab b) ([] ∷ fields bs) (before_first b (fields bs))
