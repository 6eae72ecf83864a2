-- Words that lie end to end.
use Rattle.std.specs.Prelude.{ℕ, List, [], ◌∷◌, take, drop}

-- the words of these lengths, cut one after another from the bytes
abbrev pub cut : List ℕ → List ℕ → List (List ℕ)
cut [] bytes = []
cut (n ∷ more) bytes = take n bytes ∷ cut more (drop n bytes)
