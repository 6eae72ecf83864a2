-- Words as paths: the code of each label, and the end sign.
use Rattle.std.specs.Prelude.{ℕ, ◌-◌, Bool, false, ◌&&◌, List, [], ◌∷◌, ◌++◌, ◌==◌, nat_le}
use Rattle.cells.specs.Cells.{path_of_labels}
use Rattle.lexicon.specs.Rolls.{label_sized}

-- the path of a word: the codes of its labels, and 1 for the end sign
abbrev pub path_of_word : List ℕ → List ℕ
path_of_word word = path_of_labels word ++ 1 ∷ []

-- the labels of a path, without its last code
abbrev pub labels_on : List ℕ → List ℕ
labels_on [] = []
labels_on (a ∷ []) = []
labels_on (a ∷ b ∷ more) = (a - 2) ∷ labels_on (b ∷ more)

-- whether the end sign stands at the end of the path and nowhere else
abbrev pub ends_once : List ℕ → Bool
ends_once [] = false
ends_once (a ∷ []) = a == 1
ends_once (a ∷ b ∷ more) = nat_le 2 a && ends_once (b ∷ more)

-- whether it is the path of a word of 1 to 128 labels
abbrev pub word_path : List ℕ → Bool
word_path p = ends_once p && label_sized (labels_on p)
