-- How the symbols of the wider scripts are spelled.
use Rattle.std.specs.Prelude.{ℕ, ◌/◌, ◌%◌, List, [], ◌∷◌}
use Rattle.script.specs.declared.alphabets.MorphemeClass.{MorphemeClass}
use Rattle.script.specs.declared.alphabets.MorphemeClass.TheVariants.{Prefix, Adjective, Suffix, AdjectivalNoun, Noun, Verb, Other}
use Rattle.script.specs.declared.alphabets.MorphemeSign.{MorphemeSign}

-- a 16-bit number in two labels: the upper byte, then the lower
abbrev pub upper_first : ℕ → List ℕ
upper_first x = x / 256 ∷ x % 256 ∷ []

-- the label of a class
abbrev pub class_label : MorphemeClass → ℕ
class_label Prefix = 1
class_label Adjective = 2
class_label Suffix = 3
class_label AdjectivalNoun = 4
class_label Noun = 5
class_label Verb = 6
class_label Other = 7

-- a morpheme sign in three labels: its class, then its form
abbrev pub sign : MorphemeSign → List ℕ
sign m = class_label m.class ∷ upper_first m.form
