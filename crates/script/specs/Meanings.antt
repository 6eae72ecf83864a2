-- What the three scripts mean, as docs/SCRIPTS.md has them: their widths, and how each symbol is spelled.
use Rattle.std.specs.Prelude.{◌≡◌, ℕ, [], ◌∷◌}
use Rattle.script.specs.Alphabets.{upper_first, sign}
use Rattle.script.specs.contracts.alphabets.U8Script.TheImpl.{ghosts as byte_text}
use Rattle.script.specs.contracts.alphabets.U16Script.TheImpl.{ghosts as characters}
use Rattle.script.specs.contracts.alphabets.MorphemeSignScript.TheImpl.{ghosts as signs}
use Rattle.script.specs.declared.alphabets.MorphemeSign.{MorphemeSign}

-- byte text: a byte is one label, itself
pub record MeaningOfByteText : Type 0 where
  pub width : byte_text.width ≡ 1
  pub spelling : (byte : ℕ) → byte_text.spelling byte ≡ byte ∷ []

-- 16-bit characters: two labels, the upper byte and then the lower
pub record MeaningOfCharacters : Type 0 where
  pub width : characters.width ≡ 2
  pub spelling : (character : ℕ) → characters.spelling character ≡ upper_first character

-- morpheme signs: three labels, the class, then the form's upper byte and its lower
pub record MeaningOfSigns : Type 0 where
  pub width : signs.width ≡ 3
  pub spelling : (morpheme : MorphemeSign) → signs.spelling morpheme ≡ sign morpheme
