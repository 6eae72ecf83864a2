use Rattle.std.proofs.Common.{◌≡◌, ℕ, Bool, true, false, ◌&&◌, sym, ap, ◌∙◌}
use lib.Ieee.{Float, le, binary64, of_bits}
use Rattle.record.specs.Soundness.{zero_float, one_float, sound_score}
use Rattle.record.specs.declared.Score.{Score}
use Rattle.record.specs.declared.Score.TheVariants.{Band}
use Rattle.record.proofs.Floats.{zero_is, one_is, million_is}
use Rattle.record.proofs.ScoreRecord.is_sound.Goals as goal

-- the bounds as the code writes them are those of the rule
bounded : (x high : Float) (bits : ℕ) → of_bits binary64 bits ≡ high → (le (of_bits binary64 0) x && le x (of_bits binary64 bits)) ≡ (le zero_float x && le x high)
bounded x high bits e = ap (λ (z : Float). le z x && le x (of_bits binary64 bits)) zero_is ∙ ap (λ (z : Float). le zero_float x && le x z) e

pub returns-in-Chance : goal.returns-in-Chance
returns-in-Chance c = c.lies.ensures ∙ bounded c.in-Chance.chance one_float 4607182418800017408 one_is ∙ sym (ap sound_score c.in-Chance.is)

pub returns-in-Cost : goal.returns-in-Cost
returns-in-Cost c = c.lies-in-Cost.ensures ∙ bounded c.in-Cost.cost _ 4696837146684686336 million_is ∙ sym (ap sound_score c.in-Cost.is)

-- a band is sound by whether its low chance lies below its high one, and that below 1
banded : (score : Score) (low high : Float) (b : Bool) → score ≡ Band low high → b ≡ (le (of_bits binary64 0) low && le low high) → sound_score score ≡ (b && le high one_float)
banded score low high b is front =
    ap sound_score is ∙ ap (λ (t : Bool). t && le high one_float) (sym (front ∙ ap (λ (z : Float). le z low && le low high) zero_is))

pub returns-then-lies : goal.returns-then-lies
returns-then-lies c =
    ap (λ (z : Float). le c.in-Band.high z) one_is ∙ sym (banded c.args.self.now c.in-Band.low c.in-Band.high true c.in-Band.is c.if-lies.ensures)

pub returns-else-lies : goal.returns-else-lies
returns-else-lies c = c.if-lies.false ∙ sym (banded c.args.self.now c.in-Band.low c.in-Band.high false c.in-Band.is c.if-lies.ensures)
