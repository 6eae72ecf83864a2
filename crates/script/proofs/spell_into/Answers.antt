use Rattle.script.proofs.Apart.{words_apart}
use Rattle.script.proofs.spell_into.Goals as goal

pub returns-then-not-has_word_size-clause-apart : goal.returns-then-not-has_word_size-clause-apart
returns-then-not-has_word_size-clause-apart g c =
    let m = g.met.S.Script in
    words_apart g.S.Script.spelling g.S.Script.width m.narrow.0 m.even m.apart

pub returns-clause-apart : goal.returns-clause-apart
returns-clause-apart g c =
    let m = g.met.S.Script in
    words_apart g.S.Script.spelling g.S.Script.width m.narrow.0 m.even m.apart
