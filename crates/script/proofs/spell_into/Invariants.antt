use Rattle.std.proofs.Common.{◌≡◌, ◌*◌, ◌≤◌, length, take}
use Rattle.script.specs.Words.{spelled}
use Rattle.script.proofs.spell_into.Given as goal

abbrev pub invariant-loop-symbol : goal.invariant-loop-symbol
invariant-loop-symbol g l =
    (l.labels.items ≡ spelled g.S.Script.spelling (take l.symbol-index l.word)) × (l.symbol-index ≤ length l.labels.items) × (length l.labels.items ≤ 4 * l.symbol-index)
