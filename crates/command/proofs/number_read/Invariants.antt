use Rattle.std.proofs.Common.{◌≡◌, ◌≤◌, true}
use Rattle.command.specs.Numbers.{plain}
use Rattle.command.proofs.Readings.{Reading}
use Rattle.command.proofs.number_read.Given as goal

abbrev pub invariant-loop-digit : goal.invariant-loop-digit
invariant-loop-digit l = Reading l.digits l.digit-index l.n × (l.n ≤ l.limit) × (plain l.digits ≡ true)
