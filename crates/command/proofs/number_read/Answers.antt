use Rattle.std.proofs.Common.{ℕ, Some, sym, ap, ◌∙◌, arith}
use Rattle.command.proofs.Readings.{none_over, some_number, reading_more, reading_ge, reading_all}
use Rattle.command.proofs.number_read.Goals as goal

pub returns-then-n-limit : goal.returns-then-n-limit
returns-then-n-limit c =
    let s = c.args.digits.now in
    let l = c.loop-digit in
    let more = reading_more s l.digit-index l.n l.invariant.0 c.loop-digit-test.true (sym c.is_ascii_digit.ensures.value ∙ c.if-not-is_ascii_digit.false) in
    record { value = sym (none_over c.args.limit s (omega (arith, reading_ge s _ _ more))); bound = tt }

pub loop-digit-preserved : goal.loop-digit-preserved
loop-digit-preserved c =
    let l = c.loop-digit in
    (reading_more c.args.digits.now l.digit-index l.n l.invariant.0 c.loop-digit-test.true (sym c.is_ascii_digit.ensures.value ∙ c.if-not-is_ascii_digit.false), omega arith, l.invariant.2)

pub returns : goal.returns
returns c =
    let s = c.args.digits.now in
    let l = c.loop-digit in
    let all = reading_all s l.digit-index l.n l.invariant.0 (omega arith) in
    record {
      value = sym (some_number c.args.limit s l.invariant.2 all.1 (omega (arith, all.0, l.invariant.1)) ∙ ap (λ (n : ℕ). Some n) all.0);
      bound = l.invariant.1;
    }
