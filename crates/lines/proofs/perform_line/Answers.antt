use Rattle.std.proofs.Common.{◌≡◌, ℕ, ◌+◌, ◌≤◌, List, length, drop, ap, ◌∙◌, arith, length-append, rules}
use Rattle.output.specs.Written.{written}
use Rattle.line_text.specs.Texts.{answer_text}
use Rattle.lines.proofs.perform_line.Goals as goal

-- what was written into an output that keeps its length fits it
fits_in : (out text after : List ℕ) → after ≡ written out 0 text → length after ≡ length out → length text ≤ length out
unfolding written
fits_in out text after e same = let k = ap length e ∙ length-append text (drop (0 + length text) out) in omega arith

pub returns-clause-within : goal.returns-clause-within
returns-clause-within c = let text = answer_text c.answer_line-answer.result in let fits = fits_in c.args.out.now text c.write_answer.new.out (search rules) c.write_answer.auto.out in search rules
