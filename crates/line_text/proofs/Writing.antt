-- Texts written one after another.
use Rattle.std.proofs.Common.{◌≡◌, ℕ, ◌≤◌, List, ◌++◌, length, ap, ◌∙◌, arith}
use Rattle.output.specs.Written.{written}
use Rattle.output.proofs.Writes.{written_more}

-- a text from the start of an output on, and another where it ends
pub written_next : (out text more : List ℕ) (at : ℕ) → at ≡ length text → length text ≤ length out
    → written (written out 0 text) at more ≡ written out 0 (text ++ more)
written_next out text more at ends room =
    ap (λ n. written (written out 0 text) n more) (omega (arith, ends)) ∙ written_more out 0 text more (omega (arith, room))
