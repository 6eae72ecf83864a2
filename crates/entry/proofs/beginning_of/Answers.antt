use Rattle.std.proofs.Common.{◌≡◌, ℕ, suc, ◌-◌, ◌<◌, eqb, List, [], ◌∷◌, length, get_or, take, drop, Some, None, sym, ap, ◌∙◌, arith}
use Rattle.std.proofs.lemmas.List.{take_all}
use Rattle.std.proofs.lemmas.Bool.{cond-true, eq-eqb}
use Rattle.entry.specs.Entries.{asked_of}

asked : (line : List ℕ) → 0 < length line → get_or line 0 0 ≡ 63 → Some (take (length line - 1) (drop 1 line)) ≡ asked_of line
asked [] h e = absurd (omega arith)
asked (b ∷ more) h e =
    ap (λ (z : List ℕ). Some z) (take_all (suc (length more) - 1) more (omega arith)) ∙ sym (cond-true (eqb b 63) (Some more) None (eq-eqb b 63 e))
