use Rattle.std.proofs.Common.{◌≡◌, ◌+◌, ◌-◌, ◌<◌, None, length, get_or, drop, sym, ap, ◌∙◌, subst, arith}
use Rattle.std.proofs.lemmas.List.{get_or-drop, get_or-take}
use Rattle.link_table.specs.Numbers.{Vacant}
use Rattle.link_table.proofs.numbers.vacant_from.Goals as goal

pub returns-in_err-place : goal.returns-in_err-place
returns-in_err-place c =
    let index = c.args.index.now in
    let from = c.args.from in
    let entries = c.in_ok-entries.entries.now in
    let free : Vacant entries 0 None = subst (Vacant entries 0) c.in_err-place.was c.first_zero.ensures in
    let part = c.in_ok-entries.ensures.lookup.0 in
    subst (Vacant index from) (sym c.from_residual-in_err-place.ensures) (λ k h low.
    let within : k - from < length index - from = omega arith in
    let place : from + (k - from) ≡ k = omega arith in
    let read : get_or entries (k - from) 0 ≡ get_or index k 0 =
    ap (λ l. get_or l (k - from) 0) part.2 ∙ get_or-take (length index - from) (drop from index) (k - from) 0 within ∙ get_or-drop from index (k - from) 0 ∙ ap (λ n. get_or index n 0) place in
    omega (arith, read, free (k - from) (omega (arith, part.3)) (omega arith)))
