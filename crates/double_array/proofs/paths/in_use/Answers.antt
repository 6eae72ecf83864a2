use Rattle.std.proofs.Common.{ℕ, cond, ltb, length, drop, filter, sym, refl, ap, ◌∙◌, arith, rules, tests, length-drop}
use Rattle.std.proofs.lemmas.Iterator.{YieldsList-from_slice, YieldsList-from_map}
use Rattle.std.proofs.lemmas.Iterator.Consumers.{sum_by_from_yields_List, fits_by_from_yields_list}
use Rattle.std.proofs.lemmas.List.{take_rest}
use Rattle.std.proofs.lemmas.List.Sums.{length-filter, count_by-le-length}
use Rattle.std.specs.List.{range_with_len}
use Rattle.cells.specs.declared.Cell.{Cell}
use Rattle.cells.specs.Cells.{parent}
use Rattle.double_array.proofs.Uses.{is_used, used_from}
use Rattle.double_array.proofs.paths.in_use.Goals as goal

-- 1 for a cell in use, 0 for another
abbrev ones : Cell → ℕ
ones cell = cond (is_used cell) 1 0

pub sum-requires-clause-fits : goal.sum-requires-clause-fits
sum-requires-clause-fits c =
    let cs = c.args.cells.now in
    fits_by_from_yields_list ones (drop 1 cs) _ _
    (YieldsList-from_map _ ones (YieldsList-from_slice (drop 1 cs) (cc (take_rest cs 1))) c.map.ensures.closure (λ x r q k. search (rules, tests)))
    (omega (arith, count_by-le-length is_used (drop 1 cs), length-drop 1 cs))

pub returns-in-len1-up : goal.returns-in-len1-up
returns-in-len1-up c =
    let cs = c.args.cells.now in
    sum_by_from_yields_List ones (drop 1 cs) _ _ c.sum.ensures.ran
    (YieldsList-from_map _ ones (YieldsList-from_slice (drop 1 cs) (cc (take_rest cs 1))) c.map.ensures.closure (λ x r q k. search (rules, tests)))
    ∙ sym (length-filter is_used (drop 1 cs))
    ∙ used_from cs (drop 1 cs) 1 refl ∙ ap (λ n. length (filter (λ t. ltb 0 (parent cs t)) (range_with_len 1 n))) (length-drop 1 cs)
