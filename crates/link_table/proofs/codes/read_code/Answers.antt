use Rattle.std.proofs.Common.{◌≡◌, ℕ, ◌<◌, ◌&&◌, get_or, Some, None, sym, ap, ◌∙◌, arith, rules, tests}
use Rattle.std.proofs.lemmas.Bool.{cond-true}
use Rattle.cells.specs.Cells.{all_codes, label_of}
use Rattle.link_table.specs.Codes.{triple_of, is_triple_path}
use Rattle.link_table.specs.declared.triple.Triple.{Triple}
use Rattle.link_table.proofs.Labels.{reads}
use Rattle.link_table.proofs.codes.read_code.Goals as goal

-- the label of each code was asked for
label_at : (c : goal.After-from_be_bytes-2) (i a : ℕ) → i < 5 → get_or c.map.result i None ≡ Some a → label_of (get_or c.args.path.now i 0) ≡ Some a
label_at c i a h e =
    let k = c.map.ensures.items.at i 0 None h in
    let asked : get_or c.map.result i None ≡ label_of (get_or c.args.path.now i 0) = search (rules, tests) in
    sym asked ∙ e

pub returns : goal.returns
returns c =
    let p = c.args.path.now in
    let w = reads p (omega (arith, c.told-path)) _ _ _ _ _
    (label_at c 0 _ (omega arith) c.in_ok-x_upper.was) (label_at c 1 _ (omega arith) c.in_ok-x_lower.was) (label_at c 2 _ (omega arith) c.in_ok-relation.was)
    (label_at c 3 _ (omega arith) c.in_ok-y_upper.was) (label_at c 4 _ (omega arith) c.in_ok-y_lower.was) in
    (λ j. Some (record { x = c.from_be_bytes.ensures j; relation = c.in_ok-relation.field-0; y = c.from_be_bytes-2.ensures j }))
    ∙ ap (λ (t : Triple). Some t) (sym w.triple)
    ∙ sym (cond-true (is_triple_path p && all_codes p) (Some (triple_of p)) None w.path)
