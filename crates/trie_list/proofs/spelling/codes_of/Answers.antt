use Rattle.std.proofs.Common.{◌≡◌, length, take, ap, ◌∙◌, arith, length-take-le}
use Rattle.std.proofs.lemmas.List.{length-map, take_all}
use Rattle.cells.specs.Cells.{label_code, path_of_labels}
use Rattle.trie_list.proofs.spelling.codes_of.Goals as goal

pub push-requires : goal.push-requires
push-requires c =
    let l = c.loop-label in
    let done = take l.label-index c.args.labels.now in
    let long : length l.codes.items ≡ l.label-index = ap length l.invariant ∙ length-map done label_code ∙ length-take-le l.label-index c.args.labels.now (omega arith) in
    (omega arith, omega (arith, long, c.requires))

pub returns : goal.returns
returns c = c.loop-label.invariant ∙ ap path_of_labels (take_all c.loop-label.label-index c.args.labels.now (omega arith))
