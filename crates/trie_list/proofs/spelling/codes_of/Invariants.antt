use Rattle.std.proofs.Common.{◌≡◌, take}
use Rattle.cells.specs.Cells.{path_of_labels}
use Rattle.trie_list.proofs.spelling.codes_of.Given as goal

abbrev pub invariant-loop-label : goal.invariant-loop-label
invariant-loop-label l = l.codes.items ≡ path_of_labels (take l.label-index l.labels)
