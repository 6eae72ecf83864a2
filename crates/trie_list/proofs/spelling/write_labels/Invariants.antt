use Rattle.std.proofs.Common.{◌≡◌, take}
use Rattle.trie_list.specs.Paths.{labels_on}
use Rattle.trie_list.proofs.spelling.write_labels.Given as goal

abbrev pub invariant-loop-i : goal.invariant-loop-i
invariant-loop-i l = take l.i l.place-items ≡ take l.i (labels_on l.path)
