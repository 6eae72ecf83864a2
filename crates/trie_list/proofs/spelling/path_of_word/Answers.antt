use Rattle.std.proofs.Common.{◌++◌, [], ◌∷◌, length, ap, ◌∙◌, arith}
use Rattle.std.proofs.lemmas.List.{length-map}
use Rattle.cells.specs.Cells.{label_code}
use Rattle.trie_list.proofs.spelling.path_of_word.Goals as goal

pub push-requires : goal.push-requires
push-requires c = omega (arith, ap length c.codes_of-path.ensures, length-map c.args.word.now label_code, c.requires)

pub returns : goal.returns
returns c = c.push.ensures.items ∙ ap (λ z. z ++ 1 ∷ []) c.codes_of-path.ensures
