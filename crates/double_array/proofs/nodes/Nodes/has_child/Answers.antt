use Rattle.std.proofs.Common.{◌∙◌, is_some, refl, rules, tests}
use Rattle.std.proofs.lemmas.Iterator.{YieldsList-from_range}
use Rattle.std.proofs.lemmas.Iterator.Search.{any_from_yields_List}
use Rattle.cells.specs.Cells.{child}
use Rattle.double_array.proofs.Codes.{some_child}
use Rattle.double_array.proofs.nodes.Nodes.has_child.Goals as goal

pub returns : goal.returns
returns c =
    any_from_yields_List (λ a. is_some (child c.args.self.now.cells.items c.args.s a)) _ _ _ c.any.ensures.ran (YieldsList-from_range 1 258 257 refl refl) (λ x b q k. search (rules, tests))
    ∙ some_child c.args.self.now.cells.items c.args.s
