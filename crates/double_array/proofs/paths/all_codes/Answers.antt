use Rattle.std.proofs.Common.{rules, tests}
use Rattle.std.proofs.lemmas.Iterator.{YieldsList-from_slice}
use Rattle.std.proofs.lemmas.Iterator.Search.{all_from_yields_List}
use Rattle.cells.specs.Cells.{is_code}
use Rattle.double_array.proofs.paths.all_codes.Goals as goal

pub returns : goal.returns
returns c =
    all_from_yields_List is_code _ _ _ c.all.ensures.ran (YieldsList-from_slice c.args.path.now cc) (λ x b q k. search (rules, tests))
