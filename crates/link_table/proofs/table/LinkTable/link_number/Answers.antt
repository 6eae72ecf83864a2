use Rattle.std.proofs.Common.{ap, ◌∙◌}
use Rattle.cells.specs.Walking.{number_at}
use Rattle.double_array.specs.Views.{cells_of}
use Rattle.link_table.proofs.Tables.{lawful}
use Rattle.link_table.proofs.table.LinkTable.link_number.Goals as goal

pub returns : goal.returns
returns c =
    let s = c.args.self.now in
    record {
      number = c.number_at.ensures.number ∙ ap (number_at (cells_of s.array)) c.write_code.ensures.path;
      laws = lawful s;
    }
