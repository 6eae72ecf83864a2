use Rattle.std.proofs.Common.{Some, None, arith}
use Rattle.std.proofs.lemmas.Bool.{cond-false}
use Rattle.double_array.specs.Spellings.{is_known, path_of}
use Rattle.double_array.specs.Views.{cells_of, index_of}
use Rattle.link_table.specs.Codes.{path_of_triple, triple_of}
use Rattle.link_table.proofs.Tables.{new_fields, none_known, none_held}
use Rattle.link_table.proofs.table.LinkTable.new.Goals as goal

pub invariant_of-result : goal.invariant_of-result
invariant_of-result c =
    let m = c.new.ensures in
    new_fields c.new.result m.none m.index (omega (arith, m.index_len, c.truncate.ensures.len, c.min.ensures))

pub returns : goal.returns
returns c =
    let m = c.new.ensures in
    let d = c.new.result in
    record {
      cells_long = m.cells_len;
      cells_clear = m.cells;
      limit_is = omega (arith, m.index_len, c.truncate.ensures.len, c.min.ensures);
      index_zero = m.index;
      no_triple = λ t. m.none (path_of_triple t);
      no_number = λ u. cond-false (is_known (index_of d) u) (Some (triple_of (path_of (cells_of d) (index_of d) u))) None (none_known d m.none m.index u);
      none_held = none_held d m.none m.index;
    }
