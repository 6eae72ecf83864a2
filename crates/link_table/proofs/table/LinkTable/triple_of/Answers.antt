use Rattle.std.proofs.Common.{◌≡◌, ℕ, true, cond, ◌&&◌, List, Some, None, sym, refl, ap, ◌∙◌}
use Rattle.std.proofs.lemmas.Bool.{and_from, cond-true, cond-false}
use Rattle.cells.specs.Cells.{all_codes}
use Rattle.double_array.specs.Spellings.{is_known, path_of}
use Rattle.double_array.specs.Views.{cells_of, index_of}
use Rattle.link_table.specs.Codes.{triple_of, is_triple_path}
use Rattle.link_table.proofs.Tables.{lawful, path_known, path_five, path_codes, path_written, unknown_at}
use Rattle.link_table.proofs.table.LinkTable.triple_of.Goals as goal

pub returns : goal.returns
returns c =
    let s = c.args.self.now in
    let u = c.args.number in
    let m = c.in-Ok.ensures.path in
    let known = path_known s u 5 m.0 in
    let same = path_written s u known c.in-Ok.field-0 _ c.path_of.new.out refl m.1 m.2 in
    let path = path_of (cells_of s.array) (index_of s.array) u in
    let code : (is_triple_path path && all_codes path) ≡ true = and_from (is_triple_path path) (all_codes path) (path_five s u known) (path_codes s u known) in
    record {
      triple = c.read_code.ensures ∙ ap (λ (p : List ℕ). cond (is_triple_path p && all_codes p) (Some (triple_of p)) None) same
          ∙ cond-true (is_triple_path path && all_codes path) (Some (triple_of path)) None code
          ∙ sym (cond-true (is_known (index_of s.array) u) (Some (triple_of (path_of (cells_of s.array) (index_of s.array) u))) None known);
      laws = lawful s;
    }

pub returns-in_default : goal.returns-in_default
returns-in_default c =
    let s = c.args.self.now in
    let u = c.args.number in
    let unknown = unknown_at s u c.in_default.field-0 c.in_default.ensures.path.0 in
    record {
      triple = sym (cond-false (is_known (index_of s.array) u) (Some (triple_of (path_of (cells_of s.array) (index_of s.array) u))) None unknown);
      laws = lawful s;
    }
