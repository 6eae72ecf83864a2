use Rattle.std.proofs.Common.{◌*◌, ◌≤◌, [], ◌∷◌, length, get_or, refl, arith}
use Rattle.listing.specs.Parts.{rows_from}
use Rattle.listing.proofs.Absent.{block_absent}
use Rattle.listing.proofs.Parts.{from_few}
use Rattle.listing.proofs.Places.{placed_none, placed_filled}
use Rattle.listing.proofs.writing.list_upper.Goals as goal

pub returns-then-leads : goal.returns-then-leads
returns-then-leads c =
    let rows = rows_from c.args.table.now c.args.x c.args.relation (256 * c.args.upper) 256 in
    let few : length rows ≤ 256 = from_few c.args.table.now c.args.x c.args.relation (256 * c.args.upper) 256 in
    record {
      output = placed_filled rows c.args.out.now _ _ (omega arith) c.list_block.ensures;
      few = omega (arith, c.list_block.ensures.ends);
    }

pub returns-else-leads : goal.returns-else-leads
returns-else-leads c =
    let rows = rows_from c.args.table.now c.args.x c.args.relation (256 * c.args.upper) 256 in
    let few : length rows ≤ 256 = from_few c.args.table.now c.args.x c.args.relation (256 * c.args.upper) 256 in
    record {
      output = placed_filled rows c.args.out.now _ _ (omega arith)
          (placed_none c.args.out.now 0 rows _ _
          (block_absent c.args.table.now c.args.x c.args.relation c.args.upper _ (λ j. get_or (c.beginning.ensures j) 0 0 ∷ get_or (c.beginning.ensures j) 1 0 ∷ get_or (c.beginning.ensures j) 2 0 ∷ c.label_code.ensures j ∷ []) c.if-leads.ensures)
          refl refl);
      few = omega arith;
    }
