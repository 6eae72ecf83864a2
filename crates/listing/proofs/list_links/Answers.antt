use Rattle.std.proofs.Common.{refl, arith}
use Rattle.listing.specs.Rows.{rows_of}
use Rattle.listing.proofs.Members.{members}
use Rattle.listing.proofs.Orders.{rising}
use Rattle.listing.proofs.Places.{placed_filled}
use Rattle.listing.proofs.list_links.Goals as goal

pub returns-then-count-out : goal.returns-then-count-out
returns-then-count-out c =
    let t = c.args.table.now in
    record {
      output = (omega (arith, c.list_rows-count.ensures.ends, c.if-count-out.true), refl);
      members = members t c.args.x c.args.relation;
      order = rising t c.args.x c.args.relation;
    }

pub returns : goal.returns
returns c =
    let t = c.args.table.now in
    record {
      output = placed_filled (rows_of t c.args.x c.args.relation) c.args.out.now _ _ (omega (arith, c.list_rows-count.ensures.ends, c.if-count-out.false)) c.list_rows.ensures;
      members = members t c.args.x c.args.relation;
      order = rising t c.args.x c.args.relation;
    }
