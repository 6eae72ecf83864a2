use Rattle.double_array.specs.Views.{cells_of, index_of}
use Rattle.subtrie.specs.Below.{numbers_from}
use Rattle.subtrie.proofs.Listings.{listed, members, ordered}
use Rattle.subtrie.proofs.numbers_below.Goals as goal

pub returns : goal.returns
returns c =
    let d = c.args.array.now in
    let p = c.args.beginning.now in
    let l = listed (cells_of d) (index_of d) d.sound p in
    record {
      output = c.write_from.ensures;
      paths = l;
      members = members (cells_of d) p (numbers_from (cells_of d) p) l;
      order = ordered (cells_of d) p (numbers_from (cells_of d) p) l (index_of d) d.sound;
    }
