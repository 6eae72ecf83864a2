use Rattle.std.proofs.Common.{arith}
use Rattle.cells.proofs.Sounds.{tidy_of}
use Rattle.double_array.specs.Views.{cells_of, index_of}
use Rattle.double_array.proofs.Buffers.{same_nodes}
use Rattle.double_array.proofs.Growing.{tree_parents}
use Rattle.double_array.proofs.Changes.{taken_sound, taken_removed}
use Rattle.double_array.proofs.Sames.{same_array, taken_same}
use Rattle.double_array.proofs.array.DoubleArray.remove.Goals as goal

pub take_out-requires : goal.take_out-requires
take_out-requires c two =
    let d = c.args.self.now in
    tree_parents (cells_of d) (tidy_of (cells_of d) (index_of d) d.sound two).tree (omega arith)

pub invariant_of-self : goal.invariant_of-self
invariant_of-self c =
    let d = c.args.self.now in
    let xs = c.take_out.new.self.cells.items in
    let js = c.take_out.new.self.index.items in
    record { sound = taken_sound (cells_of d) (index_of d) c.args.path.now xs js d.sound c.take_out.result c.take_out.ensures.cells }

pub returns : goal.returns
returns c =
    let d = c.args.self.now in
    let n = c.take_out.new.self in
    let xs = n.cells.items in
    let js = n.index.items in
    let p = c.args.path.now in
    let done = c.take_out.ensures.cells in
    let kept = c.take_out.ensures.kept in
    record {
      cells = done;
      sizes = kept.2;
      paths = taken_removed (cells_of d) (index_of d) p xs js d.sound c.take_out.result done;
      same = taken_same (cells_of d) (index_of d) p c.take_out.result xs js _ (λ e f. same_array _ d (same_nodes d.nodes n kept e f)) done;
    }
