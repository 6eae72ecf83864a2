use Rattle.double_array.specs.Views.{cells_of, index_of}
use Rattle.double_array.proofs.Buffers.{same_nodes}
use Rattle.double_array.proofs.Changes.{entry_sound, entry_added}
use Rattle.double_array.proofs.Sames.{same_array, entry_same}
use Rattle.double_array.proofs.array.DoubleArray.enter.Goals as goal

pub invariant_of-self : goal.invariant_of-self
invariant_of-self c =
    let d = c.args.self.now in
    let xs = c.enter.new.self.cells.items in
    let js = c.enter.new.self.index.items in
    record { sound = entry_sound (cells_of d) (index_of d) c.args.path.now c.args.number xs js d.sound c.enter.result c.enter.ensures.cells }

pub returns : goal.returns
returns c =
    let d = c.args.self.now in
    let n = c.enter.new.self in
    let xs = n.cells.items in
    let js = n.index.items in
    let p = c.args.path.now in
    let u = c.args.number in
    let done = c.enter.ensures.cells in
    let kept = c.enter.ensures.kept in
    record {
      cells = done;
      sizes = kept.2;
      paths = entry_added (cells_of d) (index_of d) p u xs js d.sound c.enter.result done;
      same = entry_same (cells_of d) (index_of d) p u c.enter.result xs js _ (λ e f. same_array _ d (same_nodes d.nodes n kept e f)) done;
    }
