use Rattle.std.proofs.Common.{length, ap, ◌∙◌, arith}
use Rattle.subtrie.specs.Below.{numbers_below}
use Rattle.subtrie.proofs.Steps.{below_leaf, below_none, below_edges, edges_end}
use Rattle.subtrie.proofs.Writes.{wrote_none, wrote_one, wrote_as, wrote_all, wrote_some, wrote_past, edge_room}
use Rattle.subtrie.proofs.writing.+write_below_write_edges.Goals as goal
use Rattle.subtrie.proofs.writing.+write_below_write_edges.Goals.{write_edges-in-Some, write_edges-in_default}

pub write_below-bounds-out-at : goal.write_below-bounds-out-at
write_below-bounds-out-at t c =
    let e = ap length (below_leaf c.args.array.now.nodes.cells.items c.args.s c.args.left c.in-Some.n c.in-Some.ensures) in
    omega (arith, e, c.requires)

pub write_below-returns-in-Some : goal.write_below-returns-in-Some
write_below-returns-in-Some t c =
    let e = below_leaf c.args.array.now.nodes.cells.items c.args.s c.args.left c.in-Some.n c.in-Some.ensures in
    let w = wrote_one c.args.out.now c.args.at _ c.in-Some.n e (omega (arith, ap length e, c.requires)) in
    record { end = w.ends; after = w.holds }

pub write_below-returns-in-None : goal.write_below-returns-in-None
write_below-returns-in-None t c =
    let e = below_none c.args.array.now.nodes.cells.items c.args.s c.args.left c.if-left-eq0.true c.in-None.ensures in
    let w = wrote_none c.args.out.now c.args.at _ e in
    record { end = w.ends; after = w.holds }

pub write_below-returns-in-None-2 : goal.write_below-returns-in-None-2
write_below-returns-in-None-2 t c =
    let e = below_edges c.args.array.now.nodes.cells.items c.args.s c.args.left c.if-left-eq0.false c.in-None-2.ensures in
    let w = wrote_as c.args.out.now c.args.at _ _ _ _ e (record { ends = c.write_edges.ensures.end; holds = c.write_edges.ensures.after }) in
    record { end = w.ends; after = w.holds }

pub write_below-write_edges-requires : goal.write_below-write_edges-requires
write_below-write_edges-requires t c =
    let e = ap length (below_edges c.args.array.now.nodes.cells.items c.args.s c.args.left c.if-left-eq0.false c.in-None-2.ensures) in
    omega (arith, e, c.requires)

pub write_edges-returns : goal.write_edges-returns
write_edges-returns t c =
    let cs = c.args.array.now.nodes.cells.items in
    let w = wrote_all c.loop-code.out c.loop-code.next _ _ _ (edges_end (numbers_below c.args.left cs) cs c.args.s c.loop-code.code c.loop-code-test.false) c.loop-code.invariant in
    record { end = w.0; after = w.1 }

pub write_edges-loop-code-preserved : goal.write_edges-loop-code-preserved
write_edges-loop-code-preserved t c =
    let cs = c.args.array.now.nodes.cells.items in
    let f = numbers_below c.args.left cs in
    let l = c.loop-code in
    elim c.match-child.branch [
      | write_edges-in-Some w ↦
          wrote_some f cs c.args.s l.code c.loop-code-test.true l.out l.next _ _ w.in-Some.t c.match-child.next c.match-child.out w.in-Some.ensures.child
          (omega (arith, l.auto.out, c.requires))
          (record { ends = w.next-is ∙ w.write_below-next.ensures.end; holds = w.out-is ∙ w.write_below-next.ensures.after })
          l.invariant
      | write_edges-in_default w ↦
          wrote_past f cs c.args.s l.code c.loop-code-test.true l.out l.next _ _ c.match-child.next c.match-child.out w.in_default.ensures.child w.next-is w.out-is l.invariant
    ]

pub write_edges-write_below-next-requires : goal.write_edges-write_below-next-requires
write_edges-write_below-next-requires t c =
    let cs = c.args.array.now.nodes.cells.items in
    let l = c.loop-code in
    let room = edge_room (numbers_below c.args.left cs) cs c.args.s l.code c.loop-code-test.true l.out l.next _ _ c.in-Some.t c.in-Some.ensures.child (omega (arith, l.auto.out, c.requires)) l.invariant in
    omega (arith, room)
