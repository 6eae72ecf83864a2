use Rattle.std.proofs.Common.{◌≡◌, [], ◌∷◌, length, Some, sym, ap, ◌∙◌, arith, rules}
use Rattle.subtrie.specs.Below.{numbers_below, room_after}
use Rattle.subtrie.proofs.Steps.{below_leaf, below_none, below_edges, edges_end}
use Rattle.subtrie.proofs.Rooms.{leaves, room_some, room_none, room_refused}
use Rattle.subtrie.proofs.room.+room_below_room_edges.Goals as goal
use Rattle.subtrie.proofs.room.+room_below_room_edges.Goals.{room_edges-in-Some+in_ok-rest, room_edges-in_default}

pub room_below-returns-in-Some : goal.room_below-returns-in-Some
room_below-returns-in-Some t c =
    let e = below_leaf c.args.array.now.nodes.cells.items c.args.s c.args.left _ c.in-Some.ensures in
    let one : c.checked_sub.result ≡ room_after c.args.room (c.in-Some.field-0 ∷ []) = search rules in
    one ∙ ap (room_after c.args.room) (sym e)

pub room_below-returns-in-None : goal.room_below-returns-in-None
room_below-returns-in-None t c =
    let e = ap length (below_none c.args.array.now.nodes.cells.items c.args.s c.args.left c.if-left-eq0.true c.in-None.ensures) in
    leaves c.args.room _ _ (omega (arith, e))

pub room_below-returns-in-None-2 : goal.room_below-returns-in-None-2
room_below-returns-in-None-2 t c =
    let e = below_edges c.args.array.now.nodes.cells.items c.args.s c.args.left c.if-left-eq0.false c.in-None-2.ensures in
    c.room_edges.ensures ∙ sym (ap (room_after c.args.room) e)

pub room_edges-returns-in_err-rest : goal.room_edges-returns-in_err-rest
room_edges-returns-in_err-rest t c =
    let cs = c.args.array.now.nodes.cells.items in
    let l = c.loop-code in
    c.from_residual.ensures
    ∙ room_refused (numbers_below c.args.left cs) cs c.args.s l.code c.loop-code-test.true l.rest c.in-Some.t c.in-Some.ensures.child c.in_err-rest.ensures
    ∙ l.invariant

pub room_edges-returns : goal.room_edges-returns
room_edges-returns t c =
    let cs = c.args.array.now.nodes.cells.items in
    let l = c.loop-code in
    let e = edges_end (numbers_below c.args.left cs) cs c.args.s l.code c.loop-code-test.false in
    leaves l.rest l.rest _ (omega (arith, ap length e)) ∙ l.invariant

pub room_edges-loop-code-preserved : goal.room_edges-loop-code-preserved
room_edges-loop-code-preserved t c =
    let cs = c.args.array.now.nodes.cells.items in
    let f = numbers_below c.args.left cs in
    let l = c.loop-code in
    elim c.match-child.branch [
      | room_edges-in-Some+in_ok-rest w ↦
          room_some f cs c.args.s l.code c.loop-code-test.true l.rest w.in-Some.t c.match-child.rest w.in-Some.ensures.child (ap Some w.rest-is ∙ w.in_ok-rest.ensures) ∙ l.invariant
      | room_edges-in_default w ↦
          room_none f cs c.args.s l.code c.loop-code-test.true l.rest c.match-child.rest w.in_default.ensures.child w.rest-is ∙ l.invariant
    ]
