use Rattle.std.proofs.Common.{◌≡◌, ℕ, ◌+◌, ◌-◌, ◌<◌, List, length, get_or, drop, ℤ, negsuc, Option, Some, None, sym, refl, ap, ◌∙◌, subst, arith, w32, to_z, of_z, rules}
use Rattle.std.proofs.lemmas.Int.{to_z-of_z}
use Rattle.cells.specs.declared.Cell.{Cell}
use Rattle.cells.specs.Cells.{child_codes}
use Rattle.cells.specs.Placing.{Spot, Arrays, place, freed_up, undo}
use Rattle.cells.specs.Walking.{onward}
use Rattle.double_array.specs.Outcomes.{Parented}
use Rattle.double_array.proofs.Buffers.{kept_on}
use Rattle.double_array.proofs.Growing.{Undoable, grow_on, step_base, step_more, step_last, grow_next, grow_more, extended_is, undoable}
use Rattle.double_array.proofs.nodes.Nodes.extend.Goals as goal
use Rattle.double_array.proofs.nodes.Nodes.extend.Goals.{After-give_child, then-i-codes, else-i-codes}

-- at a turn of the loop: what has grown so far, and the base of the next node
module _ (c : goal.After-give_child) where
  abbrev so_far : Spot
  so_far = record { cells = c.loop-i.self.cells.items; index = c.loop-i.self.index.items; spot = c.loop-i.tip }

  abbrev leaf : ℤ
  leaf = to_z w32 (of_z w32 c.leaf_base-leaf.result)

  abbrev given : ℤ
  given = to_z w32 c.if-i-codes.base-bits

  base : given ≡ step_base (drop (c.loop-i.i + 1) c.args.codes.now) leaf
  base = elim c.if-i-codes.branch [
    | then-i-codes w ↦ w.base-is ∙ sym (step_more c.args.codes.now c.loop-i.i leaf w.if-i-codes.true)
    | else-i-codes w ↦ w.base-is ∙ sym (step_last c.args.codes.now c.loop-i.i leaf w.if-i-codes.false)
  ]

  next : (o : Option Spot) → place so_far.cells so_far.index so_far.spot (get_or c.args.codes.now c.loop-i.i 0) given ≡ o
      → onward o (grow_on (drop (c.loop-i.i + 1) c.args.codes.now) leaf) ≡ grow_on c.args.codes.now leaf (record { cells = c.args.self.now.cells.items; index = c.args.self.now.index.items; spot = c.args.s })
  next o e = grow_next c.args.codes.now c.loop-i.i leaf so_far _ c.loop-i-test.true base o e ∙ c.loop-i.invariant.1

  way : Undoable c.args.self.now.cells.items c.args.self.now.index.items c.args.s c.loop-i.i so_far
  way =
      undoable c.args.self.now.cells.items c.args.self.now.index.items c.args.s c.args.codes.now c.requires.sound c.requires.node c.requires.missing c.loop-i.i c.loop-i-test.true so_far
      (c.loop-i.invariant.2 c.loop-i-test.true)

pub undo-requires : goal.undo-requires
undo-requires c =
    let l = c.loop-i in
    let s = c.args.s in
    let b = c.base-before.result in
    let same : c.give_child.new.self.cells.items ≡ l.self.cells.items = c.in_default.ensures.place.1 in
    let undo = way (goal.at.undo-requires c).After-give_child in
    record {
      node = omega arith;
      tip = omega (arith, l.invariant.0);
      base = c.base-before.ensures.small;
      parents = subst Parented (sym same) undo.parents;
      to = subst (λ xs. (k : ℕ) → k < length (child_codes (freed_up l.i xs l.tip) s) → b + get_or (child_codes (freed_up l.i xs l.tip) s) k 0 < length xs) (sym same)
          (λ k h. omega (arith, undo.room k h, c.base-before.ensures.base, l.invariant.3));
    }

pub returns-in_default-clause-cells : goal.returns-in_default-clause-cells
returns-in_default-clause-cells c =
    let l = c.loop-i in
    let cs = c.args.self.now.cells.items in
    let is = c.args.self.now.index.items in
    let s = c.args.s in
    let n = c.args.number - 1 in
    let at = (goal.at.returns-in_default-clause-cells c).After-give_child in
    let number : leaf at ≡ negsuc n = to_z-of_z w32 c.leaf_base-leaf.result (search rules) ∙ c.leaf_base-leaf.ensures in
    let none = c.in_default.ensures.place in
    let back : record { cells = c.undo.new.self.cells.items; index = c.undo.new.self.index.items } ≡ record { cells = cs; index = is } =
    c.undo.ensures.undone
    ∙ ap (λ (x : List Cell). undo x c.give_child.new.self.index.items s c.base-before.result l.i l.tip) none.1
    ∙ ap (λ (x : List ℕ). undo l.self.cells.items x s c.base-before.result l.i l.tip) none.2
    ∙ ap (λ b. undo l.self.cells.items l.self.index.items s b l.i l.tip) c.base-before.ensures.base ∙ (way at).back in (
      refl,
      extended_is c.args.codes.now cs is s n None c.requires.some (ap (λ y. grow_on c.args.codes.now y (record { cells = cs; index = is; spot = s })) (sym number) ∙ sym (next at None none.0)),
      ap (λ (x : Arrays). x.cells) back,
      ap (λ (x : Arrays). x.index) back,
    )

pub loop-i-preserved : goal.loop-i-preserved
loop-i-preserved c =
    let l = c.loop-i in
    let codes = c.args.codes.now in
    let at = (goal.at.loop-i-preserved c).After-give_child in
    let f : Spot = record { cells = c.give_child.new.self.cells.items; index = c.give_child.new.self.index.items; spot = c.in-Some.t } in
    let placed = c.in-Some.ensures.place in (
      c.in-Some.ensures.within,
      next at (Some f) placed,
      λ more. grow_more codes l.i (record { cells = c.args.self.now.cells.items; index = c.args.self.now.index.items; spot = c.args.s }) (so_far at) f c.loop-i-test.true
          (l.invariant.2 c.loop-i-test.true)
          (ap (place l.self.cells.items l.self.index.items l.tip (get_or codes l.i 0)) (sym (base at ∙ step_more codes l.i (leaf at) more)) ∙ placed),
      kept_on c.args.self.now l.self c.give_child.new.self l.invariant.3 c.give_child.ensures.kept,
    )
