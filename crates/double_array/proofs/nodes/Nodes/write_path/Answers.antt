use Rattle.std.proofs.Common.{ℕ, ◌+◌, ◌-◌, ◌<◌, List, length, drop, set, sym, ap, ◌∙◌, subst, arith}
use Rattle.cells.specs.Cells.{parent, base_of}
use Rattle.cells.specs.Walking.{climb}
use Rattle.cells.proofs.Counts.{within}
use Rattle.double_array.proofs.Climbs.{write_not_yet, write_more, write_all}
use Rattle.double_array.proofs.nodes.Nodes.write_path.Goals as goal
use Rattle.double_array.proofs.nodes.Nodes.write_path.Goals.{After-parent-above}

-- the cell above the one that was reached
going : (c : goal.After-parent-above) → (0 < parent c.args.self.now.cells.items (parent c.args.self.now.cells.items c.loop-i.s))
    × (base_of c.args.self.now.cells.items (parent c.args.self.now.cells.items c.loop-i.s) < c.loop-i.s)
    × (c.loop-i.s < base_of c.args.self.now.cells.items (parent c.args.self.now.cells.items c.loop-i.s) + 258)
going c =
    c.requires.upward c.loop-i.s c.loop-i.invariant.0
    (write_not_yet c.args.self.now.cells.items c.args.t c.loop-i.s c.loop-i.i c.loop-i.out c.loop-i.invariant.1 (omega arith) c.loop-i-test.true (omega arith)).0

pub base-requires : goal.base-requires
base-requires c = omega (arith, c.parent-above.ensures, within c.args.self.now.cells.items (parent c.args.self.now.cells.items c.loop-i.s) (going c).0)

pub loop-i-preserved : goal.loop-i-preserved
loop-i-preserved c =
    let cs = c.args.self.now.cells.items in
    let l = c.loop-i in
    let up = c.parent-above.ensures in
    let out : List ℕ = set l.out (l.i - 1) (l.s - c.base.result) in (
      subst (λ t. 0 < parent cs t) (sym up) (going (goal.at.loop-i-preserved c).After-parent-above).0,
      ap (λ t. climb (length cs - (length out - (l.i - 1))) cs t (drop (l.i - 1) out)) up
          ∙ write_more cs c.args.t l.s l.i l.out l.invariant.1 (omega arith) c.loop-i-test.true (omega arith) (l.s - c.base.result) (ap (λ b. l.s - b) (c.base.ensures.base ∙ ap (base_of cs) up)),
    )

pub returns : goal.returns
returns c = write_all c.args.self.now.cells.items c.args.t c.loop-i.s c.loop-i.i c.loop-i.out c.loop-i.invariant.1 (omega arith) c.loop-i-test.false
