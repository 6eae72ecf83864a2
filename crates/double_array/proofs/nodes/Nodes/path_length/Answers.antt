use Rattle.std.proofs.Common.{◌≡◌, ◌+◌, ◌-◌, ◌<◌, [], length, sym, ap, subst, arith}
use Rattle.cells.specs.Cells.{parent}
use Rattle.cells.specs.Walking.{climb}
use Rattle.double_array.proofs.Climbs.{length_step}
use Rattle.double_array.proofs.nodes.Nodes.path_length.Goals as goal

pub loop-n-preserved : goal.loop-n-preserved
loop-n-preserved c =
    let cs = c.args.self.now.cells.items in
    let l = c.loop-n in
    let same = c.parent-s.ensures in
    let ne : l.s ≡ 1 → ⊥ = λ e. omega (arith, c.if-s-eq1.false) in
    let fewer : length cs - l.n - 1 ≡ length cs - (l.n + 1) = omega arith in
    let step = length_step cs (length cs - l.n) l.s ne (omega arith) in
    let here = ap (λ k. length (climb k cs (parent cs l.s) [])) fewer in
    let there = ap (λ t. length (climb (length cs - (l.n + 1)) cs t [])) same in
    (subst (λ t. 0 < parent cs t) (sym same) (c.requires.upward l.s l.invariant.0 ne).0, omega (arith, l.invariant.1, step, here, there))
