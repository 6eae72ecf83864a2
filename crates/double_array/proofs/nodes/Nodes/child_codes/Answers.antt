use Rattle.std.proofs.Common.{length, is_some, sym, ap, ◌∙◌, arith}
use Rattle.double_array.proofs.Codes.{codes_none, codes_more, codes_same}
use Rattle.double_array.proofs.nodes.Nodes.child_codes.Goals as goal
use Rattle.double_array.proofs.nodes.Nodes.child_codes.Goals.{then-is_some, else-is_some}

pub loop-code-init : goal.loop-code-init
loop-code-init c = (omega (arith, ap length c.new-codes.ensures), c.new-codes.ensures ∙ sym (codes_none _ _))

pub loop-code-preserved : goal.loop-code-preserved
loop-code-preserved c =
    let l = c.loop-code in
    let told = sym (ap is_some c.child.ensures.child) ∙ sym c.is_some.ensures in
    elim c.if-is_some.branch [
      | then-is_some w ↦
          (omega (arith, w.push.ensures.len, ap (λ v. length v.items) w.codes-is), ap (λ v. v.items) w.codes-is ∙ w.push.ensures.items ∙ codes_more _ _ l.code _ (omega arith) l.invariant.1 (told ∙ w.if-is_some.true))
      | else-is_some w ↦
          (omega (arith, ap (λ v. length v.items) w.codes-is), ap (λ v. v.items) w.codes-is ∙ codes_same _ _ l.code _ (omega arith) l.invariant.1 (told ∙ w.if-is_some.false))
    ]
