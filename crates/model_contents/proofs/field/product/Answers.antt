use Rattle.std.proofs.Common.{arith}
use Rattle.model_contents.proofs.FieldLemmas.{product-none, product-picked, product-left, product-all}
use Rattle.model_contents.proofs.field.product.Goals as goal
use Rattle.model_contents.proofs.field.product.Goals.{then-a-i-eq1, else-a-i-eq1}

pub loop-i-init : goal.loop-i-init
loop-i-init c = product-none c.args.a c.args.b

pub loop-i-preserved : goal.loop-i-preserved
loop-i-preserved c =
    let now = c.loop-i in
    elim c.if-a-i-eq1.branch [
      | then-a-i-eq1 w ↦ product-picked now.i now.sum now.multiple _ _ now.invariant (omega arith) w.if-a-i-eq1.true w.sum-is c.times_x-multiple.ensures
      | else-a-i-eq1 w ↦ product-left now.i now.sum now.multiple _ _ now.invariant (omega arith) w.if-a-i-eq1.false w.sum-is c.times_x-multiple.ensures
    ]

pub returns : goal.returns
returns c = product-all c.args.a c.args.b c.loop-i.i c.loop-i.sum c.loop-i.multiple (omega arith) c.loop-i.invariant
