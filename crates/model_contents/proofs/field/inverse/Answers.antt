use Rattle.std.proofs.Common.{arith, sym, ◌+◌, ◌∙◌}
use Rattle.model_contents.proofs.FieldLemmas.{sought-none, sought-more, sought-found, sought-all}
use Rattle.model_contents.proofs.field.inverse.Goals as goal

pub loop-x-init : goal.loop-x-init
loop-x-init c = sought-none c.args.b

pub loop-x-preserved : goal.loop-x-preserved
loop-x-preserved c = sought-more c.args.b c.loop-x.x (omega arith) (λ e. c.if-product-eq1.false (c.product.ensures ∙ e)) c.loop-x.invariant

pub returns-then-product-eq1 : goal.returns-then-product-eq1
returns-then-product-eq1 c = sought-found c.args.b c.loop-x.x (omega arith) (sym c.product.ensures ∙ c.if-product-eq1.true) c.loop-x.invariant

pub returns-else-product-eq1 : goal.returns-else-product-eq1
returns-else-product-eq1 c = sought-all c.args.b (c.loop-x.x + 1) (omega arith) (sought-more c.args.b c.loop-x.x (omega arith) (λ e. c.if-product-eq1.false (c.product.ensures ∙ e)) c.loop-x.invariant)
