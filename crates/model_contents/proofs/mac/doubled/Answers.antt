use Rattle.std.proofs.Common.{◌∙◌, rules}
use Rattle.model_contents.proofs.MacLemmas.{doubled-low, doubled-high}
use Rattle.model_contents.proofs.mac.doubled.Goals as goal

pub returns-then-number-eq0 : goal.returns-then-number-eq0
returns-then-number-eq0 c =
    let n = c.from_be_bytes-number in
    c.to_be_bytes.ensures ∙ doubled-low c.args.block n.result (search rules) n.ensures n.type_inv c.if-number-eq0.true

pub returns-else-number-eq0 : goal.returns-else-number-eq0
returns-else-number-eq0 c =
    let n = c.from_be_bytes-number in
    c.to_be_bytes-else-number-eq0.ensures ∙ doubled-high c.args.block n.result (search rules) n.ensures n.type_inv c.if-number-eq0.false
