use Rattle.std.proofs.Common.{◌∙◌, rules}
use Rattle.siv_mode.proofs.Doubling.{doubled_is}
use Rattle.siv_mode.proofs.blocks.double.Goals as goal

pub returns : goal.returns
returns c =
    let n = c.from_be_bytes-number in
    c.to_be_bytes.ensures ∙ doubled_is c.args.block n.result (search rules) n.ensures n.type_inv
