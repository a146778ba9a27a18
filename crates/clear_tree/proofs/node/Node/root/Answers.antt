use Rattle.std.proofs.Common.{arith}
use Rattle.clear_tree.proofs.node.Node.root.Goals as goal

pub invariant_of-result : goal.invariant_of-result
invariant_of-result c =
    rw (c.from_vec.ensures, c.in_ok-name.ensures.items) (record { text = c.as_bytes.ensures.utf8; short = omega (arith, c.as_bytes.ensures.len); folder = c.requires })
