use Rattle.outside_mem.proofs.Disks.{bare_tree}
use Rattle.outside_mem.proofs.folder.MemFolder.new.Goals as goal

pub invariant_of-result : goal.invariant_of-result
invariant_of-result c = rw (c.new.ensures.items, c.new-2.ensures.items) (c.in_ok-bare.ensures, bare_tree, bare_tree)
