use Rattle.std.proofs.Common.{subst}
use Rattle.mem_host.specs.Filing.{IsFiling}
use Rattle.mem_host.proofs.Files.{is_filing}
use Rattle.mem_host.proofs.filing.MemFiling.next_inode.Goals as goal

pub returns-clause-filing : goal.returns-clause-filing
returns-clause-filing c = subst IsFiling c.self.view_is (is_filing c.self.inside.files.items)
