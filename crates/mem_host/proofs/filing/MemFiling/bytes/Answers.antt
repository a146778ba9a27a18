use Rattle.std.proofs.Common.{Some, None, sym, ◌∙◌}
use Rattle.mem_host.proofs.Writing.{bytes_by}
use Rattle.mem_host.proofs.filing.MemFiling.bytes.Goals as goal

pub returns-in-None : goal.returns-in-None
returns-in-None c = sym (bytes_by c.args.self.now.held c.args.inode None c.in-None.ensures)

pub returns-in-Some : goal.returns-in-Some
returns-in-Some c = c.bytes.ensures ∙ sym (bytes_by c.args.self.now.held c.args.inode (Some c.in-Some.file.now) c.in-Some.ensures)
