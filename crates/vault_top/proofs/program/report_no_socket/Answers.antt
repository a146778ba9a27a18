use Rattle.vault_top.proofs.program.report_no_socket.Goals as goal

pub returns : goal.returns
returns g c = c.report.ensures.written
