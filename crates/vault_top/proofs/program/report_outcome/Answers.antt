use Rattle.std.proofs.Common.{codes, refl, ◌∙◌, inl, inr}
use Rattle.vault_top.specs.Report.{line, sessions_line}
use Rattle.vault_top.specs.Ending.{no_memory_to_serve, served, listener_fault, closing_fault, no_memory_to_report}
use Rattle.vault_top.proofs.Written.{written_as}
use Rattle.vault_top.proofs.Outcomes.{counts_of, may_end}
use Rattle.vault_top.proofs.program.report_outcome.Goals as goal

pub returns-in-Ok : goal.returns-in-Ok
returns-in-Ok g c = λ ends counted.
    let line_is = c.in-Ok.ensures ends (counts_of ends c.args.outcome c.in-Served.counts c.in-Served.is counted) in record {
      ending = served ends;
      may = may_end ends c.args.outcome _ (served ends) c.in-Served.is (inl refl);
      text = sessions_line ends;
      report_is = refl;
      written = written_as _ _ _ _ (sessions_line ends) _ _ _ (c.as_bytes.ensures.value ∙ line_is) c.report.ensures.written;
    }

pub returns-in-Err : goal.returns-in-Err
returns-in-Err g c = λ ends counted. record {
  ending = no_memory_to_report ends;
  may = may_end ends c.args.outcome _ (no_memory_to_report ends) c.in-Served.is (inr refl);
  text = line (codes "out of memory");
  report_is = refl;
  written = c.report-in-Err.ensures.written;
}

pub returns-in-ListenerFault : goal.returns-in-ListenerFault
returns-in-ListenerFault g c = λ ends counted. record {
  ending = listener_fault ends;
  may = may_end ends c.args.outcome _ (listener_fault ends) c.in-ListenerFault.is refl;
  text = line (codes "listener fault");
  report_is = refl;
  written = c.report-in-ListenerFault.ensures.written;
}

pub returns-in-FolderFault : goal.returns-in-FolderFault
returns-in-FolderFault g c = λ ends counted. record {
  ending = closing_fault ends;
  may = may_end ends c.args.outcome _ (closing_fault ends) c.in-FolderFault.is refl;
  text = line (codes "device fault: folder");
  report_is = refl;
  written = c.report-in-FolderFault.ensures.written;
}

pub returns-in-NoMemory : goal.returns-in-NoMemory
returns-in-NoMemory g c = λ ends counted. record {
  ending = no_memory_to_serve;
  may = may_end ends c.args.outcome _ no_memory_to_serve c.in-NoMemory.is refl;
  text = line (codes "out of memory");
  report_is = refl;
  written = c.report-in-NoMemory.ensures.written;
}
