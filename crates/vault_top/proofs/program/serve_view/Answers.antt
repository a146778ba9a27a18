use Rattle.std.proofs.Common.{refl, ◌∙◌}
use Rattle.vault_top.specs.Span.{sink_in}
use Rattle.vault_top.proofs.Outcomes.{Reports, counted_readers, read_reports, reports_both, reports_first}
use Rattle.vault_top.proofs.program.serve_view.Goals as goal
use Rattle.vault_top.proofs.program.serve_view.Goals.{in-Ok, in-Err}

pub returns : goal.returns
returns g c =
    let e = c.serve_readers-served.ensures.served in
    let outcome = c.serve_readers-served.result.outcome in
    let before = sink_in g.O.Sink c.args.out.now in
    let after = sink_in g.O.Sink c.match-serving.out in
    let reported : Reports e.0 outcome before after c.match-serving.status =
    elim c.match-serving.branch [
      | in-Ok w ↦
          reports_both e.0 outcome before (sink_in g.O.Sink c.announce-serving.new.out) after c.match-serving.status
          w.in-Ok.ensures.cause.later w.in-Ok.ensures.whole (rw (w.out-is, w.status-is) w.report_outcome-status.ensures) (counted_readers e.1)
      | in-Err w ↦ reports_first e.0 outcome before after c.match-serving.status (rw w.out-is (w.in-Err.ensures.cause.rose refl)) (w.status-is ∙ w.unreported-status.ensures)
          (rw w.out-is w.in-Err.ensures.part)
    ]
    in
    let read = read_reports e.1 reported in
    record {
      served = record {
        ends = e.0;
        back = c.serve_readers-served.result;
        served = e.1;
        reading = read.reading;
        may = read.may;
        folder_is = refl;
        store_is = refl;
        reported = read.reported;
      };
    }
