use Rattle.std.proofs.Common.{refl, ◌∙◌}
use Rattle.vault_top.specs.Span.{sink_in}
use Rattle.vault_top.proofs.Outcomes.{Reports, counted_in, reports_both, reports_first}
use Rattle.vault_top.proofs.program.serve_vault.Goals as goal
use Rattle.vault_top.proofs.program.serve_vault.Goals.{in-Ok, in-Err}

pub returns : goal.returns
returns g c =
    let e = c.serve_workers-served.ensures.served in
    let outcome = c.serve_workers-served.result.outcome in
    let before = sink_in g.O.Sink c.args.out.now in
    let after = sink_in g.O.Sink c.match-serving.out in
    let counted = counted_in _ _ _ _ _ _ e.0 c.serve_workers-served.result e.1 in
    let reported : Reports e.0 outcome before after c.match-serving.status =
    elim c.match-serving.branch [
      | in-Ok w ↦
          reports_both e.0 outcome before (sink_in g.O.Sink c.announce-serving.new.out) after c.match-serving.status
          w.in-Ok.ensures.cause.later w.in-Ok.ensures.whole (rw (w.out-is, w.status-is) w.report_outcome-status.ensures) counted
      | in-Err w ↦ reports_first e.0 outcome before after c.match-serving.status (rw w.out-is (w.in-Err.ensures.cause.rose refl)) (w.status-is ∙ w.unreported-status.ensures)
          (rw w.out-is w.in-Err.ensures.part)
    ]
    in record {
      served = record {
        ends = e.0;
        back = c.serve_workers-served.result;
        served = e.1;
        ending = reported.ending;
        may = reported.may;
        folder_is = refl;
        store_is = refl;
        reported = reported.reported;
      };
    }
