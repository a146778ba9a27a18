use Rattle.std.proofs.Common.{◌≤◌, length, refl, inr, arith}
use Rattle.vault_top.specs.Span.{views_of}
use Rattle.vault_top.specs.Ending.{refused, made}
use Rattle.vault_top.proofs.Outcomes.{first_item}
use Rattle.vault_top.proofs.Reasons.{PutBack, idle, run_making}
use Rattle.vault_top.proofs.program.make.Goals as goal
use Rattle.vault_top.proofs.program.make.Goals.{in-Ok, in-Err+in-NotEmpty-1, in-Err+in-Words-1}

pub returns : goal.returns
returns g c = λ words making second asked.
    let views = views_of g.D.Reads g.N.Listener g.N.Conn.Link g.E.Entropy g.K.Clock in
    let few : 1 ≤ length c.args.workers.now.items = omega (arith, c.args.workers.now.ok.0, c.requires) in
    let workers_are = first_item c.args.workers.now.items c.remove-listener.new.self.items c.remove-listener.result few c.remove-listener.ensures.value c.remove-listener.ensures.items in
    let back : PutBack c.args.workers.now.items c.put_back.new.workers.items = record {
      first = _;
      entropy = _;
      others = _;
      old = workers_are;
      new = c.put_back.ensures;
    } in
    elim c.match-made.branch [
      | in-Ok w ↦ run_making (record {
        back = back;
        ending = made;
        kept = _;
        folder_is = refl;
        store_is = refl;
        reason = record { making = making; words = asked; drawn = (refl, w.in-Ok.ensures.made second, refl, idle views back.others) };
        reported = rw (w.out-is, w.status-is) w.report-status.ensures.written;
      })
      | in-Err+in-NotEmpty-1 w ↦ run_making (record {
        back = back;
        ending = refused w.in-Err.cause;
        kept = _;
        folder_is = refl;
        store_is = refl;
        reason = inr (inr (record { making = making; words = asked; drawn = (refl, w.in-Err.ensures.not_made second, refl, idle views back.others) }));
        reported = rw (w.out-is, w.status-is) w.refuse-status.ensures;
      })
      | in-Err+in-Words-1 w ↦ run_making (record {
        back = back;
        ending = refused w.in-Err.cause;
        kept = _;
        folder_is = refl;
        store_is = refl;
        reason = inr (inr (record { making = making; words = asked; drawn = (refl, w.in-Err.ensures.not_made second, refl, idle views back.others) }));
        reported = rw (w.out-is, w.status-is) w.refuse-status.ensures;
      })
    ]
