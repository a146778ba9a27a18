use Rattle.std.proofs.Common.{arith, refl}
use Rattle.session_server.proofs.ShareSoFar.{changes_to, changes_from}
use Rattle.session_server.proofs.crew.serve_next.Goals as goal

pub returns : goal.returns
returns g c =
    let next = rw c.in-Some.is at c.in_ok-link.ensures.link in record {
      served = record {
        served = record { came = c.in-Some.link; given = c.serve_session-end.new.link; end = c.serve_session-end.result };
        end_is = refl;
        talked = c.serve_session-end.ensures.talked;
        came = changes_to _ _ _ _ c.back.ensures.to_come next;
        given = changes_from _ _ _ _ c.in_ok-link.ensures.given c.back.ensures.given;
        faults = (let one = c.next.ensures.cause.later in let two = c.back.ensures.faults in omega arith);
      };
    }
