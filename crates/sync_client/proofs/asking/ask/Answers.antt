use Rattle.std.proofs.Common.{◌≡◌, ◌≤◌, ◌++◌, List, ℕ, length, take, refl, inr, arith}
use Rattle.std.proofs.lemmas.List.{length-take}
use Rattle.outside.specs.Views.{link_in}
use Rattle.outside.proofs.Told.{changed_by}
use Rattle.sync_client.specs.Messages.{most_message}
use Rattle.sync_client.specs.Steps.{message_of}
use Rattle.sync_client.proofs.Talks.{cut_short, other_message}
use Rattle.sync_client.proofs.asking.ask.Goals as goal

pub returns-in-Err : goal.returns-in-Err
returns-in-Err g c =
    cut_short (message_of c.args.question) c.message.result.now (link_in g.L.Link c.args.link.now) (link_in g.L.Link c.write_full.new.link) c.message.ensures.spelled
    c.in-Err.ensures.part c.in-Err.ensures.left c.in-Err.ensures.reads c.in-Err.ensures.cause.later (c.in-Err.ensures.cause.rose refl)

pub returns-else-is_refused_by : goal.returns-else-is_refused_by
returns-else-is_refused_by g c =
    let reply : List ℕ = take c.in_ok-size.size c.read_reply.new.frame in
    let fits : length reply ≤ most_message = omega (arith, length-take c.in_ok-size.size c.read_reply.new.frame, c.in_ok-size.ensures.size) in
    let other = other_message (message_of c.args.question) reply _ _ c.in_ok-size.ensures.frame fits refl c.if-is_answered_by.ensures refl c.if-is_refused_by.ensures in
    let link = g.L.Link in record {
      sent = c.message.result.now;
      read = reply;
      said = (c.message.ensures.spelled, inr other);
      sent_is = rw c.in_ok-size.ensures.taken c.in_default.ensures.whole;
      read_is = rw (← c.in_default.ensures.left)
          (changed_by (link.left c.write_full.new.link) (link.left c.read_reply.new.link) (λ old new. old ≡ reply ++ new) (λ old new. (old ≡ reply ++ new) × Unit {0})
          (λ x y p. (p, tt)) c.in_ok-size.ensures.bytes);
      read_later = omega (arith, c.in_default.ensures.reads, c.in_ok-size.ensures.cause.later);
      write_later = omega (arith, c.in_default.ensures.cause.later, c.in_ok-size.ensures.writes);
      fault = λ is. absurd cc;
    }
