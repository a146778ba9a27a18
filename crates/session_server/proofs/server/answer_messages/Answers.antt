use Rattle.std.proofs.Common.{Err, ap, ℕ, List, take, Option, sym, subst, refl, arith}
use Rattle.std.proofs.lemmas.List.{length-take}
use Rattle.outside.specs.Calls.{Rose}
use Rattle.session_server.specs.Steps.{Reads, Writes}
use Rattle.session_server.proofs.TalkSoFar.{OneAnswered, so_far_none, so_far_more, talked_stop, talked_fault, talked_limit}
use Rattle.session_server.proofs.server.answer_messages.Goals as goal

pub loop-answered-init : goal.loop-answered-init
loop-answered-init g c = record { so_far = so_far_none c.requires.fresh; few = omega arith }

pub returns-in-Err : goal.returns-in-Err
returns-in-Err g c = record {
  talked = talked_stop c.loop-answered.invariant.so_far c.loop-answered-test.true c.in-Err.ensures.stops c.read_frame.ensures.taken
      (record { later = c.in-Err.ensures.cause.later; rose = λ is. c.in-Err.ensures.cause.rose (ap Err is) }) (omega (arith, c.read_frame.ensures.writes));
}

pub loop-answered-preserved : goal.loop-answered-preserved
loop-answered-preserved g c =
    let e = c.answer-answer.ensures.answered in
    let frame : List ℕ = take c.in-Ok.size c.read_frame.new.frame in
    let answer : List ℕ = take c.answer-answer.result c.answer-answer.new.out in
    let one : OneAnswered c.loop-answered.session frame c.now-now.result e.asked answer c.answer-answer.new.self =
    record { framed = c.in-Ok.ensures.frame; fits = omega (arith, length-take c.in-Ok.size c.read_frame.new.frame, c.in-Ok.ensures.size.0); exchanged = e.exchanged } in
    record {
      so_far = so_far_more c.loop-answered.invariant.so_far one c.now-now.ensures e.extends (record {
        read = subst (λ (l : Option (List ℕ)). Reads (g.L.Link.left c.loop-answered.link) l frame) (sym c.write_full.ensures.left) c.in-Ok.ensures.bytes;
        wrote = subst (λ (t : Option (List ℕ)). Writes t (g.L.Link.taken c.write_full.new.link) answer) c.read_frame.ensures.taken c.in-Ok-write_full.ensures.whole;
        read_faults = omega (arith, c.read_frame.ensures.cause.later, c.write_full.ensures.reads);
        write_faults = omega (arith, c.read_frame.ensures.writes, c.write_full.ensures.cause.later);
      });
      few = omega (arith, c.loop-answered.invariant.few, c.loop-answered-test.true);
    }

pub returns-in-Err-write_full : goal.returns-in-Err-write_full
returns-in-Err-write_full g c =
    let e = c.answer-answer.ensures.answered in
    let p = c.in-Err-write_full.ensures.part in
    let frame : List ℕ = take c.in-Ok.size c.read_frame.new.frame in
    let answer : List ℕ = take c.answer-answer.result c.answer-answer.new.out in
    let one : OneAnswered c.loop-answered.session frame c.now-now.result e.asked answer c.answer-answer.new.self =
    record { framed = c.in-Ok.ensures.frame; fits = omega (arith, length-take c.in-Ok.size c.read_frame.new.frame, c.in-Ok.ensures.size.0); exchanged = e.exchanged } in
    record {
      talked = talked_fault c.loop-answered.invariant.so_far one c.now-now.ensures e.extends p.0 c.loop-answered-test.true p.1
          (record {
            read = subst (λ (l : Option (List ℕ)). Reads (g.L.Link.left c.loop-answered.link) l frame) (sym c.write_full.ensures.left) c.in-Ok.ensures.bytes;
            wrote = subst (λ (t : Option (List ℕ)). Writes t (g.L.Link.taken c.write_full.new.link) (take p.0 answer)) c.read_frame.ensures.taken p.2;
            read_faults = omega (arith, c.read_frame.ensures.cause.later, c.write_full.ensures.reads);
            write_faults = omega (arith, c.read_frame.ensures.writes, c.write_full.ensures.cause.later);
          })
          (record {
            later = omega (arith, c.read_frame.ensures.writes, c.write_full.ensures.cause.later);
            rose = λ failed. subst (λ (n : ℕ). Rose n (g.L.Link.write_faults c.write_full.new.link)) c.read_frame.ensures.writes (c.in-Err-write_full.ensures.cause.rose refl);
          });
    }

pub returns : goal.returns
returns g c = record { talked = talked_limit c.loop-answered.invariant.so_far (omega (arith, c.loop-answered.invariant.few, c.loop-answered-test.false)) }
