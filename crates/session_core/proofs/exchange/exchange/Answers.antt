use Rattle.std.proofs.Common.{[], None, Some, Err, drop, refl, sym, arith}
use Rattle.std.proofs.lemmas.List.{append-nil}
use Rattle.tree_model.specs.Asked.{Asked, asked_of, plain_request, plain_reply}
use Rattle.ninep_wire.specs.RMessage.{error}
use Rattle.ninep_wire.specs.Plain.{plain_message}
use Rattle.session_core.specs.State.{limit}
use Rattle.session_core.specs.Denial.{denial_text}
use Rattle.session_core.specs.Forms.{bytes_offset}
use Rattle.session_core.proofs.Exchanges.{said, asked_for, within}
use Rattle.session_core.proofs.exchange.exchange.Goals as goal

pub returns-in-Err-clause-answered : goal.returns-in-Err-clause-answered
returns-in-Err-clause-answered g c = record {
  asked = None;
  exchanged = said c.args.session.now c.args.session.now c.args.frame.now (Err c.in-Err.fault) c.args.now _ c.tag_at-tag.result (error (denial_text c.denial_of.result))
      c.in-Err.ensures.exact (c.denial_of.ensures c.args.session.now) c.tag_at-tag.ensures c.write_error.ensures.formed c.write_error.ensures.bytes
      (within c.write_error.result (limit c.args.session.now) c.write_error.new.out (omega (arith, c.write_error.ensures.size.1, c.requires.good.low)));
  extends = λ start before h. rw (append-nil before) h;
}

pub returns-in-Ask-clause-answered : goal.returns-in-Ask-clause-answered
returns-in-Ask-clause-answered g c =
    let request = plain_request c.in-Ask.request in
    let entry : Asked = asked_of request c.args.now (plain_reply c.ask-reply.result) (drop (bytes_offset request) c.ask-reply.new.out) in
    let answered = c.finish.ensures.answered entry.bytes (record {
      suited = c.in-Ask.ensures.form.suited (plain_reply c.ask-reply.result) entry.bytes c.ask-reply.ensures.form;
      in_place = c.in-Ask.ensures.form.in_place (plain_reply c.ask-reply.result) entry.bytes c.ask-reply.new.out c.ask-reply.ensures.form;
    })
    in record {
      asked = Some entry;
      exchanged = asked_for c.args.session.now c.finish.new.session c.args.frame.now (plain_message c.in-Ok.message) c.args.now _ c.tag_at-tag.result answered.0 request entry
          c.in-Ok.ensures.exact (sym (c.in-Ask.ensures.action [])) refl refl answered.3 c.tag_at-tag.ensures answered.1 answered.2
          (within c.finish.result (limit c.finish.new.session) c.finish.new.out c.finish.ensures.size.1);
      extends = c.ask-reply.ensures.stands;
    }
