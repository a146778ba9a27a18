use Rattle.std.proofs.Common.{◌≡◌, false, Option, refl, sym, subst, ◌∙◌, inl, inr, rules}
use Rattle.std.specs.Prelude.{IsSome}
use Rattle.outside.specs.Calls.{next_of}
use Rattle.vault_store.specs.Open.{ClosedVault}
use Rattle.vault_top.specs.declared.cause.Cause.TheVariants.{Words, Memory}
use Rattle.vault_top.specs.declared.task.Task.TheVariants.{Serve}
use Rattle.vault_top.specs.Tasks.{AskTask}
use Rattle.vault_top.specs.Words.{words_of}
use Rattle.vault_top.specs.Ending.{help_said, version_said, demonstrated}
use Rattle.vault_top.proofs.Written.{written_as}
use Rattle.vault_top.proofs.Reasons.{run_untouched, run_badly_asked}
use Rattle.vault_top.proofs.program.run.Goals as goal

pub serve-requires-clause-start : goal.serve-requires-clause-start
serve-requires-clause-start g c κs within = record { all = λ rows origin h. h; only = λ rows origin h. h }

pub serve-requires-clause-since : goal.serve-requires-clause-since
serve-requires-clause-since g c κs within = record { all = λ start keys rows h. h; only = λ start keys rows h. h }

pub serve_to_read-requires-clause-start : goal.serve_to_read-requires-clause-start
serve_to_read-requires-clause-start g c κs within = record { all = λ rows origin h. h; only = λ rows origin h. h }

pub serve_to_read-requires-clause-since : goal.serve_to_read-requires-clause-since
serve_to_read-requires-clause-since g c κs within = record { all = λ start keys rows h. h; only = λ start keys rows h. h }

pub returns-in-Ok-Serve : goal.returns-in-Ok-Serve
returns-in-Ok-Serve g c =
    let asked = rw c.in-Ok-Serve.field-0-is at c.in-Ok-Serve.ensures.task in
    record { run = c.serve_to_read.ensures (words_of c.args.words.now) asked.0 asked.1 (sym asked.2.read_only ∙ c.if-service.true) asked.2 }

pub returns-in-Ok-Serve-2 : goal.returns-in-Ok-Serve-2
returns-in-Ok-Serve-2 g c =
    let asked : AskTask (words_of c.args.words.now) (Serve c.in-Ok-Serve.service) = search rules in
    let read_only : asked.0.read_only ≡ false = cc (asked.2.read_only, c.if-service.false) in
    record { run = c.serve.ensures (words_of c.args.words.now) asked.0 asked.1 read_only asked.2 }

pub returns-in-Ok-Make : goal.returns-in-Ok-Make
returns-in-Ok-Make g c =
    let asked = rw c.in-Ok-Make.field-0-is at c.in-Ok-Make.ensures.task in
    record { run = c.make.ensures (words_of c.args.words.now) asked.0 (next_of (g.K.Clock.to_give c.args.clock.now)) asked.1 }

pub returns-in-Ok-Help : goal.returns-in-Ok-Help
returns-in-Ok-Help g c = record {
  run = run_untouched (help_said c.in-Ok-Help.topic) refl refl (λ untouched. (rw c.in-Ok-Help.field-0-is at c.in-Ok-Help.ensures.task, untouched)) (written_as _ _ _ _ _ 0 4 c.report.result (c.as_bytes.ensures.value ∙ c.help_text.ensures) c.report.ensures.written);
}

pub returns-in-Ok-Version : goal.returns-in-Ok-Version
returns-in-Ok-Version g c = record {
  run = run_untouched version_said refl refl (λ untouched. (rw c.in-Ok-Version.field-0-is at c.in-Ok-Version.ensures.task, untouched))
      (written_as _ _ _ _ _ 0 4 c.report-in-Ok-Version.result c.as_bytes-in-Ok-Version.ensures.value c.report-in-Ok-Version.ensures.written);
}

pub returns-in-Err-Refused : goal.returns-in-Err-Refused
returns-in-Err-Refused g c = record { run = run_badly_asked Words refl refl (inl (refl, rw c.in-Err-Refused.field-0-is at c.in-Err-Refused.ensures.cause)) c.refuse.ensures }

pub returns-in-Err-Memory : goal.returns-in-Err-Memory
returns-in-Err-Memory g c = record { run = run_badly_asked Memory refl refl (inr refl) c.refuse-in-Err-Memory.ensures }

pub report_demonstration-requires : goal.report_demonstration-requires
report_demonstration-requires g c =
    let asked = rw c.in-Ok-Demo.field-0-is at c.in-Ok-Demo.ensures.task in
    (c.type_bounds.sync-R, (asked.2.some, asked.2.few))

pub returns-in-Ok-Demo : goal.returns-in-Ok-Demo
returns-in-Ok-Demo g c =
    let asked = rw c.in-Ok-Demo.field-0-is at c.in-Ok-Demo.ensures.task in
    record {
      run = elim (c.report_demonstration.ensures.demonstrated asked.0 asked.2.are) [
        | inl h ↦ run_untouched (demonstrated h.text) c.report_demonstration.ensures.folder (subst (λ (store : Option ClosedVault). IsSome store) (sym h.store_is) refl)
            (λ untouched. record { demonstration = asked.0; words = asked.1; untouched = untouched; closed = h.closed; is = h.store_is; held = h.held }) h.reported
        | inr h ↦ run_badly_asked Memory c.report_demonstration.ensures.folder h.0 (inr refl) h.1
      ];
    }
