-- The status of a run with a sound job, in which nothing failed.
use Rattle.std.proofs.Common.{◌≡◌, ◌⊎◌, ℕ, List, Option, refl, sym, subst, inl, inr}
use Rattle.clap.specs.Words.{Text}
use Rattle.vault_top.specs.declared.cause.Cause.{Cause}
use Rattle.vault_top.specs.declared.cause.Cause.TheVariants.{Memory}
use Rattle.vault_top.specs.Span.{Course, SourceView, SinkView, Views, Span, span_of}
use Rattle.vault_top.specs.Ending.{Ending, refused, help_said, version_said, made, no_memory_to_serve, served, listener_fault, closing_fault, no_memory_to_report, only_read, whole, a_listener_failed, not_reported, not_shared, demonstrated, HasReason, status_of}
use Rattle.vault_top.specs.Sound.{IsSoundJob, IsSoundRun, IsFaultless, IsServedOrFull, IsMadeOrFull, IsHeldOrFull}
use Rattle.shared_tree.specs.declared.workers.Worker.{Worker}
use Rattle.vault_top.specs.declared.program.Ended.{Ended}
use Rattle.vault_top.proofs.Soundness.{sound}
use Rattle.vault_top.proofs.SoundMaking.{sound_to_make}
use Rattle.vault_top.proofs.SoundDemo.{held}

-- 0, or 5 if memory ran out
abbrev IsGood : ℕ → Type 0
IsGood status = (status ≡ 0) ⊎ (status ≡ 5)

full : (cause : Cause) → cause ≡ Memory → IsGood (status_of (refused cause))
full cause is = inr (subst (λ (c : Cause). status_of (refused c) ≡ 5) (sym is) refl)

of_serving : (ending : Ending) → IsServedOrFull ending → IsGood (status_of ending)
of_serving (refused cause) h = full cause h
of_serving (help_said topic) h = absurd h
of_serving version_said h = absurd h
of_serving made h = absurd h
of_serving no_memory_to_serve h = inr refl
of_serving (served ends) h = inl refl
of_serving (listener_fault ends) h = absurd h
of_serving (closing_fault ends) h = absurd h
of_serving (no_memory_to_report ends) h = inr refl
of_serving (only_read (whole ends)) h = inl refl
of_serving (only_read (a_listener_failed ends)) h = absurd h
of_serving (only_read (not_reported ends)) h = inr refl
of_serving (only_read not_shared) h = inr refl
of_serving (demonstrated text) h = absurd h

of_making : (ending : Ending) → IsMadeOrFull ending → IsGood (status_of ending)
of_making (refused cause) h = full cause h
of_making (help_said topic) h = absurd h
of_making version_said h = absurd h
of_making made h = inl refl
of_making no_memory_to_serve h = absurd h
of_making (served ends) h = absurd h
of_making (listener_fault ends) h = absurd h
of_making (closing_fault ends) h = absurd h
of_making (no_memory_to_report ends) h = absurd h
of_making (only_read reading) h = absurd h
of_making (demonstrated text) h = absurd h

of_holding : (ending : Ending) → IsHeldOrFull ending → IsGood (status_of ending)
of_holding (refused cause) h = full cause h
of_holding (help_said topic) h = absurd h
of_holding version_said h = absurd h
of_holding made h = absurd h
of_holding no_memory_to_serve h = absurd h
of_holding (served ends) h = absurd h
of_holding (listener_fault ends) h = absurd h
of_holding (closing_fault ends) h = absurd h
of_holding (no_memory_to_report ends) h = absurd h
of_holding (only_read reading) h = absurd h
of_holding (demonstrated text) h = inl refl

of_job : {D N C E K : Type 0} (views : Views D N C E K) (span : Span C) (ending : Ending) → IsSoundJob span → IsFaultless span → HasReason views span ending → IsGood (status_of ending)
of_job views span ending (inl serving) faultless reason = of_serving ending (sound views span ending serving faultless reason)
of_job views span ending (inr (inl making)) faultless reason = of_making ending (sound_to_make views span ending making.0 faultless making.1 reason)
of_job views span ending (inr (inr holding)) faultless reason = of_holding ending (held span holding.0 holding.1 views ending reason)

pub sound_status : {D N C E K : Type 0} (views : Views D N C E K) (words : List Text) (secret : Course SourceView) (second : Option ℕ) (folder : D) (workers workers' : List (Worker N E K)) (sink : Course SinkView) (ended : Ended D)
    → IsSoundRun views words secret second folder workers workers' sink ended → IsGood ended.status
sound_status views words secret second folder workers workers' sink ended is =
    let span = span_of views words secret second folder is.run.kept workers workers' ended.store in
    let good = of_job views span is.run.ending is.sound is.faultless is.run.reason in
    elim is.run.reported [
      | inl taken ↦ subst IsGood (sym taken.0) good
      | inr cut ↦ absurd (is.written cut.0)
    ]
