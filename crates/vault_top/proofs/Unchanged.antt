-- If the words ask for a vault to be served read-only, nothing of its folder is changed.
use Rattle.std.proofs.Common.{◌≡◌, ◌≤◌, true, false, true≢false, sym, ap, ◌∙◌, inl, inr, arith}
use Rattle.outside.specs.Views.{FolderView}
use Rattle.vault_words.specs.Jobs.{Job, Making, Serving, serve, make}
use Rattle.vault_top.specs.declared.cause.Cause.{Cause}
use Rattle.vault_top.specs.Words.{Ask}
use Rattle.vault_top.specs.Span.{IsOnlyRead, Span, Views}
use Rattle.vault_top.specs.Ending.{Ending, refused, help_said, version_said, made, no_memory_to_serve, served, listener_fault, closing_fault, no_memory_to_report, only_read, whole, a_listener_failed, not_reported, not_shared, demonstrated, HasReason, IsRefused, IsUntouched}
use Rattle.vault_top.proofs.Asked.{one_job}

module _ {C : Type 0} (span : Span C) (serving : Serving) (asked : Ask span.words (serve serving)) (read_only : serving.read_only ≡ true) where
  abbrev IsUnchanged : Type 0
  IsUnchanged = IsOnlyRead span.given.folder.before span.given.folder.after

  one : (job : Job) → Ask span.words job → job ≡ serve serving
  one job is = one_job span.words (serve serving) job asked is.asks

  -- the words ask for nothing that may change it
  never_made : {making : Making} → Ask span.words (make making) → ⊥
  never_made {making} is = let e : make making ≡ serve serving = one (make making) is in cc

  never_writes : (other : Serving) → Ask span.words (serve other) → other.read_only ≡ false → ⊥
  never_writes other is writes =
      let e : serve other ≡ serve serving = one (serve other) is in
      let same : other ≡ serving = cc in
      true≢false (sym read_only ∙ ap (λ (s : Serving). s.read_only) (sym same) ∙ writes)

  untouched : IsUntouched span → IsUnchanged
  untouched is = record {
    log = ap (λ (v : FolderView). v.log) is.folder;
    changes = ap (λ (v : FolderView). v.changes) is.folder;
    faults = (let e = ap (λ (v : FolderView). v.faults) is.folder in omega arith);
  }

  not_done : (cause : Cause) → IsRefused span cause → IsUnchanged
  not_done cause (inl badly) = untouched badly.untouched
  not_done cause (inr (inl unserved)) = elim unserved.unopened [
    | inl writes ↦ absurd (never_writes unserved.serving unserved.words writes.0)
    | inr reads ↦ reads.1.read
  ]
  not_done cause (inr (inr making)) = absurd (never_made making.words)

  pub unchanged_by : {D N E K : Type 0} (views : Views D N C E K) (ending : Ending) → HasReason views span ending → IsUnchanged
  unchanged_by views (refused cause) reason = not_done cause reason
  unchanged_by views (help_said topic) reason = untouched reason.1
  unchanged_by views version_said reason = untouched reason.1
  unchanged_by views made reason = absurd (never_made reason.words)
  unchanged_by views no_memory_to_serve reason = absurd (never_writes reason.serving reason.words reason.writes)
  unchanged_by views (served ends) reason = absurd (never_writes reason.0.serving reason.0.words reason.0.writes)
  unchanged_by views (listener_fault ends) reason = absurd (never_writes reason.0.serving reason.0.words reason.0.writes)
  unchanged_by views (closing_fault ends) reason = absurd (never_writes reason.0.serving reason.0.words reason.0.writes)
  unchanged_by views (no_memory_to_report ends) reason = absurd (never_writes reason.0.serving reason.0.words reason.0.writes)
  unchanged_by views (only_read (whole ends)) reason = reason.sessions.readings.read
  unchanged_by views (only_read (a_listener_failed ends)) reason = reason.0.sessions.readings.read
  unchanged_by views (only_read (not_reported ends)) reason = reason.sessions.readings.read
  unchanged_by views (only_read not_shared) reason = reason.read
  unchanged_by views (demonstrated text) reason = untouched reason.untouched
