-- If the words are refused, nothing is done.
use Rattle.std.proofs.Common.{inl, inr}
use Rattle.vault_words.specs.Jobs.{Job, serve, make, demo, help, version}
use Rattle.vault_top.specs.Words.{Ask, AreRefused}
use Rattle.vault_top.specs.Span.{Views, Span}
use Rattle.vault_top.specs.Ending.{Ending, refused, help_said, version_said, made, no_memory_to_serve, served, listener_fault, closing_fault, no_memory_to_report, only_read, whole, a_listener_failed, not_reported, not_shared, demonstrated, HasReason}
use Rattle.vault_top.specs.Sound.{IsBadOrFull}
use Rattle.vault_top.proofs.Asked.{not_refused}

module _ {C : Type 0} (span : Span C) (bad : AreRefused span.words) where
  none : (job : Job) → Ask span.words job → ⊥
  none job asked = not_refused span.words job asked bad

  pub bad_or_full : {D N E K : Type 0} (views : Views D N C E K) (ending : Ending) → HasReason views span ending → IsBadOrFull ending
  bad_or_full views (refused cause) (inl h) = elim h.why [ inl words ↦ inl words.0 | inr memory ↦ inr memory ]
  bad_or_full views (refused cause) (inr (inl h)) = absurd (none (serve h.serving) h.words)
  bad_or_full views (refused cause) (inr (inr h)) = absurd (none (make h.making) h.words)
  bad_or_full views (help_said topic) h = absurd (none (help topic) h.0)
  bad_or_full views version_said h = absurd (none version h.0)
  bad_or_full views made h = absurd (none (make h.making) h.words)
  bad_or_full views no_memory_to_serve h = absurd (none (serve h.serving) h.words)
  bad_or_full views (served ends) h = absurd (none (serve h.0.serving) h.0.words)
  bad_or_full views (listener_fault ends) h = absurd (none (serve h.0.serving) h.0.words)
  bad_or_full views (closing_fault ends) h = absurd (none (serve h.0.serving) h.0.words)
  bad_or_full views (no_memory_to_report ends) h = absurd (none (serve h.0.serving) h.0.words)
  bad_or_full views (only_read (whole ends)) h = absurd (none (serve h.serving) h.words)
  bad_or_full views (only_read (a_listener_failed ends)) h = absurd (none (serve h.0.serving) h.0.words)
  bad_or_full views (only_read (not_reported ends)) h = absurd (none (serve h.serving) h.words)
  bad_or_full views (only_read not_shared) h = absurd (none (serve h.serving) h.words)
  bad_or_full views (demonstrated text) h = absurd (none (demo h.demonstration) h.words)
