-- A demonstration is held.
use Rattle.std.proofs.Common.{◌≡◌, inl, inr}
use Rattle.vault_top.specs.declared.cause.Cause.{Cause}
use Rattle.vault_top.specs.declared.cause.Cause.TheVariants.{Memory}
use Rattle.vault_words.specs.Jobs.{Demonstration, Job, serve, make, demo, help, version, AsksFor}
use Rattle.vault_top.specs.Words.{Ask}
use Rattle.vault_top.specs.Span.{Views, Span}
use Rattle.vault_top.specs.Ending.{Ending, refused, help_said, version_said, made, no_memory_to_serve, served, listener_fault, closing_fault, no_memory_to_report, only_read, whole, a_listener_failed, not_reported, not_shared, demonstrated, IsRefused, HasReason}
use Rattle.vault_top.specs.Sound.{IsHeldOrFull}
use Rattle.vault_top.proofs.Asked.{one_job, not_refused}

module _ {C : Type 0} (span : Span C) (d : Demonstration) (asked : Ask span.words (demo d)) where
  -- the words ask for nothing else
  one : (job : Job) → AsksFor job span.words → job ≡ demo d
  one job asks = one_job span.words (demo d) job asked asks

  refused_held : (cause : Cause) → IsRefused span cause → cause ≡ Memory
  refused_held cause (inl h) = elim h.why [
    | inl bad ↦ absurd (not_refused span.words (demo d) asked bad.1)
    | inr memory ↦ memory
  ]
  refused_held cause (inr (inl h)) = let e : serve h.serving ≡ demo d = one (serve h.serving) h.words.asks in absurd cc
  refused_held cause (inr (inr h)) = let e : make h.making ≡ demo d = one (make h.making) h.words.asks in absurd cc

  pub held : {D N E K : Type 0} (views : Views D N C E K) (ending : Ending) → HasReason views span ending → IsHeldOrFull ending
  held views (refused cause) h = refused_held cause h
  held views (help_said topic) h = let e : help topic ≡ demo d = one (help topic) h.0.asks in absurd cc
  held views version_said h = let e : version ≡ demo d = one version h.0.asks in absurd cc
  held views made h = let e : make h.making ≡ demo d = one (make h.making) h.words.asks in absurd cc
  held views no_memory_to_serve h = let e : serve h.serving ≡ demo d = one (serve h.serving) h.words.asks in absurd cc
  held views (served ends) h = let e : serve h.0.serving ≡ demo d = one (serve h.0.serving) h.0.words.asks in absurd cc
  held views (listener_fault ends) h = let e : serve h.0.serving ≡ demo d = one (serve h.0.serving) h.0.words.asks in absurd cc
  held views (closing_fault ends) h = let e : serve h.0.serving ≡ demo d = one (serve h.0.serving) h.0.words.asks in absurd cc
  held views (no_memory_to_report ends) h = let e : serve h.0.serving ≡ demo d = one (serve h.0.serving) h.0.words.asks in absurd cc
  held views (only_read (whole ends)) h = let e : serve h.serving ≡ demo d = one (serve h.serving) h.words.asks in absurd cc
  held views (only_read (a_listener_failed ends)) h = let e : serve h.0.serving ≡ demo d = one (serve h.0.serving) h.0.words.asks in absurd cc
  held views (only_read (not_reported ends)) h = let e : serve h.serving ≡ demo d = one (serve h.serving) h.words.asks in absurd cc
  held views (only_read not_shared) h = let e : serve h.serving ≡ demo d = one (serve h.serving) h.words.asks in absurd cc
  held views (demonstrated text) h = tt
