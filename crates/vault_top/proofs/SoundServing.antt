-- If nothing failed, what was served is answered as the step says, and sessions of whole messages to their end.
use Rattle.std.proofs.Common.{◌≡◌, ℕ, zero, suc, ◌≤◌, Bool, true, false, eqb, eqb-true, eq-eqb, cond, List, [], ◌∷◌, length, Option, Some, None, IsSome, refl, sym, ap, subst, inl, inr, arith}
use Rattle.std.specs.List.{AllByRecursion}
use Rattle.outside.specs.Calls.{Rose, Told}
use Rattle.outside.specs.Images.{Log}
use Rattle.outside.specs.Views.{LinkView}
use Rattle.vault_keys.specs.Keys.{KeyPair}
use Rattle.tree_model.specs.Asked.{Asked}
use Rattle.tree_model.specs.History.{Entry, Origin, Tally, next, after, tally_at, tally_of, IsCaused, AreCaused, IsLegal, IsUpTo}
use Rattle.tree_model.specs.Laws.{AreFaultless, AreStepped}
use Rattle.tree_model.proofs.Faultless.{are_stepped}
use Rattle.session_server.specs.declared.ending.SessionEnd.{SessionEnd}
use Rattle.session_server.specs.declared.ending.SessionEnd.TheVariants as ends
use Rattle.session_server.specs.Served.{ServedLink, TalkedOn, TalkedOnEach}
use Rattle.session_server.specs.Whole.{IsServedWhole}
use Rattle.session_server.proofs.Whole.{served_whole}
use Rattle.vault_top.specs.Span.{Views, WorkerSpan, Span}
use Rattle.vault_store.specs.ReadOnly.{AreViewed}
use Rattle.vault_top.specs.Served.{Share, AreShares, HasHistory, IsSince, end_of, entropy_before, entropy_after}
use Rattle.vault_top.specs.ReadOnly.{HasReadings}
use Rattle.vault_top.specs.Words.{sessions_of, sharers}
use Rattle.vault_top.specs.Ending.{Ending, refused, help_said, version_said, made, no_memory_to_serve, served, listener_fault, closing_fault, no_memory_to_report, only_read, whole, a_listener_failed, not_reported, not_shared, demonstrated, IsDemonstration, HasReason, ListenerFailed, Never}
use Rattle.vault_top.specs.Demonstrated.{own_views}
use Rattle.vault_top.specs.Sound.{IsFaultless, SomeRandomFailed, IsDoneOrFull, IsServedOut, IsServedSoundly, IsReadSoundly, held_span, IsHeldSoundly, HasServedSoundly}
use Rattle.vault_top.proofs.Faults.{faults_rise, rose_within}
use Rattle.vault_top.proofs.RightlyTaken.{rightly_taken}
use Rattle.vault_top.proofs.SteppedReadings.{readings_stepped}

-- ---- counts of random sources

source_by : (j : ℕ) (tally : Tally) (entry : Entry) (own : Bool) → IsCaused tally entry → eqb j entry.caller ≡ own → tally.entropy_faults j ≤ cond own entry.made.entropy.after (tally.entropy_faults j)
source_by j tally entry true caused is =
    let since : tally.entropy_faults j ≤ entry.made.entropy.before =
    subst (λ (n : ℕ). tally.entropy_faults n ≤ entry.made.entropy.before) (sym (eqb-true j entry.caller is)) caused.entropy_since in
    let amid = caused.entropy in omega (arith, since, amid)
source_by j tally entry false caused is = omega arith

source_next : (j : ℕ) (tally : Tally) (entry : Entry) → IsCaused tally entry → tally.entropy_faults j ≤ (next tally entry).entropy_faults j
source_next j tally entry caused = source_by j tally entry (eqb j entry.caller) caused refl

sources_rise : (j : ℕ) (tally : Tally) (entries : List Entry) → AreCaused tally entries → tally.entropy_faults j ≤ (after tally entries).entropy_faults j
sources_rise j tally [] caused = omega arith
sources_rise j tally (entry ∷ entries) caused =
    let first = source_next j tally entry caused.0 in
    let more = sources_rise j (next tally entry) entries caused.1 in
    omega (arith, first, more)

source_own : (tally : Tally) (entry : Entry) → (next tally entry).entropy_faults entry.caller ≡ entry.made.entropy.after
source_own tally entry = ap (λ (b : Bool). cond b entry.made.entropy.after (tally.entropy_faults entry.caller)) (eq-eqb entry.caller entry.caller refl)

-- past the last worker there are none
quiet_sources : {C : Type 0} (workers : List (WorkerSpan C)) → (SomeRandomFailed workers → ⊥) → (j : ℕ) → Rose (entropy_before workers j) (entropy_after workers j) → ⊥
quiet_sources [] none j (inl less) = omega (arith, less)
quiet_sources [] none j (inr full) = omega (arith, full)
quiet_sources (worker ∷ workers) none zero rose = none (inl rose)
quiet_sources (worker ∷ workers) none (suc j) rose = quiet_sources workers (λ some. none (inr some)) j rose

-- ---- entries

-- within bounds between which no count rose none rises in an entry
module _ (low high : ℕ) (first last : ℕ → ℕ) (still : Rose low high → ⊥) (silent : (j : ℕ) → Rose (first j) (last j) → ⊥) where
  are_faultless : (tally : Tally) (entries : List Entry) → AreCaused tally entries → low ≤ tally.folder_faults → ((j : ℕ) → first j ≤ tally.entropy_faults j)
      → (after tally entries).folder_faults ≤ high → ((j : ℕ) → (after tally entries).entropy_faults j ≤ last j) → AreFaultless entries
  are_faultless tally [] caused from since to up = tt
  are_faultless tally (entry ∷ entries) caused from since to up =
      let by = entry.caller in
      let folder_since = caused.0.folder_since in
      let folder = caused.0.folder in
      let entropy_since = caused.0.entropy_since in
      let more = faults_rise (next tally entry) entries caused.1 in
      let others = sources_rise by (next tally entry) entries caused.1 in
      let own = source_own tally entry in
      let before = since by in
      let behind = up by in (
        record {
          folder = λ rose. still (rose_within low entry.made.folder.before entry.made.folder.after high (omega (arith, from, folder_since)) folder (omega (arith, more, to)) rose);
          entropy = λ rose. silent by (rose_within (first by) entry.made.entropy.before entry.made.entropy.after (last by) (omega (arith, before, entropy_since)) caused.0.entropy (omega (arith, own, others, behind)) rose);
        },
        are_faultless (next tally entry) entries caused.1 (omega (arith, from, folder_since, folder))
            (λ j. let known = since j in let goes_on = source_next j tally entry caused.0 in omega (arith, known, goes_on)) to up,
      )

-- nor do they in the entries of a run
quiet_entries : {C : Type 0} (span : Span C) (origin : Origin) (entries : List Entry) → AreCaused (tally_at origin) entries → IsSince span origin → IsUpTo (end_of span) (tally_of origin entries)
    → (Rose span.given.folder.before.faults span.given.folder.after.faults → ⊥) → (SomeRandomFailed span.workers → ⊥) → AreFaultless entries
quiet_entries span origin entries caused since up_to still none =
    are_faultless span.given.folder.before.faults span.given.folder.after.faults (entropy_before span.workers) (entropy_after span.workers) still (quiet_sources span.workers none)
    (tally_at origin) entries caused since.folder since.entropy up_to.folder up_to.entropy

told_alone : (log : Option Log) (P : Type 0) → IsSome log → Told log (λ l. P) → P
told_alone None P told is = absurd cc
told_alone (Some l) P told is = is

steps : {C : Type 0} (span : Span C) (keys : KeyPair) (shares : List (Share C)) (history : HasHistory span keys shares) → IsSome span.given.folder.before.log
    → (Rose span.given.folder.before.faults span.given.folder.after.faults → ⊥) → (SomeRandomFailed span.workers → ⊥) → AreStepped history.rows history.origin history.entries
steps span keys shares history told still none =
    are_stepped history.rows history.origin history.entries
    (told_alone span.given.folder.before.log (IsLegal history.rows history.origin history.entries) told history.legal)
    (quiet_entries span history.origin history.entries history.caused history.since history.up_to still none)

-- ---- sessions

done_or_full : (before after : LinkView) (messages answered : List (List ℕ)) (end : SessionEnd) → IsServedWhole messages answered before after end → IsDoneOrFull before after end
done_or_full before after messages answered ends.Done is = inl (refl, is.1)
done_or_full before after messages answered ends.Memory is = inr (refl, is.1)
done_or_full before after messages answered (ends.Cut had wanted) is = absurd is
done_or_full before after messages answered (ends.BadFrame size) is = absurd is
done_or_full before after messages answered ends.ReadFault is = absurd is
done_or_full before after messages answered ends.WriteFault is = absurd is
done_or_full before after messages answered ends.Limit is = absurd is

served_out : {C : Type 0} (view : C → LinkView) (clock clock' : Option (ℕ → ℕ)) (link : ServedLink C) (asked : List Asked) → TalkedOn (view link.came) (view link.given) clock clock' link.end asked → IsServedOut view link
served_out view clock clock' link asked talked = λ whole faultless.
    done_or_full (view link.came) (view link.given) whole.messages talked.talk.frames link.end
    (served_whole (view link.came) (view link.given) clock clock' link.end asked talked whole faultless)

links_served_out : {C : Type 0} (view : C → LinkView) (clock clock' : Option (ℕ → ℕ)) (links : List (ServedLink C)) (asked : List Asked) → TalkedOnEach view clock clock' links asked → AllByRecursion (IsServedOut view) links
links_served_out view clock clock' [] asked talked = tt
links_served_out view clock clock' (link ∷ links) asked talked =
    (served_out view clock talked.next link talked.first talked.talked, links_served_out view talked.next clock' links talked.others talked.rest)

shares_served_out : {C : Type 0} (view : C → LinkView) (MayStop : WorkerSpan C → Type 0) (sessions sharing j : ℕ) (workers : List (WorkerSpan C)) (shares : List (Share C))
    → AreShares view MayStop sessions sharing j workers shares → AllByRecursion (λ (share : Share C). AllByRecursion (IsServedOut view) share.links) shares
shares_served_out view MayStop sessions sharing j [] [] are = tt
shares_served_out view MayStop sessions sharing j [] (share ∷ shares) are = absurd are
shares_served_out view MayStop sessions sharing j (worker ∷ workers) [] are = absurd are
shares_served_out view MayStop sessions sharing j (worker ∷ workers) (share ∷ shares) are =
    (links_served_out view worker.clock.before worker.clock.after share.links share.asked are.0.talked, shares_served_out view MayStop sessions sharing (suc j) workers shares are.1)

served_soundly : {C : Type 0} (view : C → LinkView) (span : Span C) (keys : KeyPair) (MayStop : WorkerSpan C → Type 0) (sessions sharing : ℕ) (shares : List (Share C)) (history : HasHistory span keys shares)
    → AreShares view MayStop sessions sharing 0 span.workers shares → IsSome span.given.folder.before.log
    → (Rose span.given.folder.before.faults span.given.folder.after.faults → ⊥) → (SomeRandomFailed span.workers → ⊥) → IsServedSoundly view history
served_soundly view span keys MayStop sessions sharing shares history are told still none = record {
  stepped = steps span keys shares history told still none;
  rightly = rightly_taken keys history.rows history.origin history.entries span.given.folder.after.log history.caused (steps span keys shares history told still none) history.placed;
  sessions = shares_served_out view MayStop sessions sharing 0 span.workers shares are;
}

-- ---- a vault that was only read

read_soundly : {C : Type 0} (view : C → LinkView) (span : Span C) (keys : KeyPair) (MayStop : WorkerSpan C → Type 0) (sessions sharing : ℕ) (shares : List (Share C)) (readings : HasReadings span keys shares)
    → AreShares view MayStop sessions sharing 0 span.workers shares → IsSome span.given.folder.before.log
    → (Rose span.given.folder.before.faults span.given.folder.after.faults → ⊥) → (SomeRandomFailed span.workers → ⊥) → IsReadSoundly view readings
read_soundly view span keys MayStop sessions sharing shares readings are told still none = record {
  stepped = readings_stepped readings.rows (tally_at readings.origin) readings.entries refl readings.caused
      (quiet_entries span readings.origin readings.entries readings.caused readings.since readings.up_to still none)
      (told_alone span.given.folder.before.log (AreViewed readings.rows readings.entries) told readings.viewed);
  sessions = shares_served_out view MayStop sessions sharing 0 span.workers shares are;
}

-- ---- a demonstration, whose own folder tells

pub held_soundly : {C : Type 0} (span : Span C) (text : List ℕ) (is : IsDemonstration span text) → IsHeldSoundly span text is
held_soundly span text is = λ steady.
    let sessions = is.held.sessions.served in
    let clients = is.demonstration.clients in
    served_soundly own_views.link (held_span span text is) sessions.vault.keys Never clients clients sessions.shares sessions.history sessions.are refl steady.folder steady.random

-- ---- a run

pub has_served_soundly : {D N C E K : Type 0} (views : Views D N C E K) (span : Span C) (ending : Ending) (reason : HasReason views span ending) → IsSome span.given.folder.before.log → IsFaultless span
    → (SomeRandomFailed span.workers → ⊥) → HasServedSoundly views span ending reason
has_served_soundly views span (refused cause) reason told faultless random = tt
has_served_soundly views span (help_said topic) reason told faultless random = tt
has_served_soundly views span version_said reason told faultless random = tt
has_served_soundly views span made reason told faultless random = tt
has_served_soundly views span no_memory_to_serve reason told faultless random = tt
has_served_soundly views span (served ends) reason told faultless random =
    let is = reason.0 in
    served_soundly views.link span is.sessions.vault.keys Never (sessions_of is.serving) (sharers is.serving (length span.workers)) is.sessions.shares is.sessions.history is.sessions.are told faultless.folder random
has_served_soundly views span (listener_fault ends) reason told faultless random = tt
has_served_soundly views span (closing_fault ends) reason told faultless random = tt
has_served_soundly views span (no_memory_to_report ends) reason told faultless random =
    let is = reason.0 in
    served_soundly views.link span is.sessions.vault.keys ListenerFailed (sessions_of is.serving) (sharers is.serving (length span.workers)) is.sessions.shares is.sessions.history is.sessions.are told faultless.folder random
has_served_soundly views span (only_read (whole ends)) reason told faultless random =
    read_soundly views.link span reason.sessions.vault.keys Never (sessions_of reason.serving) (sharers reason.serving (length span.workers)) reason.sessions.shares reason.sessions.readings reason.sessions.are told faultless.folder random
has_served_soundly views span (only_read (a_listener_failed ends)) reason told faultless random = tt
has_served_soundly views span (only_read (not_reported ends)) reason told faultless random =
    read_soundly views.link span reason.sessions.vault.keys ListenerFailed (sessions_of reason.serving) (sharers reason.serving (length span.workers)) reason.sessions.shares reason.sessions.readings reason.sessions.are told faultless.folder random
has_served_soundly views span (only_read not_shared) reason told faultless random = tt
has_served_soundly views span (demonstrated text) reason told faultless random = held_soundly span text reason
