-- The moves of a store: an entry that changes no disk, the commit of what is pending, and the commit of one entry's own deeds.
use Rattle.std.proofs.Common.{◌≡◌, ⊎_elim, ℕ, suc, ◌≤◌, ◌<◌, List, [], ◌∷◌, ◌++◌, length, true, Option, Some, refl, sym, subst, inl, inr, arith}
use Rattle.std.proofs.lemmas.Bool.{cases_lt}
use Rattle.outside.specs.Disk.{Disk}
use Rattle.outside.specs.Images.{Log, now, moment}
use Rattle.outside.proofs.Moments.{moment_later}
use Rattle.deeds.specs.Deeds.{PlainDeed, DoesAll, in_order}
use Rattle.deeds.specs.Repeatable.{IsRepeatable}
use Rattle.chunk_journal.specs.Journal.{IsBeforeOrAfter, IsReopenable, AnyMoment, HasCommitted, RecoversTo}
use Rattle.chunk_journal.proofs.Tidy.{tidy_goes}
use Rattle.tree_model.specs.Rows.{Rows}
use Rattle.tree_model.specs.History.{Entry, Origin, entry_at, rows_at, rows_then, tally_at, tally_of}
use Rattle.crash_laws.specs.Crash.{DiskShows, IsBlind, HoldsEnded, HaveEnded, IsCrash, rows_stepped}
use Rattle.crash_laws.specs.Stands.{WasSafe, IsRunning, IsBroken, IsInState}
use Rattle.crash_laws.specs.Opening.{IsClearTree}
use Rattle.crash_laws.proofs.Histories.{at_more, at_last, at_within, rows_more, rows_last, rows_end, longer, tally_stable, tally_moment}
use Rattle.crash_laws.proofs.Images.{at_now, rest_recovers, rest_reopens}
use Rattle.crash_laws.proofs.Trees.{quiet_clear, alike_tree, clear_after}
use Rattle.crash_laws.proofs.Safe.{crash_more, safe_goes, safe_shorter, safe_more, safe_more_now}

ended_later : (history : List Entry) (old new : ℕ) → old ≤ new → HaveEnded history old (length history) → HaveEnded history new (length history)
ended_later history old new le ended i x at n = omega (arith, le, ended i x at n)

ended_more : (history : List Entry) (e : Entry) (m : ℕ) → e.made.moment ≤ m → HaveEnded history m (length history) → HaveEnded (history ++ e ∷ []) m (length (history ++ e ∷ []))
ended_more history e m le ended i x at n =
    at_more history e i x at (λ old. ended i x old (at_within history i x old)) (λ last same. subst (λ (y : Entry). y.made.moment ≤ m) same le)

-- no entry's moment is past
pub ended_moment : (origin : Origin) (history : List Entry) (m : ℕ) → origin.moment ≤ m → HaveEnded history m (length history) → (tally_of origin history).moment ≤ m
ended_moment origin history m le ended = tally_moment (tally_at origin) history m le (λ i x at. ended i x at (at_within history i x at))

-- calls that change nothing
pub lives_on : (Shows : DiskShows) (opened : ℕ) (rows : Rows) (history : List Entry) (pending : List PlainDeed) (old new : Log) (stopped : Option ℕ) → new ≡ old
    → IsInState Shows opened rows history pending old stopped → IsInState Shows opened rows history pending new stopped
lives_on Shows opened rows history pending old new stopped same is = subst (λ (l : Log). IsInState Shows opened rows history pending l stopped) (sym same) is

module _ (Shows : DiskShows) (opened : ℕ) (rows : Rows) where
  -- ---- what a store that runs has of this moment

  -- all that is stable is among the entries that are on the disk
  pub all_held : (history : List Entry) (pending : List PlainDeed) (log : Log) (is : IsRunning Shows opened rows history pending log) (i : ℕ) (x : Entry) → entry_at history i ≡ Some x → x.made.stable ≤ is.base
  all_held history pending log is i x at = is.holds i x at (is.ended i x at (at_within history i x at))

  pub running_stable : (origin : Origin) (history : List Entry) (pending : List PlainDeed) (log : Log) (is : IsRunning Shows opened rows history pending log) → (tally_of origin history).stable ≤ is.base
  running_stable origin history pending log is = tally_stable (tally_at origin) history is.base (omega arith) (λ i x at. all_held history pending log is i x at)

  -- a disk that has the first k entries, if all have ended
  pub crash_at : (history : List Entry) (m k : ℕ) (image disk : Disk) → HaveEnded history m (length history) → k ≤ length history
      → ((i : ℕ) (x : Entry) → entry_at history i ≡ Some x → x.made.stable ≤ k) → IsReopenable image → RecoversTo image disk → Shows disk (rows_at rows history k) → IsCrash Shows rows history m image
  crash_at history m k image disk ended within held reopenable recovers shows = record {
    k = k;
    within = within;
    holds = λ i x at done. held i x at;
    reopenable = reopenable;
    disk = disk;
    recovers = recovers;
    shows = inl (record { ended = λ i x at le. ended i x at (at_within history i x at); shows = shows });
  }

  -- this moment is safe too
  pub running_safe : (history : List Entry) (pending : List PlainDeed) (log : Log) → IsRunning Shows opened rows history pending log → WasSafe Shows opened rows history log (suc (moment log))
  running_safe history pending log is m since before image here = ⊎_elim
      (λ (early : m < moment log). is.past m since early image here)
      (λ (late : moment log ≤ m).
      let same : m ≡ moment log = omega arith in
      let at : image ≡ now log = is.at_rest.steady.durable image (at_now log m image same here) in
      subst (λ (c : Disk). IsCrash Shows rows history m c) (sym at)
      (crash_at history m is.base (now log) (now log) (λ i x there le. omega (arith, same, is.ended i x there le)) is.within (all_held history pending log is) (rest_reopens log is.at_rest) (rest_recovers log is.at_rest) is.shows))
      (cases_lt m (moment log))

  -- ---- an entry that changes no disk

  -- it stays on top of what is pending
  pub idles : (history : List Entry) (pending pending' : List PlainDeed) (log : Log) (e : Entry) (is : IsRunning Shows opened rows history pending log)
      → e.made.moment ≡ moment log → e.made.stable ≤ is.base
      → (after' : Disk) → DoesAll (in_order pending') (now log) after' → Shows after' (rows_then (rows_at rows history (length history)) e.made)
      → IsRunning Shows opened rows (history ++ e ∷ []) pending' log
  idles history pending pending' log e is at stable after' does shows = record {
    since = is.since;
    tidy = is.tidy;
    past = safe_more Shows rows opened history log e (moment log) (omega (arith, at)) is.past;
    ended = ended_more history e (moment log) (omega (arith, at)) is.ended;
    at_rest = is.at_rest;
    base = is.base;
    within = omega (arith, longer history e, is.within);
    holds = λ i x there done. at_more history e i x there (λ old. is.holds i x old done) (λ last same. subst (λ (y : Entry). y.made.stable ≤ is.base) same stable);
    shows = subst (λ (r : Rows). Shows (now log) r) (sym (rows_more rows history e is.base is.within)) is.shows;
    after = after';
    does = does;
    shows_after = subst (λ (r : Rows). Shows after' r) (sym (rows_end rows history e)) shows;
  }

  -- nothing is pending: the disk has all entries
  pub shows_all : (history : List Entry) (log : Log) → IsRunning Shows opened rows history [] log → Shows (now log) (rows_at rows history (length history))
  shows_all history log is = subst (λ (d : Disk). Shows d (rows_at rows history (length history))) is.does is.shows_after

  -- and it is as good as on the disk if nothing is pending
  pub idles_kept : (history : List Entry) (log : Log) (e : Entry) → IsRunning Shows opened rows history [] log
      → e.made.moment ≡ moment log → e.made.stable ≤ suc (length history) → Shows (now log) (rows_then (rows_at rows history (length history)) e.made)
      → IsRunning Shows opened rows (history ++ e ∷ []) [] log
  idles_kept history log e is at stable after =
      let shows : Shows (now log) (rows_at rows (history ++ e ∷ []) (length (history ++ e ∷ []))) = subst (λ (r : Rows). Shows (now log) r) (sym (rows_end rows history e)) after in
      record {
        since = is.since;
        tidy = is.tidy;
        past = safe_more Shows rows opened history log e (moment log) (omega (arith, at)) is.past;
        ended = ended_more history e (moment log) (omega (arith, at)) is.ended;
        at_rest = is.at_rest;
        base = length (history ++ e ∷ []);
        within = omega arith;
        holds = λ i x there done. at_more history e i x there
            (λ old. omega (arith, is.holds i x old (is.ended i x old (at_within history i x old)), is.within, longer history e))
            (λ last eq. subst (λ (y : Entry). y.made.stable ≤ length (history ++ e ∷ [])) eq (omega (arith, stable, longer history e)));
        shows = shows;
        after = now log;
        does = refl;
        shows_after = shows;
      }

  -- ---- after a commit that failed

  pub stays_broken : (origin : Origin) (history : List Entry) (log : Log) (e : Entry) → IsBroken Shows opened rows history log → e.made.moment ≡ moment log → e.made.stable ≡ (tally_of origin history).stable
      → IsBroken Shows opened rows (history ++ e ∷ []) log
  stays_broken origin history log e is at stable = record {
    since = is.since;
    tidy = is.tidy;
    past = safe_more_now Shows rows opened history log e at
        (λ k holds. omega (arith, stable, tally_stable (tally_at origin) history k (omega arith) (λ i x there. holds i x there (is.ended i x there (at_within history i x there))))) is.past;
    ended = ended_more history e (moment log) (omega (arith, at)) is.ended;
  }

  module _ (blind : IsBlind Shows) where
    -- ---- the commit of what is pending

    settle_each : (history : List Entry) (pending : List PlainDeed) (old : Log) → IsRepeatable pending → (is : IsRunning Shows opened rows history pending old) (m : ℕ) → moment old ≤ m → (image : Disk)
        → IsBeforeOrAfter (now old) is.after image → IsCrash Shows rows history m image
    settle_each history pending old repeatable is m late image (disk, recovers, which, reopenable) =
        let ended = ended_later history (moment old) m late is.ended in
        let clear : IsClearTree (now old) = quiet_clear old is.at_rest in
        elim which [
          | inl before ↦ crash_at history m is.base image disk ended is.within (all_held history pending old is) reopenable recovers
              (blind (now old) disk (rows_at rows history is.base) is.shows (alike_tree (now old) disk clear before) before)
          | inr done ↦ crash_at history m (length history) image disk ended (omega arith) (λ i x at. omega (arith, all_held history pending old is i x at, is.within)) reopenable recovers
              (blind is.after disk (rows_at rows history (length history)) is.shows_after (alike_tree is.after disk (clear_after pending (now old) is.after repeatable clear is.does) done) done)
        ]

    pub settles_broken : (history : List Entry) (pending : List PlainDeed) (old new : Log) → IsRepeatable pending → IsRunning Shows opened rows history pending old → AnyMoment pending old new → IsBroken Shows opened rows history new
    settles_broken history pending old new repeatable is any =
        let all = any.recovers is.after is.does in
        let later = moment_later old new (IsBeforeOrAfter (now old) is.after) all in
        record {
          since = omega (arith, is.since, later);
          tidy = tidy_goes opened old new is.tidy any.tidy;
          past = safe_goes Shows rows opened history old new (suc (moment new)) (IsBeforeOrAfter (now old) is.after) all (omega arith) is.past (λ m late before. settle_each history pending old repeatable is m late);
          ended = ended_later history (moment old) (moment new) later is.ended;
        }

    pub settles : (history : List Entry) (pending : List PlainDeed) (old new : Log) → IsRepeatable pending → IsRunning Shows opened rows history pending old → AnyMoment pending old new → HasCommitted pending old new
        → IsRunning Shows opened rows history [] new
    settles history pending old new repeatable is any committed =
        let broken = settles_broken history pending old new repeatable is any in
        let shows : Shows (now new) (rows_at rows history (length history)) =
        blind is.after (now new) (rows_at rows history (length history)) is.shows_after committed.at_rest.steady.tree (committed.after is.after is.does) in
        record {
          since = broken.since;
          tidy = broken.tidy;
          past = safe_shorter Shows rows opened history new (moment new) broken.past;
          ended = broken.ended;
          at_rest = committed.at_rest;
          base = length history;
          within = omega arith;
          holds = λ i x at done. omega (arith, all_held history pending old is i x at, is.within);
          shows = shows;
          after = now new;
          does = refl;
          shows_after = shows;
        }

    -- ---- the commit of an entry's own deeds, with nothing pending

    -- while it is in its turn, before its end
    commit_each : (history : List Entry) (old : Log) (e : Entry) (end : Disk) (is : IsRunning Shows opened rows history [] old) → IsClearTree end
        → Shows end (rows_then (rows_at rows history (length history)) e.made) → (m : ℕ) → moment old ≤ m → m < e.made.moment → (image : Disk) → IsBeforeOrAfter (now old) end image
        → IsCrash Shows rows (history ++ e ∷ []) m image
    commit_each history old e end is clear_end shows m late early image (disk, recovers, which, reopenable) =
        let ended = ended_later history (moment old) m late is.ended in
        elim which [
          | inl before ↦ crash_more Shows rows history m image e (λ done k holds. absurd (omega (arith, early, done)))
              (crash_at history m (length history) image disk ended (omega arith) (λ i x at. omega (arith, all_held history [] old is i x at, is.within)) reopenable recovers
              (blind (now old) disk (rows_at rows history (length history)) (shows_all history old is) (alike_tree (now old) disk (quiet_clear old is.at_rest) before) before))
          | inr done ↦ record {
            k = suc (length history);
            within = omega (arith, longer history e);
            holds = λ i x at over. at_more history e i x at (λ before. omega (arith, all_held history [] old is i x before, is.within))
                (λ last same. absurd (omega (arith, early, subst (λ (y : Entry). y.made.moment ≤ m) (sym same) over)));
            reopenable = reopenable;
            disk = disk;
            recovers = recovers;
            shows = inl (record {
              ended = λ i x at le. at_more history e i x at (λ before. ended i x before (at_within history i x before)) (λ last same. absurd (omega (arith, last, le)));
              shows = blind end disk (rows_at rows (history ++ e ∷ []) (suc (length history))) (subst (λ (r : Rows). Shows end r) (sym (rows_last rows history e)) shows) (alike_tree end disk clear_end done) done;
            });
          }
        ]

    pub commits : (history : List Entry) (deeds : List PlainDeed) (old new : Log) (e : Entry) (end : Disk) → IsRepeatable deeds → IsRunning Shows opened rows history [] old → DoesAll (in_order deeds) (now old) end
        → Shows end (rows_then (rows_at rows history (length history)) e.made) → e.made.moment ≡ moment new → e.made.stable ≤ suc (length history) → AnyMoment deeds old new → HasCommitted deeds old new
        → IsRunning Shows opened rows (history ++ e ∷ []) [] new
    commits history deeds old new e end repeatable is does shows at stable any committed =
        let all = any.recovers end does in
        let later = moment_later old new (IsBeforeOrAfter (now old) end) all in
        let clear_end : IsClearTree end = clear_after deeds (now old) end repeatable (quiet_clear old is.at_rest) does in
        let on_disk : Shows (now new) (rows_at rows (history ++ e ∷ []) (length (history ++ e ∷ []))) =
        blind end (now new) (rows_at rows (history ++ e ∷ []) (length (history ++ e ∷ []))) (subst (λ (r : Rows). Shows end r) (sym (rows_end rows history e)) shows) committed.at_rest.steady.tree (committed.after end does) in
        record {
          since = omega (arith, is.since, later);
          tidy = tidy_goes opened old new is.tidy any.tidy;
          past = safe_goes Shows rows opened (history ++ e ∷ []) old new (moment new) (IsBeforeOrAfter (now old) end) all (omega arith)
              (safe_more Shows rows opened history old e (moment old) (omega (arith, at, later)) is.past)
              (λ m late before. commit_each history old e end is clear_end shows m late (omega (arith, at, before)));
          ended = ended_more history e (moment new) (omega (arith, at)) (ended_later history (moment old) (moment new) later is.ended);
          at_rest = committed.at_rest;
          base = length (history ++ e ∷ []);
          within = omega arith;
          holds = λ i x there done. at_more history e i x there
              (λ before. omega (arith, all_held history [] old is i x before, is.within, longer history e))
              (λ last same. subst (λ (y : Entry). y.made.stable ≤ length (history ++ e ∷ [])) same (omega (arith, stable, longer history e)));
          shows = on_disk;
          after = now new;
          does = refl;
          shows_after = on_disk;
        }

    -- the commit failed: an image may have its one change, or not
    flag_each : (history : List Entry) (old : Log) (e : Entry) (end : Disk) (is : IsRunning Shows opened rows history [] old) → IsClearTree end → e.made.commit_failed ≡ true → e.made.stable ≤ length history
        → Shows end (rows_stepped (rows_at rows history (length history)) e.made) → (m : ℕ) → moment old ≤ m → (image : Disk) → IsBeforeOrAfter (now old) end image → IsCrash Shows rows (history ++ e ∷ []) m image
    flag_each history old e end is clear_end failed stable shows m late image (disk, recovers, which, reopenable) =
        let ended = ended_later history (moment old) m late is.ended in
        let holds : HoldsEnded (history ++ e ∷ []) m (length history) = λ i x at over. at_more history e i x at (λ before. omega (arith, all_held history [] old is i x before, is.within))
        (λ last same. subst (λ (y : Entry). y.made.stable ≤ length history) same stable) in
        record {
          k = length history;
          within = omega (arith, longer history e);
          holds = holds;
          reopenable = reopenable;
          disk = disk;
          recovers = recovers;
          shows = elim which [
            | inl before ↦ inl (record {
              ended = λ i x at le. at_more history e i x at (λ before. ended i x before (at_within history i x before)) (λ last same. absurd (omega (arith, last, le)));
              shows = blind (now old) disk (rows_at rows (history ++ e ∷ []) (length history))
                  (subst (λ (r : Rows). Shows (now old) r) (sym (rows_more rows history e (length history) (omega arith))) (shows_all history old is)) (alike_tree (now old) disk (quiet_clear old is.at_rest) before) before;
            })
            | inr done ↦ inr (record {
              ended = λ i x at le. at_more history e i x at (λ before. ended i x before (at_within history i x before)) (λ last same. absurd (omega (arith, last, le)));
              entry = e;
              there = at_last history e;
              failed = failed;
              shows = blind end disk (rows_stepped (rows_at rows (history ++ e ∷ []) (length history)) e.made)
                  (subst (λ (r : Rows). Shows end (rows_stepped r e.made)) (sym (rows_more rows history e (length history) (omega arith))) shows) (alike_tree end disk clear_end done) done;
            })
          ];
        }

    pub breaks : (history : List Entry) (deeds : List PlainDeed) (old new : Log) (e : Entry) (end : Disk) → IsRepeatable deeds → IsRunning Shows opened rows history [] old → DoesAll (in_order deeds) (now old) end
        → Shows end (rows_stepped (rows_at rows history (length history)) e.made) → e.made.moment ≡ moment new → e.made.commit_failed ≡ true → e.made.stable ≤ length history → AnyMoment deeds old new
        → IsBroken Shows opened rows (history ++ e ∷ []) new
    breaks history deeds old new e end repeatable is does shows at failed stable any =
        let all = any.recovers end does in
        let later = moment_later old new (IsBeforeOrAfter (now old) end) all in
        let clear_end : IsClearTree end = clear_after deeds (now old) end repeatable (quiet_clear old is.at_rest) does in
        record {
          since = omega (arith, is.since, later);
          tidy = tidy_goes opened old new is.tidy any.tidy;
          past = safe_goes Shows rows opened (history ++ e ∷ []) old new (suc (moment new)) (IsBeforeOrAfter (now old) end) all (omega arith)
              (safe_more Shows rows opened history old e (moment old) (omega (arith, at, later)) is.past)
              (λ m late before. flag_each history old e end is clear_end failed stable shows m late);
          ended = ended_more history e (moment new) (omega (arith, at)) (ended_later history (moment old) (moment new) later is.ended);
        }
