-- The prefixes of a moment, from what a history stands for.
use Rattle.std.proofs.Common.{◌≡◌, ℕ, zero, suc, ◌+◌, ◌-◌, ◌≤◌, ◌<◌, List, [], ◌∷◌, length, Bool, true, false, cond, nat_le, Option, Some, None, refl, sym, subst, inl, inr, arith}
use Rattle.std.proofs.lemmas.Bool.Decides.{leb_tells}
use Rattle.outside.specs.Disk.{Disk}
use Rattle.outside.specs.Images.{Log, now, moment}
use Rattle.deeds.specs.Deeds.{PlainDeed}
use Rattle.deeds.specs.Repeatable.{IsRepeatable}
use Rattle.chunk_journal.specs.Journal.{IsReopenable, AnyMoment, HasCommitted, RecoversTo}
use Rattle.tree_model.specs.Rows.{Rows}
use Rattle.tree_model.specs.History.{Entry}
use Rattle.crash_laws.specs.Crash.{DiskShows, IsBlind, HoldsEnded, HaveEnded, IsCrash}
use Rattle.crash_laws.specs.Stands.{WasSafe, IsRunning, IsInState}
use Rattle.crash_laws.specs.Prefix.{low_at, ended_at, IsCrashPrefix, StopsRecover, RecoversWhole, BeginningRecovers, IsWhole}
use Rattle.crash_laws.proofs.Images.{rest_recovers, rest_reopens}
use Rattle.crash_laws.proofs.Moves.{running_safe, settles, settles_broken, shows_all}

by_le : {C : Type 0} (a b : ℕ) → (nat_le a b ≡ true → a ≤ b → C) → (nat_le a b ≡ false → b < a → C) → C
by_le a b yes_le no_le = elim (leb_tells a b) [ inl t ↦ yes_le t.0 t.1 | inr f ↦ no_le f.0 f.1 ]

low_below : (low : ℕ) (history : List Entry) (m k : ℕ) → low ≤ k → HoldsEnded history m k → low_at low history m ≤ k
low_below low [] m k le holds = le
low_below low (e ∷ history) m k le holds = by_le e.made.moment m
    (λ yes_le is. subst (λ (b : Bool). low_at (cond b e.made.stable low) history m ≤ k) (sym yes_le) (low_below e.made.stable history m k (holds zero e refl is) (λ i x at. holds (suc i) x at)))
    (λ no_le gt. subst (λ (b : Bool). low_at (cond b e.made.stable low) history m ≤ k) (sym no_le) (low_below low history m k le (λ i x at. holds (suc i) x at)))

ended_above : (history : List Entry) (m n : ℕ) → n ≤ length history → HaveEnded history m n → n ≤ ended_at history m
ended_above [] m n le ended = le
ended_above (e ∷ history) m zero le ended = omega arith
ended_above (e ∷ history) m (suc n) le ended = by_le e.made.moment m
    (λ yes_le is. subst (λ (b : Bool). suc n ≤ cond b 1 0 + ended_at history m) (sym yes_le) (omega (arith, ended_above history m n (omega arith) (λ i x at within. ended (suc i) x at (omega arith)))))
    (λ no_le gt. absurd (omega (arith, gt, ended zero e refl (omega arith))))

module _ (Shows : DiskShows) (rows : Rows) where
  prefix_of : (history : List Entry) (m : ℕ) (image : Disk) → IsCrash Shows rows history m image → IsCrashPrefix Shows rows history (low_at 0 history m) (suc (ended_at history m)) image
  prefix_of history m image is = record {
    k = is.k;
    least = low_below 0 history m is.k (omega arith) is.holds;
    most = elim is.shows [
      | inl a ↦ omega (arith, ended_above history m (is.k - 1) (omega (arith, is.within)) (λ i x at within. a.ended i x at (omega arith)))
      | inr f ↦ omega (arith, ended_above history m is.k is.within f.ended)
    ];
    within = is.within;
    reopenable = is.reopenable;
    disk = is.disk;
    recovers = is.recovers;
    shows = elim is.shows [ inl a ↦ inl a.shows | inr f ↦ inr (record { begun = omega (arith, ended_above history m is.k is.within f.ended); entry = f.entry; there = f.there; failed = f.failed; shows = f.shows }) ];
  }

  -- of no entries k is 0
  unentered : (m : ℕ) (image : Disk) → IsCrash Shows rows [] m image → RecoversWhole Shows rows [] image
  unentered m image is = record {
    reopenable = is.reopenable;
    disk = is.disk;
    recovers = is.recovers;
    shows = elim is.shows [ inl a ↦ a.shows | inr f ↦ absurd (let there : None ≡ Some f.entry = f.there in cc) ];
  }

  module _ (opened : ℕ) where
    -- a store that runs and stands for no entries recovers to the rows that its history begins with
    pub running_begins : (pending : List PlainDeed) (log : Log) → IsRunning Shows opened rows [] pending log → BeginningRecovers Shows opened (moment log) rows log
    running_begins pending log run m since before within image is = unentered m image (running_safe Shows opened rows [] pending log run m since (omega (arith, within)) image is)

    pub safe_stops : (history : List Entry) (log : Log) → WasSafe Shows opened rows history log (suc (moment log)) → StopsRecover Shows opened rows history log
    safe_stops history log safe m since before image is = prefix_of history m image (safe m since (omega arith) image is)

    pub state_stops : (history : List Entry) (pending : List PlainDeed) (log : Log) (stopped : Option ℕ) → IsInState Shows opened rows history pending log stopped → StopsRecover Shows opened rows history log
    state_stops history pending log None run = safe_stops history log (running_safe Shows opened rows history pending log run)
    state_stops history pending log (Some f) broken = safe_stops history log broken.past

    -- ---- closing

    pub closes_broken : IsBlind Shows → (history : List Entry) (pending : List PlainDeed) (old new : Log) → IsRepeatable pending → IsRunning Shows opened rows history pending old → AnyMoment pending old new
        → StopsRecover Shows opened rows history new
    closes_broken blind history pending old new repeatable is any = safe_stops history new (settles_broken Shows opened rows blind history pending old new repeatable is any).past

    pub closes_whole : IsBlind Shows → (history : List Entry) (pending : List PlainDeed) (old new : Log) → IsRepeatable pending → IsRunning Shows opened rows history pending old → AnyMoment pending old new
        → HasCommitted pending old new → IsWhole Shows rows history new
    closes_whole blind history pending old new repeatable is any committed =
        let settled = settles Shows opened rows blind history pending old new repeatable is any committed in
        let shows = shows_all Shows opened rows history new settled in
        record {
          shows = shows;
          images = λ image here. record {
            reopenable = subst IsReopenable (sym (settled.at_rest.steady.durable image here)) (rest_reopens new settled.at_rest);
            disk = now new;
            recovers = subst (λ (c : Disk). RecoversTo c (now new)) (sym (settled.at_rest.steady.durable image here)) (rest_recovers new settled.at_rest);
            shows = shows;
          };
        }
