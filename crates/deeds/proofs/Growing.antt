-- A folder's log that goes on: by no call, by one that was done, that broke or that synced, and by several; and at which paths.
use Rattle.std.proofs.Common.{◌≡◌, ◌⊎◌, ⊎_elim, List, [], ◌∷◌, ◌++◌, Contains, Option, refl, sym, ap, subst, ◌∙◌, inl, inr, arith, append_assoc}
use Rattle.std.proofs.lemmas.List.{append-nil}
use Rattle.std.proofs.lemmas.List.Elements.{Contains-append_cases, Contains-append_left, Contains-append_right}
use Rattle.outside.specs.Calls.{Changes}
use Rattle.outside.specs.Changes.{Change, CanDo}
use Rattle.outside.specs.Disk.{Disk, Path}
use Rattle.outside.specs.Images.{Call, Did, Broke, Synced, Log, adds, disk_after, IsSteady, HasDone, HasBroken, BreaksInto}
use Rattle.outside.proofs.Told.{unchanged, changed_by, through}
use Rattle.deeds.specs.Deeds.{AreSound, LogGoesOn, GoesOnAt}
use Rattle.outside.specs.Unsynced.{IsSynced, changes_in, paths_of, touched, unsynced}

-- the log that goes on, by the calls since
pub since_is : (old new : Log) (goes : LogGoesOn old new) → new ≡ record { start = old.start; calls = goes.later.0 ++ old.calls }
since_is old new goes = λ i. record { start = goes.start i; calls = goes.later.1 i }

-- ---- what goes on

pub goes_nowhere : (log : Log) → LogGoesOn log log
goes_nowhere log = record { start = refl; later = ([], refl); sound = tt }

sound_on : (start : Disk) (older first second : List Call) → AreSound start older first → AreSound start (first ++ older) second → AreSound start older (second ++ first)
sound_on start older first [] a b = a
sound_on start older first (Did change ∷ second) a b =
    (sound_on start older first second a b.0, subst (λ (l : List Call). CanDo change (disk_after start l)) (sym (append_assoc second first older)) b.1)
sound_on start older first (Broke change left ∷ second) a b =
    (sound_on start older first second a b.0, subst (λ (l : List Call). BreaksInto change (disk_after start l) left) (sym (append_assoc second first older)) b.1)
sound_on start older first (Synced ∷ second) a b = sound_on start older first second a b

pub goes_on_on : (a b c : Log) → LogGoesOn a b → LogGoesOn b c → LogGoesOn a c
goes_on_on a b c first second = record {
  start = second.start ∙ first.start;
  later = (
    second.later.0 ++ first.later.0,
    second.later.1 ∙ ap (λ (l : List Call). second.later.0 ++ l) first.later.1 ∙ sym (append_assoc second.later.0 first.later.0 a.calls),
  );
  sound = sound_on a.start a.calls first.later.0 second.later.0 first.sound (subst (λ (l : Log). AreSound l.start l.calls second.later.0) (since_is a b first) second.sound);
}

goes_by_one : (call : Call) (old new : Log) → AreSound old.start old.calls (call ∷ []) → new ≡ adds old call → LogGoesOn old new
goes_by_one call old new sound is = subst (LogGoesOn old) (sym is) (record { start = refl; later = (call ∷ [], refl); sound = sound })

pub did_goes_on : (change : Change) (old new : Log) → HasDone change old new → LogGoesOn old new
did_goes_on change old new did = goes_by_one (Did change) old new (tt, did.0) did.1

pub broke_goes_on : (change : Change) (old new : Log) → HasBroken change old new → LogGoesOn old new
broke_goes_on change old new (inl same) = subst (LogGoesOn old) (sym same) (goes_nowhere old)
broke_goes_on change old new (inr broke) = goes_by_one (Broke change broke.0) old new (tt, broke.1) broke.2

pub synced_goes_on : (old new : Log) → new ≡ adds old Synced → LogGoesOn old new
synced_goes_on old new is = goes_by_one Synced old new tt is

-- ---- at these paths alone

-- nothing was changed
none_touched : (paths : List Path) (path : Path) → Contains (touched (changes_in [])) path → Contains paths path
none_touched paths path there = absurd (omega (arith, there.1))

pub at_nowhere : (paths : List Path) (log : Log) → GoesOnAt paths log log
unfolding goes_nowhere
at_nowhere paths log = record { goes = goes_nowhere log; only = none_touched paths }

-- among more paths
pub at_more : (some paths : List Path) (old new : Log) → ((path : Path) → Contains some path → Contains paths path) → GoesOnAt some old new → GoesOnAt paths old new
at_more some paths old new more at = record { goes = at.goes; only = λ path there. more path (at.only path there) }

-- a change more names its own paths more
either_touched : (change : Change) (second first : List Call) (path : Path)
    → (Contains (touched (changes_in (second ++ first))) path → Contains (touched (changes_in second)) path ⊎ Contains (touched (changes_in first)) path)
    → Contains (paths_of change ++ touched (changes_in (second ++ first))) path → Contains (paths_of change ++ touched (changes_in second)) path ⊎ Contains (touched (changes_in first)) path
either_touched change second first path rest there = ⊎_elim
    (λ own. inl (Contains-append_left (paths_of change) (touched (changes_in second)) path own))
    (λ others. ⊎_elim (λ later. inl (Contains-append_right (paths_of change) (touched (changes_in second)) path later)) (λ earlier. inr earlier) (rest others))
    (Contains-append_cases (paths_of change) (touched (changes_in (second ++ first))) path there)

-- a change names its own paths alone
one_touched : (change : Change) (path : Path) → Contains (paths_of change ++ []) path → Contains (paths_of change) path
one_touched change path there = subst (λ (paths : List Path). Contains paths path) (append-nil (paths_of change)) there

-- what later calls and earlier ones name
touched_cases : (second first : List Call) (path : Path) → Contains (touched (changes_in (second ++ first))) path → Contains (touched (changes_in second)) path ⊎ Contains (touched (changes_in first)) path
touched_cases [] first path there = inr there
touched_cases (Did change ∷ second) first path there = either_touched change second first path (touched_cases second first path) there
touched_cases (Broke change left ∷ second) first path there = either_touched change second first path (touched_cases second first path) there
touched_cases (Synced ∷ second) first path there = touched_cases second first path there

pub at_then : (paths : List Path) (a b c : Log) → GoesOnAt paths a b → GoesOnAt paths b c → GoesOnAt paths a c
unfolding goes_on_on
at_then paths a b c first second = record {
  goes = goes_on_on a b c first.goes second.goes;
  only = λ path there. ⊎_elim (second.only path) (first.only path) (touched_cases second.goes.later.0 first.goes.later.0 path there);
}

at_by_one : (paths : List Path) (call : Call) (old new : Log) → AreSound old.start old.calls (call ∷ []) → ((path : Path) → Contains (touched (changes_in (call ∷ []))) path → Contains paths path) → new ≡ adds old call → GoesOnAt paths old new
at_by_one paths call old new sound only is = subst (GoesOnAt paths old) (sym is) (record { goes = record { start = refl; later = (call ∷ [], refl); sound = sound }; only = only })

pub at_did : (change : Change) (old new : Log) → HasDone change old new → GoesOnAt (paths_of change) old new
at_did change old new did = at_by_one (paths_of change) (Did change) old new (tt, did.0) (one_touched change) did.1

pub at_broke : (change : Change) (old new : Log) → HasBroken change old new → GoesOnAt (paths_of change) old new
at_broke change old new (inl same) = subst (GoesOnAt (paths_of change) old) (sym same) (at_nowhere (paths_of change) old)
at_broke change old new (inr broke) = at_by_one (paths_of change) (Broke change broke.0) old new (tt, broke.1) (one_touched change) broke.2

pub at_synced : (paths : List Path) (old new : Log) → new ≡ adds old Synced → GoesOnAt paths old new
at_synced paths old new is = at_by_one paths Synced old new tt (none_touched paths) is

-- ---- the same if it is told

pub still_grown : (paths : List Path) (a b : Option Log) → b ≡ a → Changes a b (GoesOnAt paths)
still_grown paths a b same = unchanged a b (GoesOnAt paths) same (at_nowhere paths)

pub did_grown : (change : Change) (a b : Option Log) → Changes a b (HasDone change) → Changes a b (GoesOnAt (paths_of change))
did_grown change a b did = changed_by a b (HasDone change) (GoesOnAt (paths_of change)) (at_did change) did

pub broke_grown : (change : Change) (a b : Option Log) → Changes a b (HasBroken change) → Changes a b (GoesOnAt (paths_of change))
broke_grown change a b broke = changed_by a b (HasBroken change) (GoesOnAt (paths_of change)) (at_broke change) broke

pub synced_grown : (paths : List Path) (a b : Option Log) → Changes a b (λ old new. new ≡ adds old Synced) → Changes a b (GoesOnAt paths)
synced_grown paths a b synced = changed_by a b (λ old new. new ≡ adds old Synced) (GoesOnAt paths) (at_synced paths) synced

pub grown_at : (paths : List Path) (a b c : Option Log) → Changes a b (GoesOnAt paths) → Changes b c (GoesOnAt paths) → Changes a c (GoesOnAt paths)
grown_at paths a b c first second = through a b c (GoesOnAt paths) (GoesOnAt paths) (GoesOnAt paths) (at_then paths) first second

pub grown_more : (some paths : List Path) (a b : Option Log) → ((path : Path) → Contains some path → Contains paths path) → Changes a b (GoesOnAt some) → Changes a b (GoesOnAt paths)
grown_more some paths a b more grown = changed_by a b (GoesOnAt some) (GoesOnAt paths) (λ old new at. at_more some paths old new more at) grown

pub grown_on : (a b c : Option Log) → Changes a b LogGoesOn → Changes b c LogGoesOn → Changes a c LogGoesOn
grown_on a b c first second = through a b c LogGoesOn LogGoesOn LogGoesOn goes_on_on first second

-- at whatever paths
pub goes_told : (paths : List Path) (a b : Option Log) → Changes a b (GoesOnAt paths) → Changes a b LogGoesOn
goes_told paths a b grown = changed_by a b (GoesOnAt paths) LogGoesOn (λ old new at. at.goes) grown

-- ---- logs that are synced

pub steady_of : (log : Log) → IsSynced log → IsSteady log
steady_of log synced = record { durable = synced.durable; tree = synced.tree }

pub synced_of : (mid new : Log) → IsSteady new → new ≡ adds mid Synced → IsSynced new
synced_of mid new steady is = record { durable = steady.durable; tree = steady.tree; none = ap (λ (l : Log). unsynced l.calls) is }
