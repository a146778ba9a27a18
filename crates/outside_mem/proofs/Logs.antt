-- Logs of the calls that a folder in memory keeps.
use Rattle.std.proofs.Common.{◌≡◌, ◌⊎◌, ℕ, ◌/◌, ◌≤◌, List, [], ◌∷◌, ◌++◌, length, take, Some, Result, Ok, Err, OnOk, OnErr, refl, ap, ◌∙◌, inl, inr, arith, length-take, sym, subst, ◌+◌, ◌<◌, drop, get_or, replicate, take-append-drop}
use Rattle.std.proofs.lemmas.Grind.{common_steps}
use Rattle.outside.specs.Disk.{Disk, file, node_at, IsTree}
use Rattle.outside.specs.Changes.{Change, MakeDir, Put, Write, SetLen, Move, RemoveFile, RemoveDir, CanDo, done, overwritten, in_file, bytes_or_none, IsPartOf, IsTornPut}
use Rattle.outside.specs.Images.{Call, Log, disk_after, now, adds, Did, Broke, IsSound, BreaksInto, HasBroken}
use Rattle.outside.proofs.Trees.{tree_done}
use Rattle.outside.proofs.Steady.{whole_part, written_torn, sound_image}
use Rattle.outside_mem.specs.Held.{Holding}
use Rattle.outside_mem.specs.Kept.{own_bytes, with_bytes, halved, call_of, calls_after, all_calls, disk_by, CanRepeat, left_by}
use Rattle.outside_mem.specs.declared.change.MemCall.{MemCall}
use Rattle.outside_mem.specs.declared.change.MemCall.TheVariants as calls

pushed : (start : Disk) (calls : List MemCall) (call : MemCall) (older : List Call) → calls_after start (calls ++ call ∷ []) older ≡ call_of (disk_after start (calls_after start calls older)) call ∷ calls_after start calls older
pushed start [] call older = refl
pushed start (c ∷ calls) call older = pushed start calls call (call_of (disk_after start older) c ∷ older)

-- a call that is kept after the others is the newest of the log
pub kept_more : (start : Disk) (calls more : List MemCall) (call : MemCall) → more ≡ calls ++ call ∷ [] → all_calls start more ≡ call_of (disk_by start calls) call ∷ all_calls start calls
kept_more start calls more call e = ap (all_calls start) e ∙ pushed start calls call []

-- ---- a change with fewer bytes

-- it can be done if the change can
pub can_with : (change : Change) (others : List ℕ) (d : Disk) → CanDo change d → CanDo (with_bytes change others) d
can_with (MakeDir p) others d can = can
can_with (Put p bytes) others d can = can
can_with (Write p at bytes) others d can = can
can_with (SetLen p n) others d can = can
can_with (Move from to) others d can = can
can_with (RemoveFile p) others d can = can
can_with (RemoveDir p) others d can = can

-- and leaves a part of it
pub part_with : (change : Change) (others : List ℕ) (d : Disk) → length others ≤ length (own_bytes change) → CanDo change d → IsPartOf change d (done (with_bytes change others) d)
part_with (MakeDir p) others d le can = whole_part (MakeDir p) d can
part_with (Put p bytes) others d le can = inr (inr (Some (file others), (others, refl, torn (bytes_or_none (node_at d p))), refl))
  where
    torn : (old : List ℕ) → IsTornPut (length bytes) old others
    torn old = omega (arith, le)
part_with (Write p at bytes) others d le can = inr (inr (
  in_file (λ old. overwritten old at others) (node_at d p),
  (can.0, overwritten can.0 at others, can.1, ap (in_file (λ old. overwritten old at others)) can.1, written_torn at (length bytes) can.0 others can.2 le),
  refl,
))
part_with (SetLen p n) others d le can = whole_part (SetLen p n) d can
part_with (Move from to) others d le can = whole_part (Move from to) d can
part_with (RemoveFile p) others d le can = whole_part (RemoveFile p) d can
part_with (RemoveDir p) others d le can = whole_part (RemoveDir p) d can

half_short : (xs : List ℕ) → length (take (length xs / 2) xs) ≤ length xs
half_short xs = omega (arith, length-take (length xs / 2) xs)

-- what half a change leaves if it breaks off
pub half_breaks : (change : Change) (d : Disk) → IsTree d → CanDo change d → BreaksInto change d (done (halved change) d)
half_breaks change d tree can = record {
  can = can;
  part = part_with change (take (length (own_bytes change) / 2) (own_bytes change)) d (half_short (own_bytes change)) can;
  tree = tree_done (halved change) d tree (can_with change (take (length (own_bytes change) / 2) (own_bytes change)) d can);
}

-- a change broke off, or memory was refused
pub broken_from : {T E : Type 0} (r : Result T E) (change : Change) (old new : Holding) → BreaksInto change (now old.log) (done (halved change) (now old.log)) → OnOk r (new ≡ record old { log = adds old.log (Broke change (done (halved change) (now old.log))) }) → OnErr r (new ≡ old) → HasBroken change old.log new.log
broken_from (Ok x) change old new breaks ok err = inr (done (halved change) (now old.log), breaks, ap (λ h. h.log) ok)
broken_from (Err e) change old new breaks ok err = inl (ap (λ h. h.log) err)

-- ---- calls that are made again

joined : (start : Disk) (xs ys : List MemCall) (older : List Call) → calls_after start (xs ++ ys) older ≡ calls_after start ys (calls_after start xs older)
joined start [] ys older = refl
joined start (x ∷ xs) ys older = joined start xs ys (call_of (disk_after start older) x ∷ older)

sound_before : (start : Disk) (call : MemCall) (older : List Call) → IsSound start (call_of (disk_after start older) call ∷ older) → IsSound start older
sound_before start (calls.Did change) older sound = sound.0
sound_before start (calls.Broke change) older sound = sound.0
sound_before start calls.Synced older sound = sound

sound_older : (start : Disk) (ys : List MemCall) (older : List Call) → IsSound start (calls_after start ys older) → IsSound start older
sound_older start [] older sound = sound
sound_older start (y ∷ ys) older sound = sound_before start y older (sound_older start ys (call_of (disk_after start older) y ∷ older) sound)

-- the calls up to one are as they can be if all are
pub sound_up_to : (start : Disk) (calls : List MemCall) (n : ℕ) → IsSound start (all_calls start calls) → IsSound start (all_calls start (take n calls))
sound_up_to start calls n sound =
    sound_older start (drop n calls) (all_calls start (take n calls))
    (subst (IsSound start) (ap (all_calls start) (sym (take-append-drop n calls)) ∙ joined start (take n calls) (drop n calls) []) sound)

can_first : (start : Disk) (call : MemCall) (older : List Call) → IsSound start (call_of (disk_after start older) call ∷ older) → CanRepeat (disk_after start older) call
can_first start (calls.Did change) older sound = sound.1
can_first start (calls.Broke change) older sound = sound.1.can
can_first start calls.Synced older sound = tt

leaves_first : (start : Disk) (call : MemCall) (older : List Call) → disk_after start (call_of (disk_after start older) call ∷ older) ≡ left_by call (disk_after start older)
leaves_first start (calls.Did change) older = refl
leaves_first start (calls.Broke change) older = refl
leaves_first start calls.Synced older = refl

-- the calls up to one and that one
pub up_to_more : (start : Disk) (calls : List MemCall) (n : ℕ) (call : MemCall) → n < length calls → call ≡ get_or calls n call → all_calls start (take (n + 1) calls) ≡ call_of (disk_by start (take n calls)) call ∷ all_calls start (take n calls)
up_to_more start calls n call within at = kept_more start (take n calls) (take (n + 1) calls) call (grind (arith, common_steps))

-- a call can be made again if it was made
pub can_again : (start : Disk) (calls : List MemCall) (n : ℕ) (call : MemCall) → n < length calls → call ≡ get_or calls n call → IsSound start (all_calls start calls) → CanRepeat (disk_by start (take n calls)) call
can_again start calls n call within at sound =
    can_first start call (all_calls start (take n calls)) (subst (IsSound start) (up_to_more start calls n call within at) (sound_up_to start calls (n + 1) sound))

-- and leaves what it left
pub left_again : (start : Disk) (calls : List MemCall) (n : ℕ) (call : MemCall) → n < length calls → call ≡ get_or calls n call → disk_by start (take (n + 1) calls) ≡ left_by call (disk_by start (take n calls))
left_again start calls n call within at = ap (disk_after start) (up_to_more start calls n call within at) ∙ leaves_first start call (all_calls start (take n calls))

-- the calls that a folder keeps are as they can be
pub sound_kept : (log : Log) (start : Disk) (calls : List MemCall) → log.start ≡ start → log.calls ≡ all_calls log.start calls → IsSound log.start log.calls → IsSound start (all_calls start calls)
sound_kept log start calls begun is sound = subst (λ (s : Disk). IsSound s (all_calls s calls)) begun (subst (IsSound log.start) is sound)
