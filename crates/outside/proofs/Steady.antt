-- One change of a folder, all of which is on the disk, and the sync after it.
use Rattle.std.proofs.Common.{◌≡◌, ℕ, ◌+◌, ◌-◌, ◌≤◌, List, [], ◌∷◌, ◌++◌, length, take, drop, Some, None, refl, sym, ap, subst, ◌∙◌, inl, inr, arith, append_assoc, length-append, length-take, length-drop}
use Rattle.std.proofs.lemmas.List.{take_at, drop_at, drop-drop}
use Rattle.outside.specs.Disk.{Disk, folder, file, node_at, IsTree}
use Rattle.outside.specs.Changes.{Change, MakeDir, Put, Write, SetLen, Move, RemoveFile, RemoveDir, CanDo, IsPartOf, IsTorn, IsTornPut, IsCut, done, overwritten, in_file, bytes_or_none}
use Rattle.outside.specs.Images.{Call, Did, Broke, Synced, Log, disk_after, MayLeave, IsSound, now, IsImage, adds, LeavesOnly, HasDone, HasBroken, IsSteady, HasKept}
use Rattle.outside.proofs.Moments.{started, goes_to}
use Rattle.outside.proofs.Trees.{tree_done}

-- before the change nothing of it is there
pub begun : (old : Log) (change : Change) → IsSteady old → LeavesOnly old old (IsPartOf change (now old))
begun old change steady = started old (IsPartOf change (now old)) (λ c image. inl (steady.durable c image))

-- a done change from a steady folder leaves parts of it alone
pub part_did : (old new : Log) (change : Change) → IsSteady old → HasDone change old new → LeavesOnly old new (IsPartOf change (now old))
part_did old new change steady did = goes_to old old new (Did change) (IsPartOf change (now old)) (begun old change steady) did.1 (λ c image.
    let i = subst (λ (l : Log). IsImage l c) did.1 image in
    subst (λ (d : Disk). IsPartOf change d c) (steady.durable i.0 i.1) i.2)

-- and so does one that failed
pub part_broke : (old new : Log) (change : Change) → IsSteady old → HasBroken change old new → LeavesOnly old new (IsPartOf change (now old))
part_broke old new change steady (inl same) = subst (λ (l : Log). LeavesOnly old l (IsPartOf change (now old))) (sym same) (begun old change steady)
part_broke old new change steady (inr broke) = goes_to old old new (Broke change broke.0) (IsPartOf change (now old)) (begun old change steady) broke.2 (λ c image.
    let i = subst (λ (l : Log). IsImage l c) broke.2 image in
    subst (λ (d : Disk). IsPartOf change d c) (steady.durable i.0 i.1) i.2)

-- the done change is a part of itself: handed in, since it is by cases
pub part_synced : (old mid new : Log) (change : Change) → IsSteady old → HasDone change old mid → new ≡ adds mid Synced → IsPartOf change (now old) (done change (now old)) → LeavesOnly old new (IsPartOf change (now old))
part_synced old mid new change steady did synced whole = goes_to old mid new Synced (IsPartOf change (now old)) (part_did old mid change steady did) synced (λ c image.
    let i = subst (λ (l : Log). IsImage l c) synced image in
    subst (IsPartOf change (now old)) (sym (i ∙ ap now did.1)) whole)

-- a change and its sync have kept it
pub kept : (old mid new : Log) (change : Change) → IsSteady old → HasDone change old mid → new ≡ adds mid Synced → HasKept change old new
kept old mid new change steady did synced =
    let is = ap now synced ∙ ap now did.1 in
    record {
      can = did.0;
      is = is;
      steady = record {
        durable = λ c image. subst (λ (l : Log). IsImage l c) synced image ∙ ap now did.1 ∙ sym is;
        tree = subst IsTree (sym is) (tree_done change (now old) steady.tree did.0);
      };
    }

-- ---- a change that was done is a part of itself

-- bytes that were written, no more of them than n, are a part of a write of n bytes
pub written_torn : (at n : ℕ) (old bytes : List ℕ) → at ≤ length old → length bytes ≤ n → IsTorn at n old (overwritten old at bytes)
written_torn at n old bytes le few =
    let front : length (take at old) ≡ at = omega (arith, length-take at old) in
    let rest = drop (at + length bytes) old in
    let behind : at + length bytes + (n - length bytes) ≡ at + n = omega (arith, few) in
    let ahead : length (take at old ++ bytes) ≡ at + length bytes = omega (arith, front, length-append (take at old) bytes) in
    let long : length (overwritten old at bytes) ≡ at + (length bytes + (length old - (at + length bytes))) = omega (arith, ahead, length-append (take at old ++ bytes) rest, length-drop (at + length bytes) old) in
    record {
      before = ap (λ (l : List ℕ). take at l) (append_assoc (take at old) bytes rest) ∙ take_at (take at old) (bytes ++ rest) at front;
      after =
          ap (λ (j : ℕ). drop j (overwritten old at bytes)) (sym behind)
          ∙ sym (drop-drop (n - length bytes) (at + length bytes) (overwritten old at bytes))
          ∙ ap (λ (l : List ℕ). drop (n - length bytes) l) (drop_at (take at old ++ bytes) rest (at + length bytes) ahead)
          ∙ drop-drop (n - length bytes) (at + length bytes) old
          ∙ ap (λ (j : ℕ). drop j old) behind;
      no_shorter = omega (arith, long);
      no_longer = omega (arith, long);
    }

cut_torn : (n : ℕ) (old : List ℕ) → n ≤ length old → IsCut n old (take n old)
cut_torn n old le = record {
  no_shorter = omega (arith, length-take n old);
  front = let e : length (take n old) ≡ n = omega (arith, length-take n old) in ap (λ (k : ℕ). take k old) (sym e);
}

whole_put : (bytes old : List ℕ) → IsTornPut (length bytes) old bytes
whole_put bytes old = omega arith

-- a change that was done is a part of itself
pub whole_part : (change : Change) (d : Disk) → CanDo change d → IsPartOf change d (done change d)
whole_part (MakeDir p) d can = inr (inr (Some folder, refl, refl))
whole_part (Put p bytes) d can = inr (inr (Some (file bytes), (bytes, refl, whole_put bytes (bytes_or_none (node_at d p))), refl))
whole_part (Write p at bytes) d can = inr (inr (
  in_file (λ old. overwritten old at bytes) (node_at d p),
  (can.0, overwritten can.0 at bytes, can.1, ap (in_file (λ old. overwritten old at bytes)) can.1, written_torn at (length bytes) can.0 bytes can.2 (omega arith)),
  refl,
))
whole_part (SetLen p n) d can = inr (inr (
  in_file (take n) (node_at d p),
  (can.0, take n can.0, can.1, ap (in_file (take n)) can.1, cut_torn n can.0 can.2),
  refl,
))
whole_part (Move from to) d can = inr (inl (can.there, can.free, refl))
whole_part (RemoveFile p) d can = inr (inr (None, refl, refl))
whole_part (RemoveDir p) d can = inr (inr (None, refl, refl))

-- ---- logs that are sound

-- what reads give is a tree
pub sound_tree : (start : Disk) (calls : List Call) → IsSound start calls → IsTree (disk_after start calls)
sound_tree start [] sound = sound
sound_tree start (Did change ∷ older) sound = tree_done change (disk_after start older) (sound_tree start older sound.0) sound.1
sound_tree start (Broke change left ∷ older) sound = sound.1.tree
sound_tree start (Synced ∷ older) sound = sound_tree start older sound

-- and an image
pub sound_image : (start : Disk) (calls : List Call) → IsSound start calls → MayLeave start calls (disk_after start calls)
sound_image start [] sound = refl
sound_image start (Did change ∷ older) sound =
    let before = disk_after start older in
    (before, sound_image start older sound.0, whole_part change before sound.1, tree_done change before (sound_tree start older sound.0) sound.1)
sound_image start (Broke change left ∷ older) sound = (disk_after start older, sound_image start older sound.0, sound.1.part, sound.1.tree)
sound_image start (Synced ∷ older) sound = refl

-- after a sync all is on the disk, and there is no image that wasn't one before
pub settled : (old new : Log) → IsSound old.start old.calls → new ≡ adds old Synced → (IsSteady new × (now new ≡ now old)) × LeavesOnly old new (IsImage old)
settled old new sound is = (
  (
    record {
      durable = λ c image. subst (λ (l : Log). IsImage l c) is image ∙ sym (ap now is);
      tree = subst IsTree (sym (ap now is)) (sound_tree old.start old.calls sound);
    },
    ap now is,
  ),
  goes_to old old new Synced (IsImage old) (started old (IsImage old) (λ c image. image)) is (λ c image.
      let i = subst (λ (l : Log). IsImage l c) is image in
      subst (IsImage old) (sym i) (sound_image old.start old.calls sound)),
)
