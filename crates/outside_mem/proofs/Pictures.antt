-- What a picture has is what a stop may leave, and it is one disk.
use Rattle.std.proofs.Common.{◌≡◌, ◌≢◌, ◌⊎◌, ◌==◌, Bool, true, false, true≢false, ℕ, suc, ◌+◌, ◌-◌, ◌≤◌, ◌<◌, List, [], ◌∷◌, ◌++◌, min, length, take, get_or, replicate, refl, sym, ap, subst, ◌∙◌, inl, inr, arith}
use Rattle.std.proofs.lemmas.Bool.Decides.{Decides-eqb}
use Rattle.std.specs.List.{AllByRecursion}
use Rattle.std.proofs.Math.Seq.{take-length}
use Rattle.std.proofs.lemmas.List.{length-replicate, take_min}
use Rattle.outside.specs.Disk.{Disk, IsTree}
use Rattle.outside.specs.Changes.{Change, MakeDir, Put, Write, SetLen, Move, RemoveFile, RemoveDir, CanDo, IsPartOf, done}
use Rattle.outside.specs.Images.{Call, Did, Broke, Synced, Log, disk_after, now, MayLeave, IsSound}
use Rattle.outside.proofs.Trees.{tree_done}
use Rattle.outside.proofs.Steady.{whole_part, sound_tree}
use Rattle.outside_mem.specs.Held.{Holding}
use Rattle.outside_mem.specs.Kept.{own_bytes, with_bytes, filled, change_of, call_of, all_calls, disk_by, IsStopped}
use Rattle.outside_mem.specs.Pictures.{changes_since, synced_disk, IsTried, AreTried, ArePictures}
use Rattle.outside_mem.specs.Choices.{left_of, left_of_call, leaves_at, chosen}
use Rattle.outside_mem.specs.declared.change.MemCall.{MemCall}
use Rattle.outside_mem.specs.declared.change.MemCall.TheVariants as kinds
use Rattle.outside_mem.specs.declared.images.Leaves.{Leaves}
use Rattle.outside_mem.specs.declared.images.Leaves.TheVariants.{Nothing, All, Filled}
use Rattle.outside_mem.specs.declared.images.Choice.{Choice}
use Rattle.outside_mem.proofs.Logs.{part_with, up_to_more}

-- ---- a change that is tried

can_without : (change : Change) (others : List ℕ) (d : Disk) → CanDo (with_bytes change others) d → CanDo change d
can_without (MakeDir p) others d can = can
can_without (Put p bytes) others d can = can
can_without (Write p at bytes) others d can = can
can_without (SetLen p n) others d can = can
can_without (Move from to) others d can = can
can_without (RemoveFile p) others d can = can
can_without (RemoveDir p) others d can = can

-- what it leaves is a part of it
part_whole : (change : Change) (d e : Disk) → IsTried change d e → IsPartOf change d e
part_whole change d e (inl made) = subst (IsPartOf change d) (sym made.1) (whole_part change d made.0)
part_whole change d e (inr left) = inl left.1

few : (n x : ℕ) → length (replicate n x) ≤ n
few n x = let e : length (replicate n x) ≡ n = length-replicate n x in omega (arith, e)

part_filled : (change : Change) (d e : Disk) → IsTried (filled change) d e → IsPartOf change d e
part_filled change d e (inl made) =
    let fills = replicate (length (own_bytes change)) 165 in
    subst (IsPartOf change d) (sym made.1) (part_with change fills d (few (length (own_bytes change)) 165) (can_without change fills d made.0))
part_filled change d e (inr left) = inl left.1

-- and a tree stays one
tree_tried : (change : Change) (d e : Disk) → IsTree d → IsTried change d e → IsTree e
tree_tried change d e tree (inl made) = subst IsTree (sym made.1) (tree_done change d tree made.0)
tree_tried change d e tree (inr left) = subst IsTree (sym left.1) tree

-- what is left of a change is a part of it
left_part : (leaves : Leaves) (change : Change) (d e : Disk) → IsTree d → AreTried (left_of leaves change) d e → IsPartOf change d e × IsTree e
left_part Nothing change d e tree h = (inl h, subst IsTree (sym h) tree)
left_part All change d e tree h =
    let tried = subst (λ (before : Disk). IsTried change before e) h.1 h.2 in
    (part_whole change d e tried, tree_tried change d e tree tried)
left_part Filled change d e tree h =
    let tried = subst (λ (before : Disk). IsTried (filled change) before e) h.1 h.2 in
    (part_filled change d e tried, tree_tried (filled change) d e tree tried)

-- ---- changes that are tried one after another

pub join_tried : (newer older : List Change) (old mid new : Disk) → AreTried older old mid → AreTried newer mid new → AreTried (newer ++ older) old new
join_tried [] older old mid new first last = subst (AreTried older old) (sym last) first
join_tried (change ∷ newer) older old mid new first last = (last.0, join_tried newer older old mid last.0 first last.1, last.2)

split_tried : (newer older : List Change) (old new : Disk) → AreTried (newer ++ older) old new → (mid : Disk) × AreTried older old mid × AreTried newer mid new
split_tried [] older old new h = (new, h, refl)
split_tried (change ∷ newer) older old new h =
    let parts = split_tried newer older old h.0 h.1 in
    (parts.0, parts.1, (h.0, parts.2, h.2))

-- ---- a picture is what a stop may leave

-- after one change more
image_more : (choice : Choice) (start : Disk) (change : Change) (older : List Call) (d : Disk)
    → ((before : Disk) → AreTried (chosen choice (changes_since older)) (synced_disk start older) before → MayLeave start older before × IsTree before)
    → AreTried (chosen choice (change ∷ changes_since older)) (synced_disk start older) d
    → ((before : Disk) × MayLeave start older before × IsPartOf change before d × IsTree d) × IsTree d
image_more choice start change older d leaves h =
    let of_it = left_of (leaves_at choice (length (changes_since older))) change in
    let parts = split_tried of_it (chosen choice (changes_since older)) (synced_disk start older) d h in
    let before = leaves parts.0 parts.1 in
    let part = left_part (leaves_at choice (length (changes_since older))) change parts.0 d before.1 parts.2 in
    ((parts.0, before.0, part.0, part.1), part.1)

pub picture_image : (choice : Choice) (start : Disk) (calls : List Call) (d : Disk) → IsSound start calls → AreTried (chosen choice (changes_since calls)) (synced_disk start calls) d → MayLeave start calls d × IsTree d
picture_image choice start [] d sound h = (h, subst IsTree (sym h) sound)
picture_image choice start (Did change ∷ older) d sound h = image_more choice start change older d (λ before. picture_image choice start older before sound.0) h
picture_image choice start (Broke change left ∷ older) d sound h = image_more choice start change older d (λ before. picture_image choice start older before sound.0) h
picture_image choice start (Synced ∷ older) d sound h = (h, subst IsTree (sym h) (sound_tree start older sound))

-- ---- the picture of all is what reads give now, if no call broke off

all_made : (change : Change) (older before d : Disk) → before ≡ older → CanDo change older → IsTried change before d → d ≡ done change older
all_made change older before d same can (inl made) = made.1 ∙ ap (done change) same
all_made change older before d same can (inr left) = absurd (left.0 (subst (λ (e : Disk). CanDo change e) (sym same) can))

-- ---- a picture that is made call by call

-- if there was no call since the sync, it is the disk of the sync
begun_picture : (choice : Choice) (start : Disk) (calls : List Call) (d : Disk) → length (changes_since calls) ≡ 0 → d ≡ disk_after start calls → AreTried (chosen choice (changes_since calls)) (synced_disk start calls) d
begun_picture choice start [] d none is = is
begun_picture choice start (Did change ∷ older) d none is = absurd (omega (arith, none))
begun_picture choice start (Broke change left ∷ older) d none is = absurd (omega (arith, none))
begun_picture choice start (Synced ∷ older) d none is = is

-- the calls up to each one since the sync, and up to the n-th, have as many changes as there are since
abbrev pub CountsTo : Disk → List MemCall → ℕ → ℕ → Type 0
CountsTo start calls synced n = (k : ℕ) → synced ≤ k → k ≤ n → length (changes_since (all_calls start (take k calls))) + synced ≡ k

abbrev pub IsPicture : Choice → Disk → List Call → Disk → Type 0
IsPicture choice start calls d = AreTried (chosen choice (changes_since calls)) (synced_disk start calls) d

pub picture_begun : (choice : Choice) (start : Disk) (calls : List MemCall) (synced : ℕ) (d : Disk) → synced ≤ length calls → CountsTo start calls synced (length calls) → d ≡ disk_by start (take synced calls) → IsPicture choice start (all_calls start (take synced calls)) d
picture_begun choice start calls synced d within counts is =
    begun_picture choice start (all_calls start (take synced calls)) d (let e = counts synced (omega arith) within in omega (arith, e)) is

left_more : (choice : Choice) (start : Disk) (change : Change) (older : List Call) (age : ℕ) (d e : Disk) → length (changes_since older) ≡ age
    → IsPicture choice start older d → AreTried (left_of (leaves_at choice age) change) d e → AreTried (chosen choice (change ∷ changes_since older)) (synced_disk start older) e
left_more choice start change older age d e count before left =
    join_tried (left_of (leaves_at choice (length (changes_since older))) change) (chosen choice (changes_since older)) (synced_disk start older) d e before
    (subst (λ (n : ℕ). AreTried (left_of (leaves_at choice n) change) d e) (sym count) left)

call_more : (choice : Choice) (start before : Disk) (call : MemCall) (older : List Call) (age : ℕ) (d e : Disk) → length (changes_since older) ≡ age → length (changes_since (call_of before call ∷ older)) ≡ suc age
    → IsPicture choice start older d → AreTried (left_of_call (leaves_at choice age) call) d e → IsPicture choice start (call_of before call ∷ older) e
call_more choice start before (kinds.Did change) older age d e count more picture left = left_more choice start (change_of change) older age d e count picture left
call_more choice start before (kinds.Broke change) older age d e count more picture left = left_more choice start (change_of change) older age d e count picture left
call_more choice start before kinds.Synced older age d e count more picture left = absurd (omega (arith, more))

-- with one call more
pub picture_more : (choice : Choice) (start : Disk) (calls : List MemCall) (n : ℕ) (call : MemCall) (synced : ℕ) (d e : Disk) → n < length calls → call ≡ get_or calls n call → synced ≤ n → CountsTo start calls synced (length calls)
    → IsPicture choice start (all_calls start (take n calls)) d → AreTried (left_of_call (leaves_at choice (n - synced)) call) d e → IsPicture choice start (all_calls start (take (n + 1) calls)) e
picture_more choice start calls n call synced d e within at since counts picture left =
    let is = up_to_more start calls n call within at in
    let before : length (changes_since (all_calls start (take n calls))) + synced ≡ n = counts n since (omega arith) in
    let after : length (changes_since (all_calls start (take (n + 1) calls))) + synced ≡ n + 1 = counts (n + 1) (omega arith) (omega arith) in
    let more : length (changes_since (call_of (disk_by start (take n calls)) call ∷ all_calls start (take n calls))) ≡ suc (n - synced) = ap (λ (l : List Call). length (changes_since l)) (sym is) ∙ omega (arith, after, since) in
    subst (λ (l : List Call). IsPicture choice start l e) (sym is)
    (call_more choice start (disk_by start (take n calls)) call (all_calls start (take n calls)) (n - synced) d e (omega (arith, before)) more picture left)

-- with them all
pub picture_whole : (choice : Choice) (log : Log) (calls : List MemCall) (n : ℕ) (d : Disk) → log.calls ≡ all_calls log.start calls → length calls ≤ n → IsPicture choice log.start (all_calls log.start (take n calls)) d → IsPicture choice log.start log.calls d
picture_whole choice log calls n d is all =
    let end : min n (length calls) ≡ length calls = omega (arith, all) in
    let whole : take n calls ≡ calls = sym (take_min n calls) ∙ ap (λ m. take m calls) end ∙ take-length calls in
    subst (λ (l : List Call). IsPicture choice log.start l d) (ap (all_calls log.start) whole ∙ sym is)

-- ---- the last sync

count_first : (before : Disk) (call : MemCall) (older : List Call) → (call ≡ kinds.Synced → ⊥) → length (changes_since (call_of before call ∷ older)) ≡ suc (length (changes_since older))
count_first before (kinds.Did change) older other = refl
count_first before (kinds.Broke change) older other = refl
count_first before kinds.Synced older other = absurd (other refl)

last_or_before : (k n : ℕ) → k ≤ n + 1 → (k ≤ n) ⊎ (k ≡ n + 1)
last_or_before k n le = at (k == n + 1) refl
  where
    at : (b : Bool) → k == n + 1 ≡ b → (k ≤ n) ⊎ (k ≡ n + 1)
    at true e = inr ((Decides-eqb k (n + 1)).0 e)
    at false e = let ne : k ≢ n + 1 = λ same. true≢false (sym ((Decides-eqb k (n + 1)).1 same) ∙ e) in inl (omega (arith, le, ne))

-- the counts go on at a call that is no sync
pub counts_more : (start : Disk) (calls : List MemCall) (n : ℕ) (call : MemCall) (synced : ℕ) → n < length calls → call ≡ get_or calls n call → (call ≡ kinds.Synced → ⊥) → synced ≤ n → CountsTo start calls synced n → CountsTo start calls synced (n + 1)
counts_more start calls n call synced within at other since counts k from to = elim (last_or_before k n to) [
  | inl earlier ↦ counts k from earlier
  | inr last ↦
      let before = counts n since (omega arith) in
      let more = ap (λ (l : List Call). length (changes_since l)) (up_to_more start calls n call within at) ∙ count_first (disk_by start (take n calls)) call (all_calls start (take n calls)) other in
      let here = ap (λ (m : ℕ). length (changes_since (all_calls start (take m calls)))) last in
      omega (arith, before, more, here, last)
]

-- and begin anew after one that is
pub counts_anew : (start : Disk) (calls : List MemCall) (n : ℕ) (call : MemCall) → n < length calls → call ≡ get_or calls n call → call ≡ kinds.Synced → CountsTo start calls (n + 1) (n + 1)
counts_anew start calls n call within at is k from to =
    let last : k ≡ n + 1 = omega (arith, from, to) in
    let none = ap (λ (l : List Call). length (changes_since l)) (up_to_more start calls n call within at ∙ ap (λ (c : MemCall). call_of (disk_by start (take n calls)) c ∷ all_calls start (take n calls)) is) in
    let here = ap (λ (m : ℕ). length (changes_since (all_calls start (take m calls)))) last in
    omega (arith, none, here, last)

-- the calls after it are as many as the changes since
pub count_since : (log : Log) (calls : List MemCall) (synced : ℕ) → log.calls ≡ all_calls log.start calls → synced ≤ length calls → CountsTo log.start calls synced (length calls) → length calls - synced ≡ length (changes_since log.calls)
count_since log calls synced is within counts =
    let all : length (changes_since (all_calls log.start (take (length calls) calls))) + synced ≡ length calls = counts (length calls) within (omega arith) in
    let same : length (changes_since (all_calls log.start (take (length calls) calls))) ≡ length (changes_since log.calls) =
    ap (λ (l : List Call). length (changes_since l)) (ap (all_calls log.start) (take-length calls) ∙ sym is) in
    omega (arith, all, same)

-- ---- folders and their pictures

pub stopped_more : (log : Log) (images : List Holding) (image : Holding) → AllByRecursion (IsStopped log) images → IsStopped log image → AllByRecursion (IsStopped log) (images ++ image ∷ [])
stopped_more log [] image all one = (one, tt)
stopped_more log (i ∷ images) image all one = (all.0, stopped_more log images image all.1 one)

pub pictures_more : (synced : Disk) (pictures : List (List Change)) (images : List Holding) (changes : List Change) (image : Holding) → ArePictures synced pictures images → AreTried changes synced (now image.log) → ArePictures synced (pictures ++ changes ∷ []) (images ++ image ∷ [])
pictures_more synced [] [] changes image all one = (one, tt)
pictures_more synced (p ∷ ps) (i ∷ is) changes image all one = (all.0, pictures_more synced ps is changes image all.1 one)
pictures_more synced [] (i ∷ is) changes image all one = absurd all
pictures_more synced (p ∷ ps) [] changes image all one = absurd all

pub pictures_count : (synced : Disk) (pictures : List (List Change)) (images : List Holding) → ArePictures synced pictures images → length images ≡ length pictures
pictures_count synced [] [] all = refl
pictures_count synced (p ∷ ps) (i ∷ is) all = ap suc (pictures_count synced ps is all.1)
pictures_count synced [] (i ∷ is) all = absurd all
pictures_count synced (p ∷ ps) [] all = absurd all
