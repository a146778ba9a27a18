-- What a change answers, by what the host's call did and the diary got.
use Rattle.std.proofs.Common.{◌≡◌, ◌⊎◌, ◌≤◌, ℕ, Bool, true, false, List, [], ◌∷◌, ◌++◌, length, take, Option, Some, None, IsSome, Result, Ok, Err, OnOk, OnErr, IsErrOf, Contains, refl, sym, ap, subst, ◌∙◌, inl, inr, arith, length-take}
use Rattle.outside.specs.declared.folder.FolderErr.{FolderErr}
use Rattle.outside.specs.declared.folder.FolderErr.TheVariants.{Failed, Unfit, Memory}
use Rattle.outside.specs.Calls.{Changes}
use Rattle.outside.specs.Disk.{Path, Node, folder as folder_node, file, node_at, parent}
use Rattle.outside.specs.Changes.{Change, MakeDir, Put, Write, SetLen, Move, RemoveFile, RemoveDir, CanDo, done, set_at, in_file, overwritten, IsFree}
use Rattle.outside.specs.Images.{Log, Did, Broke}
use Rattle.host_calls.specs.declared.found.Inode.{Inode}
use Rattle.host_calls.specs.Volume.{Folder, File, entry_at}
use Rattle.host_calls.specs.Names.{MadeFolder, Moved, Dropped, HasFolder, HasFile, CanMake, CanMoveTo, IsEmptyFolder}
use Rattle.host_calls.specs.Bytes.{FileStep, Wrote, Cut, bytes_after, MayHold, AreWithin}
use Rattle.host_calls.specs.Story.{Story, names_now, volume_now, disk_now, bytes_now, takes, writes, creates, notes}
use Rattle.host_calls.specs.Calls.{HasTaken, MayHaveTaken, HasCreated, MayHaveCreated, IsLongFile, HasWritten, MayHaveWritten, MayHaveCut, written, noted_break}
use Rattle.host_calls.proofs.Volumes.{folder_in, file_in, none_in, folder_from, file_from, none_from}
use Rattle.host_calls.proofs.Written.{left_of_put, left_of_front, left_of_write, left_of_cut, put_bytes, write_within}
use Rattle.host_calls.proofs.Parts.{IsHeldBy, IsBytesAt}
use Rattle.host_calls.proofs.Now.{folder_now, moved_now, dropped_now}
use Rattle.host_folder.specs.Held.{IsHeld}
use Rattle.host_folder.specs.Answers.{IsAnswer, IsNoted}
use Rattle.host_folder.proofs.Keeping.{IsWent, held_tree, held_did, held_broke, breaks, same_at, went_nowhere, went_made_folder, went_created, created_disk, went_written, written_disk, went_moved, went_removed_file, went_removed_dir}

-- ---- what the host's call did, by its answer

abbrev pub Took : {T : Type 0} → Result T FolderErr → (Story → Story → Type 0) → (Story → Story → Type 0) → (Story → Story → Type 0) → Story → Story → Type 0
Took (Ok x) Whole No Part old new = Whole old new
Took (Err Unfit) Whole No Part old new = No old new
Took (Err Failed) Whole No Part old new = Part old new
Took (Err Memory) Whole No Part old new = ⊥

pub took : {T : Type 0} (r : Result T FolderErr) (a b : Option Story) (Whole No Part : Story → Story → Type 0) → OnOk r (Changes a b Whole) → (IsErrOf r Unfit → Changes a b No) → OnErr r (Changes a b Part)
    → (IsErrOf r Memory → ⊥) → Changes a b (Took r Whole No Part)
took (Ok x) a b Whole No Part whole unfit part never = whole
took (Err Unfit) a b Whole No Part whole unfit part never = unfit refl
took (Err Failed) a b Whole No Part whole unfit part never = part
took (Err Memory) a b Whole No Part whole unfit part never = absurd (never refl)

-- ---- one change

-- a story, and what a change answers of it
pub record IsDone {T : Type 0} (change : Change) (r : Result T FolderErr) (touched moved : List Path) (failed : Bool) (old new : Story) : Type 0 where
  pub held : IsHeld new touched moved failed
  pub answer : IsAnswer change r old new

did_answer : {T : Type 0} (x : T) (change : Change) (old new last : Story) (touched before moved : List Path) (failed : Bool) → IsHeld old touched before failed → IsWent change old new touched moved failed
    → disk_now new ≡ done change (disk_now old) → last ≡ notes (Did change) new → IsDone change (Ok x) touched moved failed old last
did_answer x change old new last touched before moved failed held went is noted = subst (λ (story : Story). IsDone change (Ok x) touched moved failed old story) (sym noted) (record {
  held = held_did change old new touched before moved failed held went is;
  answer = (subst (CanDo change) held.shows went.can, ap (λ (log : Log). record { start = log.start; calls = Did change ∷ log.calls }) went.diary);
})

broke_answer : {T : Type 0} (change : Change) (old new last : Story) (touched before moved : List Path) (failed : Bool) → IsHeld old touched before failed → IsWent change old new touched moved failed
    → last ≡ notes (Broke change (disk_now new)) new → IsDone {T = T} change (Err Failed) touched moved failed old last
broke_answer {T = T} change old new last touched before moved failed held went noted = subst (λ (story : Story). IsDone {T = T} change (Err Failed) touched moved failed old story) (sym noted) (record {
  held = held_broke change old new touched before moved failed held went;
  answer = inr (disk_now new, breaks change old new touched before moved failed held went, ap (λ (log : Log). record { start = log.start; calls = Broke change (disk_now new) ∷ log.calls }) went.diary);
})

-- nothing was done of it
same_answer : {T : Type 0} (change : Change) (old new last : Story) (touched moved : List Path) (failed : Bool) → IsHeld old touched moved failed → new ≡ old → last ≡ noted_break change new.unnoted new
    → IsDone {T = T} change (Err Failed) touched moved failed old last
same_answer {T = T} change old new last touched moved failed held same noted =
    let is : last ≡ old = noted ∙ ap (λ (story : Story). noted_break change story.unnoted story) same ∙ ap (λ (b : Bool). noted_break change b old) held.noted in
    subst (λ (story : Story). IsDone {T = T} change (Err Failed) touched moved failed old story) (sym is) (record { held = held; answer = inl refl })

-- it doesn't fit
unfit_answer : {T : Type 0} (change : Change) (old new last : Story) (touched moved : List Path) (failed : Bool) → IsHeld old touched moved failed → new ≡ old → last ≡ new → ¬ CanDo change (disk_now old)
    → IsDone {T = T} change (Err Unfit) touched moved failed old last
unfit_answer {T = T} change old new last touched moved failed held same noted unfit =
    subst (λ (story : Story). IsDone {T = T} change (Err Unfit) touched moved failed old story) (sym (noted ∙ same))
    (record { held = held; answer = (refl, λ can. unfit (subst (CanDo change) (sym held.shows) can)) })

-- ---- a folder that is made where nothing is

can_make : (p : Path) (story : Story) → entry_at (names_now story) p ≡ None → CanDo (MakeDir p) (disk_now story) → CanMake (names_now story) p
can_make p story free can = record { inside = folder_from (volume_now story) (parent p) can.inside; free = free }

pub dir_made : {T : Type 0} (p : Path) (r : Result T FolderErr) (old new last : Story) (touched moved : List Path) (failed : Bool) → IsHeld old touched moved failed → entry_at (names_now old) p ≡ None → Contains touched (parent p)
    → Took r (HasTaken (MadeFolder p)) (λ s t. (t ≡ s) × ¬ CanMake (names_now s) p) (MayHaveTaken (MadeFolder p)) old new → IsNoted (MakeDir p) r new last → IsDone (MakeDir p) r touched moved failed old last
dir_made p (Ok x) old new last touched moved failed held free above took noted =
    did_answer x (MakeDir p) old (takes (MadeFolder p) old) last touched moved moved failed held (went_made_folder p old touched moved failed held took.fits above) (folder_now p old)
    (noted ∙ ap (notes (Did (MakeDir p))) took.is)
dir_made p (Err Unfit) old new last touched moved failed held free above took noted =
    unfit_answer (MakeDir p) old new last touched moved failed held took.0 noted (λ can. took.1 (can_make p old free can))
dir_made p (Err Failed) old new last touched moved failed held free above (inl same) noted = same_answer (MakeDir p) old new last touched moved failed held same noted
dir_made p (Err Failed) old new last touched moved failed held free above (inr taken) noted =
    broke_answer (MakeDir p) old (takes (MadeFolder p) old) last touched moved moved failed held (went_made_folder p old touched moved failed held taken.fits above)
    (noted ∙ ap (λ (story : Story). noted_break (MakeDir p) story.unnoted story) taken.is)
dir_made p (Err Memory) old new last touched moved failed held free above took noted = absurd took

-- ---- a file that is put where nothing is

can_make_file : (p : Path) (bytes : List ℕ) (story : Story) → entry_at (names_now story) p ≡ None → CanDo (Put p bytes) (disk_now story) → CanMake (names_now story) p
can_make_file p bytes story free can = record { inside = folder_from (volume_now story) (parent p) can.inside; free = free }

few : (n : ℕ) (bytes : List ℕ) → length (take n bytes) ≤ length bytes
few n bytes = omega (arith, length-take n bytes)

pub file_made : {T : Type 0} (p : Path) (bytes : List ℕ) (r : Result T FolderErr) (old new last : Story) (touched moved : List Path) (failed : Bool) → IsHeld old touched moved failed → entry_at (names_now old) p ≡ None
    → Contains touched p → Contains touched (parent p)
    → Took r (HasCreated p bytes) (λ s t. (t ≡ s) × ¬ CanMake (names_now s) p) (MayHaveCreated p bytes) old new → IsNoted (Put p bytes) r new last → IsDone (Put p bytes) r touched moved failed old last
file_made p bytes (Ok x) old new last touched moved failed held free here above took noted =
    did_answer x (Put p bytes) old (creates p took.inode (Wrote 0 bytes ∷ []) old) last touched moved moved failed held
    (went_created p took.inode bytes bytes old touched moved failed held took.fits took.fresh (omega arith) here above) (created_disk p took.inode bytes old took.fresh)
    (noted ∙ ap (notes (Did (Put p bytes))) took.is)
file_made p bytes (Err Unfit) old new last touched moved failed held free here above took noted =
    unfit_answer (Put p bytes) old new last touched moved failed held took.0 noted (λ can. took.1 (can_make_file p bytes old free can))
file_made p bytes (Err Failed) old new last touched moved failed held free here above (inl same) noted = same_answer (Put p bytes) old new last touched moved failed held same noted
file_made p bytes (Err Failed) old new last touched moved failed held free here above (inr (n, made)) noted =
    broke_answer (Put p bytes) old (creates p made.inode (Wrote 0 (take n bytes) ∷ []) old) last touched moved moved failed held
    (went_created p made.inode bytes (take n bytes) old touched moved failed held made.fits made.fresh (few n bytes) here above)
    (noted ∙ ap (λ (story : Story). noted_break (Put p bytes) story.unnoted story) made.is)
file_made p bytes (Err Memory) old new last touched moved failed held free here above took noted = absurd took

-- ---- a file's bytes

-- what a change of a file's bytes needs
pub record IsWriting (change : Change) (p : Path) (inode : Inode) (touched moved : List Path) (failed : Bool) (story : Story) : Type 0 where
  pub held : IsHeld story touched moved failed
  pub there : entry_at (names_now story) p ≡ Some (File inode)
  pub unmoved : ¬ Contains moved p
  pub here : Contains touched p
  pub bytes_at : IsBytesAt change p
  pub can : CanDo change (disk_now story)

went_by : (change : Change) (p : Path) (inode : Inode) (steps : List FileStep) (touched moved : List Path) (failed : Bool) (story : Story) → IsWriting change p inode touched moved failed story
    → AreWithin (bytes_now story inode) steps → ((before held : List ℕ) → MayHold before steps held → IsHeldBy change before held) → IsWent change story (writes inode steps story) touched moved failed
went_by change p inode steps touched moved failed story w within by = went_written change p inode steps story touched moved failed w.held w.there w.unmoved w.here w.bytes_at w.can within by

broke_by : {T : Type 0} (change : Change) (p : Path) (inode : Inode) (steps : List FileStep) (touched moved : List Path) (failed : Bool) (old new last : Story) → IsWriting change p inode touched moved failed old
    → AreWithin (bytes_now old inode) steps → ((before held : List ℕ) → MayHold before steps held → IsHeldBy change before held) → new ≡ writes inode steps old → last ≡ noted_break change new.unnoted new
    → IsDone {T = T} change (Err Failed) touched moved failed old last
broke_by change p inode steps touched moved failed old new last w within by is noted =
    broke_answer change old (writes inode steps old) last touched moved moved failed w.held (went_by change p inode steps touched moved failed old w within by)
    (noted ∙ ap (λ (story : Story). noted_break change story.unnoted story) is)

did_by : {T : Type 0} (x : T) (change : Change) (p : Path) (inode : Inode) (steps : List FileStep) (touched moved : List Path) (failed : Bool) (old new last : Story) → IsWriting change p inode touched moved failed old
    → AreWithin (bytes_now old inode) steps → ((before held : List ℕ) → MayHold before steps held → IsHeldBy change before held)
    → set_at (disk_now old) p (Some (file (bytes_after (bytes_now old inode) steps))) ≡ done change (disk_now old) → new ≡ writes inode steps old → last ≡ notes (Did change) new
    → IsDone change (Ok x) touched moved failed old last
did_by x change p inode steps touched moved failed old new last w within by disk is noted =
    did_answer x change old (writes inode steps old) last touched moved moved failed w.held (went_by change p inode steps touched moved failed old w within by)
    (written_disk p inode steps old touched moved failed w.held w.there ∙ disk) (noted ∙ ap (notes (Did change)) is)

-- bytes put in place of a file's own
pub file_put : {T : Type 0} (p : Path) (inode : Inode) (bytes : List ℕ) (r : Result T FolderErr) (old new last : Story) (touched moved : List Path) (failed : Bool) → IsWriting (Put p bytes) p inode touched moved failed old
    → Took r (HasWritten p inode 0 (written 0 bytes true)) (λ s t. (t ≡ s) × ¬ IsLongFile p inode 0 s) (MayHaveWritten p inode 0 bytes true) old new → IsNoted (Put p bytes) r new last
    → IsDone (Put p bytes) r touched moved failed old last
file_put p inode bytes (Ok x) old new last touched moved failed w took noted =
    did_by x (Put p bytes) p inode (written 0 bytes true) touched moved failed old new last w (write_within 0 bytes (bytes_now old inode) true (omega arith)) (left_of_put bytes)
    (ap (λ (l : List ℕ). set_at (disk_now old) p (Some (file l))) (put_bytes bytes (bytes_now old inode))) took.is noted
file_put p inode bytes (Err Unfit) old new last touched moved failed w took noted = absurd (took.1 (record { there = w.there; long = omega arith }))
file_put p inode bytes (Err Failed) old new last touched moved failed w (inl same) noted = same_answer (Put p bytes) old new last touched moved failed w.held same noted
file_put p inode bytes (Err Failed) old new last touched moved failed w (inr (inl whole)) noted =
    broke_by (Put p bytes) p inode (written 0 bytes true) touched moved failed old new last w (write_within 0 bytes (bytes_now old inode) true (omega arith)) (left_of_put bytes) whole.is noted
file_put p inode bytes (Err Failed) old new last touched moved failed w (inr (inr (n, part))) noted =
    broke_by (Put p bytes) p inode (written 0 (take n bytes) false) touched moved failed old new last w (write_within 0 (take n bytes) (bytes_now old inode) false (omega arith))
    (λ before held may. left_of_front (take n bytes) (length bytes) before held (few n bytes) may) part.is noted
file_put p inode bytes (Err Memory) old new last touched moved failed w took noted = absurd took

-- bytes written from a place on
pub file_written : {T : Type 0} (p : Path) (inode : Inode) (at : ℕ) (bytes : List ℕ) (r : Result T FolderErr) (old new last : Story) (touched moved : List Path) (failed : Bool)
    → IsWriting (Write p at bytes) p inode touched moved failed old → at ≤ length (bytes_now old inode)
    → Took r (HasWritten p inode at (written at bytes false)) (λ s t. (t ≡ s) × ¬ IsLongFile p inode at s) (MayHaveWritten p inode at bytes false) old new → IsNoted (Write p at bytes) r new last
    → IsDone (Write p at bytes) r touched moved failed old last
file_written p inode at bytes (Ok x) old new last touched moved failed w long took noted =
    did_by x (Write p at bytes) p inode (written at bytes false) touched moved failed old new last w (write_within at bytes (bytes_now old inode) false long)
    (λ before held may. left_of_write at bytes (length bytes) before held (omega arith) may)
    (ap (λ (o : Option Node). set_at (disk_now old) p (in_file (λ l. overwritten l at bytes) o)) (sym (file_in (volume_now old) p inode w.there))) took.is noted
file_written p inode at bytes (Err Unfit) old new last touched moved failed w long took noted = absurd (took.1 (record { there = w.there; long = long }))
file_written p inode at bytes (Err Failed) old new last touched moved failed w long (inl same) noted = same_answer (Write p at bytes) old new last touched moved failed w.held same noted
file_written p inode at bytes (Err Failed) old new last touched moved failed w long (inr (inl whole)) noted =
    broke_by (Write p at bytes) p inode (written at bytes false) touched moved failed old new last w (write_within at bytes (bytes_now old inode) false long)
    (λ before held may. left_of_write at bytes (length bytes) before held (omega arith) may) whole.is noted
file_written p inode at bytes (Err Failed) old new last touched moved failed w long (inr (inr (n, part))) noted =
    broke_by (Write p at bytes) p inode (written at (take n bytes) false) touched moved failed old new last w (write_within at (take n bytes) (bytes_now old inode) false long)
    (λ before held may. left_of_write at (take n bytes) (length bytes) before held (few n bytes) may) part.is noted
file_written p inode at bytes (Err Memory) old new last touched moved failed w long took noted = absurd took

-- a file that is cut
pub file_cut : {T : Type 0} (p : Path) (inode : Inode) (n : ℕ) (r : Result T FolderErr) (old new last : Story) (touched moved : List Path) (failed : Bool)
    → IsWriting (SetLen p n) p inode touched moved failed old → n ≤ length (bytes_now old inode)
    → Took r (HasWritten p inode n (Cut n ∷ [])) (λ s t. (t ≡ s) × ¬ IsLongFile p inode n s) (MayHaveCut p inode n) old new → IsNoted (SetLen p n) r new last
    → IsDone (SetLen p n) r touched moved failed old last
file_cut p inode n (Ok x) old new last touched moved failed w long took noted =
    did_by x (SetLen p n) p inode (Cut n ∷ []) touched moved failed old new last w (tt, long) (left_of_cut n)
    (ap (λ (o : Option Node). set_at (disk_now old) p (in_file (take n) o)) (sym (file_in (volume_now old) p inode w.there))) took.is noted
file_cut p inode n (Err Unfit) old new last touched moved failed w long took noted = absurd (took.1 (record { there = w.there; long = long }))
file_cut p inode n (Err Failed) old new last touched moved failed w long (inl same) noted = same_answer (SetLen p n) old new last touched moved failed w.held same noted
file_cut p inode n (Err Failed) old new last touched moved failed w long (inr whole) noted =
    broke_by (SetLen p n) p inode (Cut n ∷ []) touched moved failed old new last w (tt, long) (left_of_cut n) whole.is noted
file_cut p inode n (Err Memory) old new last touched moved failed w long took noted = absurd took

-- ---- a file that is moved

free_from : (story : Story) (p : Path) → IsFree (node_at (disk_now story) p) → (entry_at (names_now story) p ≡ None) ⊎ HasFile (names_now story) p
free_from story p (inl none) = inl (none_from (volume_now story) p none)
free_from story p (inr f) = let is = file_from (volume_now story) p f.0 f.1 in inr (is.inode, is.there)

can_move_to : (from to : Path) (story : Story) → CanDo (Move from to) (disk_now story) → CanMoveTo (names_now story) from to
can_move_to from to story can =
    let f = file_from (volume_now story) from can.there.0 can.there.1 in
    record { there = (f.inode, f.there); inside = folder_from (volume_now story) (parent to) can.inside; free = free_from story to can.free }

pub file_moved : {T : Type 0} (from to : Path) (r : Result T FolderErr) (old new last : Story) (touched moved : List Path) (failed : Bool) → IsHeld old touched moved failed
    → Contains touched (parent from) → Contains touched to → Contains touched (parent to) → Contains moved to
    → Took r (HasTaken (Moved from to)) (λ s t. (t ≡ s) × ¬ CanMoveTo (names_now s) from to) (MayHaveTaken (Moved from to)) old new → IsNoted (Move from to) r new last → IsDone (Move from to) r touched moved failed old last
file_moved from to (Ok x) old new last touched moved failed held left here above has took noted =
    did_answer x (Move from to) old (takes (Moved from to) old) last touched moved moved failed held (went_moved from to old touched moved failed held took.fits left here above has) (moved_now from to old)
    (noted ∙ ap (notes (Did (Move from to))) took.is)
file_moved from to (Err Unfit) old new last touched moved failed held left here above has took noted =
    unfit_answer (Move from to) old new last touched moved failed held took.0 noted (λ can. took.1 (can_move_to from to old can))
file_moved from to (Err Failed) old new last touched moved failed held left here above has (inl same) noted = same_answer (Move from to) old new last touched moved failed held same noted
file_moved from to (Err Failed) old new last touched moved failed held left here above has (inr taken) noted =
    broke_answer (Move from to) old (takes (Moved from to) old) last touched moved moved failed held (went_moved from to old touched moved failed held taken.fits left here above has)
    (noted ∙ ap (λ (story : Story). noted_break (Move from to) story.unnoted story) taken.is)
file_moved from to (Err Memory) old new last touched moved failed held left here above has took noted = absurd took

-- ---- a name that goes

pub file_removed : {T : Type 0} (p : Path) (r : Result T FolderErr) (old new last : Story) (touched moved : List Path) (failed : Bool) → IsHeld old touched moved failed → HasFile (names_now old) p → Contains touched (parent p)
    → Took r (HasTaken (Dropped p)) (λ s t. (t ≡ s) × ¬ HasFile (names_now s) p) (MayHaveTaken (Dropped p)) old new → IsNoted (RemoveFile p) r new last → IsDone (RemoveFile p) r touched moved failed old last
file_removed p (Ok x) old new last touched moved failed held f above took noted =
    did_answer x (RemoveFile p) old (takes (Dropped p) old) last touched moved moved failed held (went_removed_file p old touched moved failed held f above) (dropped_now p old)
    (noted ∙ ap (notes (Did (RemoveFile p))) took.is)
file_removed p (Err Unfit) old new last touched moved failed held f above took noted = absurd (took.1 f)
file_removed p (Err Failed) old new last touched moved failed held f above (inl same) noted = same_answer (RemoveFile p) old new last touched moved failed held same noted
file_removed p (Err Failed) old new last touched moved failed held f above (inr taken) noted =
    broke_answer (RemoveFile p) old (takes (Dropped p) old) last touched moved moved failed held (went_removed_file p old touched moved failed held f above)
    (noted ∙ ap (λ (story : Story). noted_break (RemoveFile p) story.unnoted story) taken.is)
file_removed p (Err Memory) old new last touched moved failed held f above took noted = absurd took

-- a folder can go only if it is empty
empty_of : (p : Path) (story : Story) → HasFolder (names_now story) p → HasFile (names_now story) p ⊎ IsEmptyFolder (names_now story) p → IsEmptyFolder (names_now story) p
empty_of p story folder (inl f) = let h : Some Folder ≡ Some (File f.0) = sym folder ∙ f.1 in cc
empty_of p story folder (inr empty) = empty

empty_from : (p : Path) (story : Story) → HasFolder (names_now story) p → CanDo (RemoveDir p) (disk_now story) → IsEmptyFolder (names_now story) p
empty_from p story folder (inl none) = let h : Some Folder ≡ None = sym folder ∙ none_from (volume_now story) p none in cc
empty_from p story folder (inr bare) = record { below = bare.below; there = folder; no_child = λ name. none_from (volume_now story) (p ++ name ∷ []) (bare.no_child name) }

pub dir_removed : {T : Type 0} (p : Path) (r : Result T FolderErr) (old new last : Story) (touched moved : List Path) (failed : Bool) → IsHeld old touched moved failed → HasFolder (names_now old) p → Contains touched (parent p)
    → Took r (HasTaken (Dropped p)) (λ s t. (t ≡ s) × ¬ IsEmptyFolder (names_now s) p) (MayHaveTaken (Dropped p)) old new → IsNoted (RemoveDir p) r new last → IsDone (RemoveDir p) r touched moved failed old last
dir_removed p (Ok x) old new last touched moved failed held folder above took noted =
    did_answer x (RemoveDir p) old (takes (Dropped p) old) last touched moved moved failed held (went_removed_dir p old touched moved failed held (empty_of p old folder took.fits) above) (dropped_now p old)
    (noted ∙ ap (notes (Did (RemoveDir p))) took.is)
dir_removed p (Err Unfit) old new last touched moved failed held folder above took noted =
    unfit_answer (RemoveDir p) old new last touched moved failed held took.0 noted (λ can. took.1 (empty_from p old folder can))
dir_removed p (Err Failed) old new last touched moved failed held folder above (inl same) noted = same_answer (RemoveDir p) old new last touched moved failed held same noted
dir_removed p (Err Failed) old new last touched moved failed held folder above (inr taken) noted =
    broke_answer (RemoveDir p) old (takes (Dropped p) old) last touched moved moved failed held (went_removed_dir p old touched moved failed held (empty_of p old folder taken.fits) above)
    (noted ∙ ap (λ (story : Story). noted_break (RemoveDir p) story.unnoted story) taken.is)
dir_removed p (Err Memory) old new last touched moved failed held folder above took noted = absurd took

-- ---- a change that finds itself done

pub found_done : {T : Type 0} (x : T) (change : Change) (old last : Story) (touched moved : List Path) (failed : Bool) → IsHeld old touched moved failed → CanDo change (disk_now old) → disk_now old ≡ done change (disk_now old)
    → last ≡ notes (Did change) old → IsDone change (Ok x) touched moved failed old last
found_done x change old last touched moved failed held can is noted = did_answer x change old old last touched moved moved failed held (went_nowhere change old touched moved failed held can) is noted

-- a folder that is there
pub dir_there : (p : Path) (story : Story) (touched moved : List Path) (failed : Bool) → IsHeld story touched moved failed → HasFolder (names_now story) p
    → CanDo (MakeDir p) (disk_now story) × (disk_now story ≡ done (MakeDir p) (disk_now story))
dir_there p story touched moved failed held folder =
    let is = folder_in (volume_now story) p folder in (
      record { inside = (held_tree story touched moved failed held).parents p (subst IsSome (sym is) refl); free = inr is },
      sym (same_at (disk_now story) p (Some folder_node) is),
    )

-- nothing where something was to go
pub nothing_there : (p : Path) (story : Story) → entry_at (names_now story) p ≡ None → (node_at (disk_now story) p ≡ None) × (disk_now story ≡ set_at (disk_now story) p None)
nothing_there p story none = let is = none_in (volume_now story) p none in (is, sym (same_at (disk_now story) p None is))
