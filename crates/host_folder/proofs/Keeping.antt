-- How a story and its log go on together.
use Rattle.std.proofs.Common.{◌≡◌, ◌≢◌, ◌⊎◌, ◌+◌, ◌≤◌, ℕ, Bool, true, false, List, [], ◌∷◌, ◌++◌, length, take, Option, Some, None, Contains, refl, sym, ap, subst, ◌∙◌, inl, inr, ⊎_elim, arith, true≢false}
use Rattle.std.specs.List.{AllByRecursion, flat_map}
use Rattle.std.specs.FinMap as map
use Rattle.outside.specs.Disk.{Disk, Path, Node, file, node_at, parent, IsTree}
use Rattle.outside.specs.Changes.{Change, MakeDir, Put, Write, SetLen, Move, RemoveFile, RemoveDir, CanDo, done, set_at, IsPartOf, IsTornPut}
use Rattle.outside.specs.Images.{Call, Did, Broke, Synced, Log, disk_after, now, adds, MayLeave, IsSound, IsImage, BreaksInto}
use Rattle.outside.specs.Unsynced.{paths_of, touched, unsynced}
use Rattle.outside.proofs.Steady.{sound_tree, whole_part}
use Rattle.outside.proofs.Trees.{tree_done}
use Rattle.outside.proofs.Paths.{by_path, set_here, set_there, same_disk}
use Rattle.host_calls.specs.declared.found.Inode.{Inode}
use Rattle.host_calls.specs.Volume.{Names, Volume, Contents, Entry, Folder, File, entry_at, each_value, disk_of}
use Rattle.host_calls.specs.Names.{NameStep, MadeFolder, MadeFile, Moved, Dropped, HasFile, CanMake, CanMoveTo, IsEmptyFolder, Fits, named, after_step, folders_of}
use Rattle.host_calls.specs.Bytes.{Filed, FileStep, Wrote, Cut, bytes_after, MayHold, AreWithin}
use Rattle.host_calls.specs.Story.{Story, IsLeft, IsNew, IsSoundStory, IsLooseAt, names_now, volume_now, disk_now, bytes_of, bytes_now, takes, writes, creates, notes, doubts, flushes_entry, flushes_folder, flushes_file, restarted}
use Rattle.host_calls.proofs.Volumes.{node_in, file_in, none_in, folder_in}
use Rattle.host_calls.proofs.Written.{hold_whole, left_of_front, new_bytes}
use Rattle.host_calls.proofs.Stories.{IsStepBack, step_back, IsWriteBack, write_back, IsCreateBack, create_back, folder_flush_back, file_flush_back, bytes_known, settled_names, settled_disk, in_nothing}
use Rattle.host_calls.proofs.Sound.{sound_taken, sound_written, sound_created, sound_flushed_folder, sound_flushed_file, where_file, not_file, named_before, now_after}
use Rattle.host_calls.proofs.Loose.{first_or_rest, is_first, is_later, loose_more, given_by, stayed, loose_taken, loose_written, loose_created, loose_flushed}
use Rattle.host_calls.proofs.Parts.{Goes, goes_nowhere, goes_made_folder, goes_moved, goes_removed_file, goes_removed_dir, goes_created, without_bytes, goes_bytes, goes_put, goes_write, goes_cut, IsHeldBy, IsBytesAt, IsExchanged, can_make_dir, can_put_new, can_move, is_bare}
use Rattle.host_calls.proofs.Now.{written_now, created_now, flushed_names, flushed_disk}
use Rattle.host_calls.specs.Calls.{flushed_at}
use Rattle.host_folder.specs.First.{with_folder, to_settle, first_paths}
use Rattle.host_folder.specs.Held.{IsHeld, IsSure, AreUnmoved, IsLater, HasCome, unsynced_paths}
use Rattle.host_folder.specs.Opened.{IsOpened}
use Rattle.host_folder.proofs.Unsynced.{at_each, above_each, changed_at, in_front, later_paths}

-- ---- trees

image_tree : (start : Disk) (calls : List Call) (image : Disk) → IsSound start calls → MayLeave start calls image → IsTree image
image_tree start [] image sound is = subst IsTree (sym is) sound
image_tree start (Did change ∷ older) image sound is = is.3
image_tree start (Broke change left ∷ older) image sound is = is.3
image_tree start (Synced ∷ older) image sound is = subst IsTree (sym is) (sound_tree start older sound)

-- reads give a tree
pub held_tree : (story : Story) (touched moved : List Path) (failed : Bool) → IsHeld story touched moved failed → IsTree (disk_now story)
held_tree story touched moved failed held = subst IsTree (sym held.shows) (sound_tree story.diary.start story.diary.calls held.log)

-- ---- notes

same_left : (call : Call) (story : Story) (v : Volume) → IsLeft (notes call story) v → IsLeft story v
same_left call story v left = record { names = left.names; bytes = left.bytes }

same_sound : (call : Call) (story : Story) → IsSoundStory story → IsSoundStory (notes call story)
same_sound call story sound = record { fitting = sound.fitting; within = sound.within; folders = sound.folders; apart = sound.apart; known = sound.known }

same_loose : (call : Call) (story : Story) (paths : List Path) → IsLooseAt story paths → IsLooseAt (notes call story) paths
same_loose call story paths is = record { names = is.names; bytes = is.bytes }

same_sure : (call : Call) (story : Story) (paths : List Path) → IsSure story paths → IsSure (notes call story) paths
same_sure call story paths is = record { sure = is.sure; loose = same_loose call story paths is.loose }

-- the paths that changes since the last sync name
abbrev touched_since : Story → List Path
touched_since story = touched (unsynced story.diary.calls)

-- what a change left of each volume, and what reads give of it
pub record IsWent (change : Change) (old new : Story) (touched moved : List Path) (failed : Bool) : Type 0 where
  pub can : CanDo change (disk_now old)
  pub diary : new.diary ≡ old.diary
  pub sound : IsSoundStory new
  pub back : (v : Volume) → IsLeft new v → (u : Volume) × IsLeft old u × Goes change (disk_of u) (disk_of v)
  pub goes : Goes change (disk_now old) (disk_now new)
  pub unmoved : AreUnmoved new moved
  pub loose : IsLooseAt new (flat_map with_folder (paths_of change ++ touched_since old))
  pub surely : failed ≡ false → IsSure new touched

-- what isn't on the disk is still where changes were made, and the change was one
went_loose : (change : Change) (call : Call) (old new : Story) (touched moved : List Path) (failed : Bool) → ((older : List Call) → unsynced (call ∷ older) ≡ change ∷ unsynced older)
    → IsWent change old new touched moved failed → IsLooseAt (notes call new) (unsynced_paths (adds new.diary call))
went_loose change call old new kept moved failed is went =
    same_loose call new (unsynced_paths (adds new.diary call))
    (subst (λ (changes : List Change). IsLooseAt new (flat_map with_folder (touched changes))) (sym (is new.diary.calls))
    (subst (λ (log : Log). IsLooseAt new (flat_map with_folder (paths_of change ++ touched (unsynced log.calls)))) (sym went.diary) went.loose))

went_image : (change : Change) (call : Call) (old new : Story) (touched before moved : List Path) (failed : Bool) → IsHeld old touched before failed → IsWent change old new touched moved failed
    → ((log : Log) (image : Disk) → (earlier : Disk) × MayLeave log.start log.calls earlier × IsPartOf change earlier image × IsTree image → IsImage (adds log call) image)
    → (v : Volume) → IsLeft (notes call new) v → IsImage (adds new.diary call) (disk_of v)
went_image change call old new touched before moved failed held went into v left =
    let b = went.back v (same_left call new v left) in
    let image = held.images b.0 b.1 in
    subst (λ (log : Log). IsImage (adds log call) (disk_of v)) (sym went.diary)
    (into old.diary (disk_of v) (disk_of b.0, image, b.2.part, b.2.tree (image_tree old.diary.start old.diary.calls (disk_of b.0) held.log image)))

pub held_did : (change : Change) (old new : Story) (touched before moved : List Path) (failed : Bool) → IsHeld old touched before failed → IsWent change old new touched moved failed
    → disk_now new ≡ done change (disk_now old) → IsHeld (notes (Did change) new) touched moved failed
held_did change old new touched before moved failed held went is = record {
  log = subst (λ (log : Log). IsSound log.start log.calls × CanDo change (now log)) (sym went.diary) (held.log, subst (CanDo change) held.shows went.can);
  noted = refl;
  sound = same_sound (Did change) new went.sound;
  shows = is ∙ ap (done change) (held.shows ∙ ap now (sym went.diary));
  images = went_image change (Did change) old new touched before moved failed held went (λ log image h. h);
  unmoved = λ v left. went.unmoved v (same_left (Did change) new v left);
  loose = went_loose change (Did change) old new touched moved failed (λ older. refl) went;
  surely = λ f. same_sure (Did change) new touched (went.surely f);
}

pub breaks : (change : Change) (old new : Story) (touched before moved : List Path) (failed : Bool) → IsHeld old touched before failed → IsWent change old new touched moved failed → BreaksInto change (now old.diary) (disk_now new)
breaks change old new touched before moved failed held went = subst (λ (d : Disk). BreaksInto change d (disk_now new)) held.shows (record {
  can = went.can;
  part = went.goes.part;
  tree = went.goes.tree (held_tree old touched before failed held);
})

pub held_broke : (change : Change) (old new : Story) (touched before moved : List Path) (failed : Bool) → IsHeld old touched before failed → IsWent change old new touched moved failed
    → IsHeld (notes (Broke change (disk_now new)) new) touched moved failed
held_broke change old new touched before moved failed held went =
    let call = Broke change (disk_now new) in
    record {
      log = subst (λ (log : Log). IsSound log.start log.calls × BreaksInto change (now log) (disk_now new)) (sym went.diary) (held.log, breaks change old new touched before moved failed held went);
      noted = refl;
      sound = same_sound call new went.sound;
      shows = refl;
      images = went_image change call old new touched before moved failed held went (λ log image h. h);
      unmoved = λ v left. went.unmoved v (same_left call new v left);
      loose = went_loose change call old new touched moved failed (λ older. refl) went;
      surely = λ f. same_sure call new touched (went.surely f);
    }

-- what isn't on the disk before a change
held_loose : (change : Change) (story : Story) (kept moved : List Path) (failed : Bool) → IsHeld story kept moved failed
    → IsLooseAt story (flat_map with_folder (paths_of change ++ touched_since story))
held_loose change story kept moved failed held = loose_more story (unsynced_paths story.diary) (flat_map with_folder (paths_of change ++ touched_since story))
    (later_paths (paths_of change) (touched_since story)) held.loose

-- a change that finds itself done
pub went_nowhere : (change : Change) (story : Story) (touched moved : List Path) (failed : Bool) → IsHeld story touched moved failed → CanDo change (disk_now story) → IsWent change story story touched moved failed
went_nowhere change story touched moved failed held can = record {
  can = can;
  diary = refl;
  sound = held.sound;
  back = λ v left. (v, left, goes_nowhere change (disk_of v) (disk_of v) refl);
  goes = goes_nowhere change (disk_now story) (disk_now story) refl;
  unmoved = held.unmoved;
  loose = held_loose change story touched moved failed held;
  surely = held.surely;
}

-- more paths
pub held_more : (story : Story) (touched moved others also : List Path) (failed : Bool) → ((q : Path) → Contains touched q → Contains others q) → ((q : Path) → Contains moved q → Contains also q)
    → IsHeld story touched moved failed → IsHeld story others also failed
held_more story touched moved others also failed more too held = record {
  log = held.log;
  noted = held.noted;
  sound = held.sound;
  shows = held.shows;
  images = held.images;
  unmoved = λ v left q p i at_q at_p. ⊎_elim inl (λ there. inr (too p there)) (held.unmoved v left q p i at_q at_p);
  loose = held.loose;
  surely = λ f. record { sure = (held.surely f).sure; loose = loose_more story touched others more (held.surely f).loose };
}

-- ---- a step that gives no file a name

unmoved_kept : (step : NameStep) (story : Story) (moved : List Path) → ((q : Path) → Contains (given_by step) q → ⊥) → AreUnmoved story moved → AreUnmoved (takes step story) moved
unmoved_kept step story moved none old v left q p i at_q at_p =
    let b = step_back step story v left in
    old (record { names = b.before; contents = v.contents }) b.left q p i (before b.before b.either)
    (was (names_now story) p (subst (λ (names : Names). entry_at names p ≡ Some (File i)) (now_after step story) at_p))
  where
    was : (names : Names) (r : Path) → entry_at (after_step step names) r ≡ Some (File i) → entry_at names r ≡ Some (File i)
    was names r h = ⊎_elim (λ there. there) (λ given. absurd (none r given)) (stayed step names r i h)

    before : (names : Names) → (Fits step names × (v.names ≡ after_step step names)) ⊎ (v.names ≡ names) → entry_at names q ≡ Some (File i)
    before names (inl (fits, is)) = was names q (subst (λ (n : Names). entry_at n q ≡ Some (File i)) is at_q)
    before names (inr same) = subst (λ (n : Names). entry_at n q ≡ Some (File i)) same at_q

-- what a step leaves of a volume
step_goes : (change : Change) (step : NameStep) (story : Story)
    → ((v : Volume) → Fits step v.names → Goes change (disk_of v) (disk_of (record { names = after_step step v.names; contents = v.contents })))
    → (v : Volume) → IsLeft (takes step story) v → (u : Volume) × IsLeft story u × Goes change (disk_of u) (disk_of v)
step_goes change step story goes v left =
    let b = step_back step story v left in
    (record { names = b.before; contents = v.contents }, b.left, either b.before b.either)
  where
    either : (names : Names) → (Fits step names × (v.names ≡ after_step step names)) ⊎ (v.names ≡ names) → Goes change (disk_of (record { names = names; contents = v.contents })) (disk_of v)
    either names (inl (fits, is)) =
        subst (λ (n : Names). Goes change (disk_of (record { names = names; contents = v.contents })) (disk_of (record { names = n; contents = v.contents }))) (sym is)
        (goes (record { names = names; contents = v.contents }) fits)
    either names (inr same) = goes_nowhere change (disk_of (record { names = names; contents = v.contents })) (disk_of v) (ap (λ (n : Names). disk_of (record { names = n; contents = v.contents })) same)

sure_taken : (step : NameStep) (story : Story) (touched : List Path) → AllByRecursion (Contains touched) (folders_of step) → AllByRecursion (Contains touched) (given_by step) → IsSure story touched → IsSure (takes step story) touched
sure_taken step story touched folders given is = record { sure = is.sure; loose = loose_taken step story touched folders given is.loose }

taken_loose : (change : Change) (step : NameStep) (story : Story) (kept moved : List Path) (failed : Bool) → IsHeld story kept moved failed
    → ((paths : List Path) → AllByRecursion (Contains (flat_map with_folder (paths_of change ++ paths))) (folders_of step) × AllByRecursion (Contains (flat_map with_folder (paths_of change ++ paths))) (given_by step))
    → IsLooseAt (takes step story) (flat_map with_folder (paths_of change ++ touched_since story))
taken_loose change step story kept moved failed held at =
    let there = at (touched_since story) in
    loose_taken step story (flat_map with_folder (paths_of change ++ touched_since story)) there.0 there.1 (held_loose change story kept moved failed held)

went_taken : (change : Change) (step : NameStep) (story : Story) (touched moved : List Path) (failed : Bool) → IsHeld story touched moved failed
    → ((p : Path) (i : Inode) → step ≢ MadeFile p i) → ((q : Path) → Contains (given_by step) q → ⊥) → Fits step (names_now story) → CanDo change (disk_now story)
    → ((v : Volume) → Fits step v.names → Goes change (disk_of v) (disk_of (record { names = after_step step v.names; contents = v.contents })))
    → AllByRecursion (Contains touched) (folders_of step) → AllByRecursion (Contains touched) (given_by step)
    → ((paths : List Path) → AllByRecursion (Contains (flat_map with_folder (paths_of change ++ paths))) (folders_of step) × AllByRecursion (Contains (flat_map with_folder (paths_of change ++ paths))) (given_by step))
    → IsWent change story (takes step story) touched moved failed
went_taken change step story touched moved failed held old none fits can goes folders given at = record {
  can = can;
  diary = refl;
  sound = sound_taken step story old held.sound (held_tree story touched moved failed held) fits;
  back = step_goes change step story goes;
  goes = subst (λ (names : Names). Goes change (disk_now story) (disk_of (record { names = names; contents = each_value bytes_of story.files }))) (sym (now_after step story)) (goes (volume_now story) fits);
  unmoved = unmoved_kept step story moved none held.unmoved;
  loose = taken_loose change step story touched moved failed held at;
  surely = λ f. sure_taken step story touched folders given (held.surely f);
}

no_new_folder : (p q : Path) (i : Inode) → MadeFolder p ≡ MadeFile q i → ⊥
no_new_folder p q i e = cc

no_new_dropped : (p q : Path) (i : Inode) → Dropped p ≡ MadeFile q i → ⊥
no_new_dropped p q i e = cc

no_new_moved : (from to q : Path) (i : Inode) → Moved from to ≡ MadeFile q i → ⊥
no_new_moved from to q i e = cc

pub went_made_folder : (p : Path) (story : Story) (touched moved : List Path) (failed : Bool) → IsHeld story touched moved failed → CanMake (names_now story) p → Contains touched (parent p)
    → IsWent (MakeDir p) story (takes (MadeFolder p) story) touched moved failed
went_made_folder p story touched moved failed held fits above =
    went_taken (MakeDir p) (MadeFolder p) story touched moved failed held (no_new_folder p) in_nothing fits (can_make_dir (volume_now story) p fits) (λ v can. goes_made_folder v p can) (above, tt) tt (λ paths. ((above_each (p ∷ paths) p (changed_at p [] paths), tt), tt))

pub went_removed_file : (p : Path) (story : Story) (touched moved : List Path) (failed : Bool) → IsHeld story touched moved failed → HasFile (names_now story) p → Contains touched (parent p)
    → IsWent (RemoveFile p) story (takes (Dropped p) story) touched moved failed
went_removed_file p story touched moved failed held f above =
    went_taken (RemoveFile p) (Dropped p) story touched moved failed held (no_new_dropped p) in_nothing (inl f) (inr (bytes_now story f.0, file_in (volume_now story) p f.0 f.1)) (λ v can. goes_removed_file v p can) (above, tt) tt (λ paths. ((above_each (p ∷ paths) p (changed_at p [] paths), tt), tt))

pub went_removed_dir : (p : Path) (story : Story) (touched moved : List Path) (failed : Bool) → IsHeld story touched moved failed → IsEmptyFolder (names_now story) p → Contains touched (parent p)
    → IsWent (RemoveDir p) story (takes (Dropped p) story) touched moved failed
went_removed_dir p story touched moved failed held empty above =
    went_taken (RemoveDir p) (Dropped p) story touched moved failed held (no_new_dropped p) in_nothing (inr empty) (inr (is_bare (volume_now story) p empty)) (λ v can. goes_removed_dir v p can) (above, tt) tt (λ paths. ((above_each (p ∷ paths) p (changed_at p [] paths), tt), tt))

-- ---- a file that is moved

after_move : (names : Names) (from to q : Path) (i : Inode) → entry_at (after_step (Moved from to) names) q ≡ Some (File i)
    → ((q ≡ to) × (entry_at names from ≡ Some (File i))) ⊎ ((q ≢ from) × (entry_at names q ≡ Some (File i)))
after_move names from to q i h = ⊎_elim inl (λ r. inr (older (where_file names from None q i r.1))) (where_file (named names from None) to (entry_at names from) q i h)
  where
    older : ((q ≡ from) × (None ≡ Some (File i))) ⊎ ((q ≢ from) × (entry_at names q ≡ Some (File i))) → (q ≢ from) × (entry_at names q ≡ Some (File i))
    older (inl (is, never)) = absurd (not_file i never)
    older (inr there) = there

unmoved_moved : (from to : Path) (story : Story) (moved : List Path) → Contains moved to → AreUnmoved story moved → AreUnmoved (takes (Moved from to) story) moved
unmoved_moved from to story moved has old v left q p i at_q at_p =
    let b = step_back (Moved from to) story v left in
    now_at (record { names = b.before; contents = v.contents }) b.left (before b.before b.either)
    (after_move (names_now story) from to p i at_p)
  where
    before : (names : Names) → (CanMoveTo names from to × (v.names ≡ after_step (Moved from to) names)) ⊎ (v.names ≡ names)
        → ((q ≡ to) × (entry_at names from ≡ Some (File i))) ⊎ (entry_at names q ≡ Some (File i))
    before names (inl (fits, is)) = ⊎_elim inl (λ r. inr r.1) (after_move names from to q i (subst (λ (n : Names). entry_at n q ≡ Some (File i)) is at_q))
    before names (inr same) = inr (subst (λ (n : Names). entry_at n q ≡ Some (File i)) same at_q)

    left_at : (u : Volume) → IsLeft story u → ((q ≡ to) × (entry_at u.names from ≡ Some (File i))) ⊎ (entry_at u.names q ≡ Some (File i)) → p ≢ from → entry_at (names_now story) p ≡ Some (File i) → (q ≡ p) ⊎ Contains moved p
    left_at u l (inl (is, at_from)) ne there = ⊎_elim (λ e. absurd (ne (sym e))) inr (old u l from p i at_from there)
    left_at u l (inr at) ne there = old u l q p i at there

    now_at : (u : Volume) → IsLeft story u → ((q ≡ to) × (entry_at u.names from ≡ Some (File i))) ⊎ (entry_at u.names q ≡ Some (File i))
        → ((p ≡ to) × (entry_at (names_now story) from ≡ Some (File i))) ⊎ ((p ≢ from) × (entry_at (names_now story) p ≡ Some (File i))) → (q ≡ p) ⊎ Contains moved p
    now_at u l at (inl (is, there)) = inr (subst (Contains moved) (sym is) has)
    now_at u l at (inr (ne, there)) = left_at u l at ne there

pub went_moved : (from to : Path) (story : Story) (touched moved : List Path) (failed : Bool) → IsHeld story touched moved failed → CanMoveTo (names_now story) from to
    → Contains touched (parent from) → Contains touched to → Contains touched (parent to) → Contains moved to
    → IsWent (Move from to) story (takes (Moved from to) story) touched moved failed
went_moved from to story touched moved failed held fits left here above has = record {
  can = can_move (volume_now story) from to fits;
  diary = refl;
  sound = sound_taken (Moved from to) story (no_new_moved from to) held.sound (held_tree story touched moved failed held) fits;
  back = step_goes (Move from to) (Moved from to) story (λ v can. goes_moved v from to can);
  goes = goes_moved (volume_now story) from to fits;
  unmoved = unmoved_moved from to story moved has held.unmoved;
  loose = taken_loose (Move from to) (Moved from to) story touched moved failed held (λ paths.
      let there : Contains (from ∷ to ∷ paths) to = is_later from (to ∷ paths) to (changed_at to [] paths) in
      ((above_each (from ∷ to ∷ paths) to there, (above_each (from ∷ to ∷ paths) from (changed_at from (to ∷ []) paths), tt)), (at_each (from ∷ to ∷ paths) to there, tt)));
  surely = λ f. sure_taken (Moved from to) story touched (above, (left, tt)) (here, tt) (held.surely f);
}

-- ---- a new file

same_inode : (i j : Inode) → Some (File i) ≡ Some (File j) → i ≡ j
same_inode i j h = cc

unmoved_created : (path : Path) (inode : Inode) (steps : List FileStep) (story : Story) (moved : List Path) → IsNew story inode → AreUnmoved story moved → AreUnmoved (creates path inode steps story) moved
unmoved_created path inode steps story moved new old v left q p i at_q at_p =
    let b = create_back path inode steps story v new.unknown left in
    now_at (record { names = b.before; contents = map.remove v.contents inode }) b.left (before b.before b.either)
    (where_file (names_now story) path (Some (File inode)) p i at_p)
  where
    before : (names : Names) → (CanMake names path × (v.names ≡ after_step (MadeFile path inode) names)) ⊎ (v.names ≡ names)
        → ((q ≡ path) × (inode ≡ i)) ⊎ (entry_at names q ≡ Some (File i))
    before names (inl (fits, is)) =
        ⊎_elim (λ r. inl (r.0, same_inode inode i r.1)) (λ r. inr r.1) (where_file names path (Some (File inode)) q i (subst (λ (n : Names). entry_at n q ≡ Some (File i)) is at_q))
    before names (inr same) = inr (subst (λ (n : Names). entry_at n q ≡ Some (File i)) same at_q)

    now_at : (u : Volume) → IsLeft story u → ((q ≡ path) × (inode ≡ i)) ⊎ (entry_at u.names q ≡ Some (File i))
        → ((p ≡ path) × (Some (File inode) ≡ Some (File i))) ⊎ ((p ≢ path) × (entry_at (names_now story) p ≡ Some (File i))) → (q ≡ p) ⊎ Contains moved p
    now_at u l (inl (is, same)) (inl (at, same_file)) = inl (is ∙ sym at)
    now_at u l (inr there) (inl (at, same_file)) = absurd (new.unleft u l q (there ∙ ap (λ (j : Inode). Some (File j)) (sym (same_inode inode i same_file))))
    now_at u l (inl (is, same)) (inr (ne, there)) = absurd (new.unnamed p (there ∙ ap (λ (j : Inode). Some (File j)) (sym same)))
    now_at u l (inr at) (inr (ne, there)) = old u l q p i at there

create_goes : (path : Path) (inode : Inode) (steps : List FileStep) (bytes : List ℕ) (story : Story) → IsNew story inode → ((held : List ℕ) → MayHold [] steps held → length held ≤ length bytes)
    → (v : Volume) → IsLeft (creates path inode steps story) v → (u : Volume) × IsLeft story u × Goes (Put path bytes) (disk_of u) (disk_of v)
create_goes path inode steps bytes story new few v left =
    let b = create_back path inode steps story v new.unknown left in
    (record { names = b.before; contents = map.remove v.contents inode }, b.left, either b.before b.held (new.unleft _ b.left) b.there (few b.held b.holds) b.either)
  where
    either : (names : Names) (held : List ℕ) → ((q : Path) → entry_at names q ≢ Some (File inode)) → map.get v.contents inode ≡ Some held → length held ≤ length bytes
        → (CanMake names path × (v.names ≡ after_step (MadeFile path inode) names)) ⊎ (v.names ≡ names)
        → Goes (Put path bytes) (disk_of (record { names = names; contents = map.remove v.contents inode })) (disk_of v)
    either names held none there short (inl (fits, is)) =
        subst (λ (n : Names). Goes (Put path bytes) (disk_of (record { names = names; contents = map.remove v.contents inode })) (disk_of (record { names = n; contents = v.contents }))) (sym is)
        (goes_created names v.contents path inode bytes held fits none there short)
    either names held none there short (inr same) = goes_nowhere (Put path bytes) _ _
        (ap (λ (n : Names). disk_of (record { names = n; contents = v.contents })) same ∙ sym (without_bytes names v.contents inode none))

-- a file put anew leaves a tree a tree
put_goes : (d : Disk) (path : Path) (bytes held : List ℕ) (new : Disk) → CanDo (Put path held) d → length held ≤ length bytes → new ≡ set_at d path (Some (file held)) → Goes (Put path bytes) d new
put_goes d path bytes held new can few is = record {
  part = inr (inr (Some (file held), (held, refl, omega arith), is));
  tree = λ tree. subst IsTree (sym is) (tree_done (Put path held) d tree can);
}

-- a new file of a front of the bytes
pub went_created : (path : Path) (inode : Inode) (bytes front : List ℕ) (story : Story) (touched moved : List Path) (failed : Bool) → IsHeld story touched moved failed → CanMake (names_now story) path → IsNew story inode
    → length front ≤ length bytes → Contains touched path → Contains touched (parent path)
    → IsWent (Put path bytes) story (creates path inode (Wrote 0 front ∷ []) story) touched moved failed
went_created path inode bytes front story touched moved failed held fits new few here above = record {
  can = can_put_new (volume_now story) path fits;
  diary = refl;
  sound = sound_created path inode (Wrote 0 front ∷ []) story held.sound (held_tree story touched moved failed held) fits new (tt, omega arith);
  back = create_goes path inode (Wrote 0 front ∷ []) bytes story new (λ bs may. short bs (left_of_front front (length bytes) [] bs few may));
  goes = put_goes (disk_now story) path bytes (bytes_after [] (Wrote 0 front ∷ [])) _ (can_put_new (volume_now story) path fits) (new_short (new_bytes front)) (created_now path inode (Wrote 0 front ∷ []) story new);
  unmoved = unmoved_created path inode (Wrote 0 front ∷ []) story moved new held.unmoved;
  loose =
      let paths = touched_since story in
      let there : Contains (path ∷ paths) path = changed_at path [] paths in
      loose_created path inode (Wrote 0 front ∷ []) story (flat_map with_folder (path ∷ paths)) new (at_each (path ∷ paths) path there) (above_each (path ∷ paths) path there)
      (held_loose (Put path bytes) story touched moved failed held);
  surely = λ f. record { sure = (held.surely f).sure; loose = loose_created path inode (Wrote 0 front ∷ []) story touched new here above (held.surely f).loose };
}
  where
    short : (bs : List ℕ) → IsTornPut (length bytes) [] bs → length bs ≤ length bytes
    short bs torn = omega arith

    new_short : (bytes_after [] (Wrote 0 front ∷ []) ≡ front) → length (bytes_after [] (Wrote 0 front ∷ [])) ≤ length bytes
    new_short is = let e = ap length is in omega arith

pub created_disk : (path : Path) (inode : Inode) (bytes : List ℕ) (story : Story) → IsNew story inode → disk_now (creates path inode (Wrote 0 bytes ∷ []) story) ≡ done (Put path bytes) (disk_now story)
created_disk path inode bytes story new = created_now path inode (Wrote 0 bytes ∷ []) story new ∙ ap (λ (l : List ℕ). set_at (disk_now story) path (Some (file l))) (new_bytes bytes)

-- ---- a file's bytes

write_goes : (change : Change) (path : Path) (inode : Inode) (steps : List FileStep) (filed : Filed) (story : Story) (moved : List Path) → AreUnmoved story moved → entry_at (names_now story) path ≡ Some (File inode)
    → map.get story.files inode ≡ Some filed → ¬ Contains moved path → IsBytesAt change path → ((before held : List ℕ) → MayHold before steps held → IsHeldBy change before held)
    → (v : Volume) → IsLeft (writes inode steps story) v → (u : Volume) × IsLeft story u × Goes change (disk_of u) (disk_of v)
write_goes change path inode steps filed story moved old at known unmoved is_at by v left =
    let b = write_back inode steps story filed v known left in (
      record { names = v.names; contents = map.insert v.contents inode b.before },
      b.left,
      subst (λ (c : Contents). Goes change (disk_of (record { names = v.names; contents = map.insert v.contents inode b.before })) (disk_of (record { names = v.names; contents = c }))) (sym b.is)
          (goes_bytes change v.names v.contents path inode b.before b.held is_at (by b.before b.held b.holds) (λ q there. ⊎_elim (λ e. e) (λ was. absurd (unmoved was)) (old _ b.left q path inode there at))),
    )

pub same_at : (d : Disk) (p : Path) (node : Option Node) → node_at d p ≡ node → set_at d p node ≡ d
same_at d p node is = same_disk (set_at d p node) d (λ q. by_path q p
    (λ e. set_here d p node q e ∙ sym is ∙ ap (node_at d) (sym e))
    (λ ne. set_there d p node q ne))

goes_exchanged : (change : Change) (d : Disk) (p : Path) (before held : List ℕ) (new : Disk) → IsBytesAt change p → IsHeldBy change before held → IsExchanged d p before held new → Goes change d new
goes_exchanged (MakeDir q) d p before held new at by x = absurd at
goes_exchanged (Move from to) d p before held new at by x = absurd at
goes_exchanged (RemoveFile q) d p before held new at by x = absurd at
goes_exchanged (RemoveDir q) d p before held new at by x = absurd at
goes_exchanged (Put q bytes) d p before held new at torn x = subst (λ (r : Path). Goes (Put r bytes) d new) (sym at) (goes_put d p bytes before held new torn x)
goes_exchanged (Write q n bytes) d p before held new at (inl same) x = goes_nowhere (Write q n bytes) d new (x.is ∙ same_at d p (Some (file held)) (x.there ∙ ap (λ (l : List ℕ). Some (file l)) (sym same)))
goes_exchanged (Write q n bytes) d p before held new at (inr torn) x = subst (λ (r : Path). Goes (Write r n bytes) d new) (sym at) (goes_write d p n bytes before held new torn x)
goes_exchanged (SetLen q n) d p before held new at (inl same) x = goes_nowhere (SetLen q n) d new (x.is ∙ same_at d p (Some (file held)) (x.there ∙ ap (λ (l : List ℕ). Some (file l)) (sym same)))
goes_exchanged (SetLen q n) d p before held new at (inr cut) x = subst (λ (r : Path). Goes (SetLen r n) d new) (sym at) (goes_cut d p n before held new cut x)

-- a change of a file's bytes names the file
bytes_path : (change : Change) (path : Path) → IsBytesAt change path → Contains (paths_of change) path
bytes_path (MakeDir q) path at = absurd at
bytes_path (Move from to) path at = absurd at
bytes_path (RemoveFile q) path at = absurd at
bytes_path (RemoveDir q) path at = absurd at
bytes_path (Put q bytes) path at = subst (Contains (q ∷ [])) at (is_first q [])
bytes_path (Write q n bytes) path at = subst (Contains (q ∷ [])) at (is_first q [])
bytes_path (SetLen q n) path at = subst (Contains (q ∷ [])) at (is_first q [])

pub went_written : (change : Change) (path : Path) (inode : Inode) (steps : List FileStep) (story : Story) (touched moved : List Path) (failed : Bool) → IsHeld story touched moved failed
    → entry_at (names_now story) path ≡ Some (File inode) → ¬ Contains moved path → Contains touched path → IsBytesAt change path → CanDo change (disk_now story)
    → AreWithin (bytes_now story inode) steps → ((before held : List ℕ) → MayHold before steps held → IsHeldBy change before held)
    → IsWent change story (writes inode steps story) touched moved failed
went_written change path inode steps story touched moved failed held at unmoved here is_at can within by =
    let known = held.sound.known path inode at in
    record {
      can = can;
      diary = refl;
      sound = sound_written inode steps known.0 story held.sound known.1 (subst (λ (l : List ℕ). AreWithin l steps) (bytes_known story inode known.0 known.1) within);
      back = write_goes change path inode steps known.0 story moved held.unmoved at known.1 unmoved is_at by;
      goes = goes_exchanged change (disk_now story) path (bytes_now story inode) (bytes_after (bytes_now story inode) steps) (disk_now (writes inode steps story)) is_at
          (by (bytes_now story inode) (bytes_after (bytes_now story inode) steps) (hold_whole (bytes_now story inode) steps within))
          (record { there = file_in (volume_now story) path inode at; is = written_now path inode steps known.0 story held.sound at known.1 });
      unmoved = λ v left q p i at_q at_p. let b = write_back inode steps story known.0 v known.1 left in held.unmoved (record { names = v.names; contents = map.insert v.contents inode b.before }) b.left q p i at_q at_p;
      loose = loose_written path inode steps story (flat_map with_folder (paths_of change ++ touched_since story)) held.sound at
          (at_each (paths_of change ++ touched_since story) path (in_front (paths_of change) (touched_since story) path (bytes_path change path is_at)))
          (held_loose change story touched moved failed held);
      surely = λ f. record { sure = (held.surely f).sure; loose = loose_written path inode steps story touched held.sound at here (held.surely f).loose };
    }

-- what reads give after it
pub written_disk : (path : Path) (inode : Inode) (steps : List FileStep) (story : Story) (touched moved : List Path) (failed : Bool) → IsHeld story touched moved failed → entry_at (names_now story) path ≡ Some (File inode)
    → disk_now (writes inode steps story) ≡ set_at (disk_now story) path (Some (file (bytes_after (bytes_now story inode) steps)))
written_disk path inode steps story touched moved failed held at = let known = held.sound.known path inode at in written_now path inode steps known.0 story held.sound at known.1

-- ---- flushes

pub later_itself : (story : Story) → IsSoundStory story → IsLater story story
later_itself story sound = record { sound = sound; left = λ v left. left; names = refl; disk = refl; diary = refl; unnoted = refl; loose = λ paths is. is }

pub later_then : (a b c : Story) → IsLater a b → IsLater b c → IsLater a c
later_then a b c first second = record {
  sound = second.sound;
  left = λ v left. first.left v (second.left v left);
  names = second.names ∙ first.names;
  disk = second.disk ∙ first.disk;
  diary = second.diary ∙ first.diary;
  unnoted = second.unnoted ∙ first.unnoted;
  loose = λ paths is. second.loose paths (first.loose paths is);
}

pub later_doubt : (story : Story) → IsSoundStory story → IsLater story (doubts story)
later_doubt story sound = record {
  sound = record { fitting = sound.fitting; within = sound.within; folders = sound.folders; apart = sound.apart; known = sound.known };
  left = λ v left. record { names = left.names; bytes = left.bytes };
  names = refl;
  disk = refl;
  diary = refl;
  unnoted = refl;
  loose = λ paths is. record { names = is.names; bytes = is.bytes };
}

-- a flush leaves no more off the disk
loose_later : (path : Path) (entry : Option Entry) (story : Story) → IsSoundStory story → entry_at (names_now story) path ≡ entry
    → (paths : List Path) → IsLooseAt story paths → IsLooseAt (flushes_entry path entry story) paths
loose_later path entry story sound at paths is = loose_flushed path paths entry story sound at (loose_more story paths (path ∷ paths) (λ q. is_later path paths q) is)

later_entry : (path : Path) (entry : Option Entry) (story : Story) → IsSoundStory story → entry_at (names_now story) path ≡ entry → IsLater story (flushes_entry path entry story)
later_entry path None story sound at = later_itself story sound
later_entry path (Some Folder) story sound at = record {
  sound = sound_flushed_folder path story sound;
  left = λ v left. folder_flush_back path story v left;
  names = flushed_names path (Some Folder) story;
  disk = flushed_disk path (Some Folder) story sound at;
  diary = refl;
  unnoted = refl;
  loose = loose_later path (Some Folder) story sound at;
}
later_entry path (Some (File i)) story sound at =
    let known = sound.known path i at in
    record {
      sound = sound_flushed_file i story sound;
      left = λ v left. file_flush_back i story known.0 v known.1 (sound.within i known.0 known.1) left;
      names = refl;
      disk = flushed_disk path (Some (File i)) story sound at;
      diary = refl;
      unnoted = refl;
      loose = loose_later path (Some (File i)) story sound at;
    }

pub later_flushed : (path : Path) (doubt : Bool) (story : Story) → IsSoundStory story → IsLater story (flushed_at path doubt story)
later_flushed path false story sound = later_entry path (entry_at (names_now story) path) story sound refl
later_flushed path true story sound = later_itself story sound

same_doubt : (path : Path) (entry : Option Entry) (story : Story) → (flushes_entry path entry story).doubt ≡ story.doubt
same_doubt path None story = refl
same_doubt path (Some Folder) story = refl
same_doubt path (Some (File i)) story = refl

pub come_flushed : (path : Path) (doubt : Bool) (story : Story) → IsSoundStory story → story.doubt ≡ doubt → HasCome path story (flushed_at path doubt story)
come_flushed path false story sound is = record {
  sure = same_doubt path (entry_at (names_now story) path) story;
  rest = λ sure paths loose. loose_flushed path paths (entry_at (names_now story) path) story sound refl loose;
}
come_flushed path true story sound is = record { sure = refl; rest = λ sure. absurd (true≢false (sym is ∙ sure)) }

-- nothing is there
pub come_none : (path : Path) (story : Story) → IsSoundStory story → entry_at (names_now story) path ≡ None → HasCome path story story
come_none path story sound none = record { sure = refl; rest = λ sure paths loose. loose_flushed path paths None story sound none loose }

still_loose : (old new : Story) (kept moved : List Path) (failed : Bool) → IsHeld old kept moved failed → IsLater old new → IsLooseAt new (unsynced_paths new.diary)
still_loose old new kept moved failed held later = subst (λ (log : Log). IsLooseAt new (unsynced_paths log)) (sym later.diary) (later.loose (unsynced_paths old.diary) held.loose)

-- a flush that failed, and from then on each sync
pub held_later : (old new : Story) (touched moved : List Path) (failed : Bool) → IsHeld old touched moved failed → IsLater old new → IsHeld new touched moved true
held_later old new touched moved failed held later = record {
  log = subst (λ (log : Log). IsSound log.start log.calls) (sym later.diary) held.log;
  noted = later.unnoted ∙ held.noted;
  sound = later.sound;
  shows = later.disk ∙ held.shows ∙ ap now (sym later.diary);
  images = λ v left. subst (λ (log : Log). IsImage log (disk_of v)) (sym later.diary) (held.images v (later.left v left));
  unmoved = λ v left q p i at_q at_p. held.unmoved v (later.left v left) q p i at_q (subst (λ (names : Names). entry_at names p ≡ Some (File i)) later.names at_p);
  loose = still_loose old new touched moved failed held later;
  surely = λ f. absurd (true≢false f);
}

-- all is on the disk
pub held_settled : (old new : Story) (touched moved : List Path) (failed : Bool) → IsHeld old touched moved failed → IsLater old new → IsSure new [] → IsHeld new [] [] failed
held_settled old new touched moved failed held later sure = record {
  log = subst (λ (log : Log). IsSound log.start log.calls) (sym later.diary) held.log;
  noted = later.unnoted ∙ held.noted;
  sound = later.sound;
  shows = later.disk ∙ held.shows ∙ ap now (sym later.diary);
  images = λ v left. subst (λ (log : Log). IsImage log (disk_of v)) (sym later.diary) (held.images v (later.left v left));
  unmoved = λ v left q p i at_q at_p. inl (later.sound.apart q p i (subst (λ (names : Names). entry_at names q ≡ Some (File i)) (settled_names new v later.sound sure.loose left) at_q) at_p);
  loose = still_loose old new touched moved failed held later;
  surely = λ f. sure;
}

-- and the log says so
pub held_synced : (story : Story) (failed : Bool) → IsHeld story [] [] failed → IsSure story [] → IsHeld (notes Synced story) [] [] failed
held_synced story failed held sure = record {
  log = held.log;
  noted = refl;
  sound = same_sound Synced story held.sound;
  shows = held.shows;
  images = λ v left. settled_disk story v held.sound sure.loose (same_left Synced story v left) ∙ held.shows;
  unmoved = λ v left. held.unmoved v (same_left Synced story v left);
  loose = same_loose Synced story [] sure.loose;
  surely = λ f. same_sure Synced story [] sure;
}

-- ---- an opening

-- once all is on the disk that an earlier run left off it, the log begins with what reads give
pub held_opened : (paths : List Path) (old new : Story) → IsOpened paths old → IsLater old new → IsSure new [] → IsHeld new [] [] false
held_opened paths old new opened later sure =
    let is : new.diary ≡ record { start = disk_now old; calls = [] } = later.diary ∙ opened.begun.diary in
    record {
      log = subst (λ (log : Log). IsSound log.start log.calls) (sym is) opened.begun.tree;
      noted = later.unnoted ∙ opened.begun.noted;
      sound = later.sound;
      shows = later.disk ∙ ap now (sym is);
      images = λ v left. subst (λ (log : Log). IsImage log (disk_of v)) (sym is) (settled_disk new v later.sound sure.loose left ∙ later.disk);
      unmoved = λ v left q p i at_q at_p. inl (later.sound.apart q p i (subst (λ (names : Names). entry_at names q ≡ Some (File i)) (settled_names new v later.sound sure.loose left) at_q) at_p);
      loose = subst (λ (log : Log). IsLooseAt new (unsynced_paths log)) (sym is) sure.loose;
      surely = λ f. sure;
    }

-- ---- a restart

-- what isn't on the disk is among paths that are flushed with their folders, if these are among them that changes were made at
each_with : (paths others : List Path) → ((p : Path) → Contains paths p → Contains others p) → (q : Path) → Contains (flat_map with_folder paths) q → Contains (flat_map with_folder others) q
each_with [] others all q (k, within, is) = absurd (omega arith)
each_with (p ∷ paths) others all q has = either (first_or_rest p (parent p ∷ flat_map with_folder paths) q has) (each_with paths others (λ r there. all r (is_later p paths r there)) q)
  where
    above : (q ≡ parent p) ⊎ Contains (flat_map with_folder paths) q → (Contains (flat_map with_folder paths) q → Contains (flat_map with_folder others) q) → Contains (flat_map with_folder others) q
    above (inl is) rest = subst (Contains (flat_map with_folder others)) (sym is) (above_each others p (all p (is_first p paths)))
    above (inr later) rest = rest later

    either : (q ≡ p) ⊎ Contains (parent p ∷ flat_map with_folder paths) q → (Contains (flat_map with_folder paths) q → Contains (flat_map with_folder others) q) → Contains (flat_map with_folder others) q
    either (inl is) rest = subst (Contains (flat_map with_folder others)) (sym is) (at_each others p (all p (is_first p paths)))
    either (inr later) rest = above (first_or_rest (parent p) (flat_map with_folder paths) q later) rest

pub opened_again : (story : Story) (kept moved paths : List Path) → IsHeld story kept moved false → ((p : Path) → Contains (touched_since story) p → Contains paths p) → IsOpened paths (restarted story)
opened_again story kept moved paths held all = record {
  begun = record {
    sound = record { fitting = held.sound.fitting; within = held.sound.within; folders = held.sound.folders; apart = held.sound.apart; known = held.sound.known };
    tree = held_tree story kept moved false held;
    diary = refl;
    noted = refl;
  };
  sure = record {
    sure = (held.surely refl).sure;
    loose =
        let more = loose_more story (unsynced_paths story.diary) (to_settle paths) (λ q has. in_front (flat_map with_folder paths) first_paths q (each_with (touched_since story) paths all q has)) held.loose in
        record { names = more.names; bytes = more.bytes };
  };
}

-- a kill amid the settling
pub opened_still : (paths : List Path) (old new : Story) → IsOpened paths old → IsLater old new → new.doubt ≡ false → IsOpened paths new
opened_still paths old new opened later sure = record {
  begun = record {
    sound = later.sound;
    tree = subst IsTree (sym later.disk) opened.begun.tree;
    diary = later.diary ∙ opened.begun.diary ∙ ap (λ (d : Disk). let log : Log = record { start = d; calls = [] } in log) (sym later.disk);
    noted = later.unnoted ∙ opened.begun.noted;
  };
  sure = record { sure = sure; loose = later.loose (to_settle paths) opened.sure.loose };
}
