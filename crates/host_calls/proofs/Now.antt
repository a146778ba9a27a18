-- What reads give after a step.
use Rattle.std.proofs.Common.{◌≡◌, ◌≢◌, ℕ, List, [], ◌∷◌, ◌++◌, Option, Some, None, option_map, unwrap_or, refl, sym, ap, subst, ◌∙◌}
use Rattle.std.specs.FinMap as map
use Rattle.outside.specs.Disk.{Disk, Path, Node, folder, file}
use Rattle.outside.specs.Changes.{MakeDir, Move, set_at, done}
use Rattle.host_calls.specs.declared.found.Inode.{Inode}
use Rattle.host_calls.specs.Volume.{Names, Contents, Volume, Entry, Folder, File, entry_at, bytes_in, each_value, disk_of}
use Rattle.host_calls.specs.Names.{NameStep, MadeFolder, MadeFile, Moved, Dropped, after_step, named, without, Pending, flushed}
use Rattle.host_calls.specs.Bytes.{Filed, FileStep, bytes_after}
use Rattle.host_calls.specs.Story.{Story, Files, IsNew, IsSoundStory, names_now, volume_now, disk_now, bytes_of, bytes_now, takes, writes, creates, filed_after, flushes_entry, flushes_folder, flushes_file, settled_file}
use Rattle.host_calls.proofs.Volumes.{inodes_total, inodes_apart, by_inode, filed_here, filed_there, get_each, disk_named, disk_moved, disk_written, unseen, bytes_here, bytes_there}
use Rattle.host_calls.proofs.Written.{bytes_more}
use Rattle.host_calls.proofs.Steps.{same_names}
use Rattle.host_calls.proofs.Stories.{bytes_known}
use Rattle.host_calls.proofs.Sound.{now_after}

-- the contents with one file more, or one that changed
pub each_inserted : (files : Files) (i : Inode) (filed : Filed) → each_value bytes_of (map.insert files i filed) ≡ map.insert (each_value bytes_of files) i (bytes_of filed)
each_inserted files i filed = map.same_map inodes_total inodes_apart (each_value bytes_of (map.insert files i filed)) (map.insert (each_value bytes_of files) i (bytes_of filed)) (λ j. by_inode j i
    (λ e. get_each inodes_total bytes_of (map.insert files i filed) j ∙ ap (option_map bytes_of) (ap (map.get (map.insert files i filed)) e ∙ filed_here files i filed)
    ∙ sym (ap (map.get (map.insert (each_value bytes_of files) i (bytes_of filed))) e ∙ filed_here (each_value bytes_of files) i (bytes_of filed)))
    (λ ne. get_each inodes_total bytes_of (map.insert files i filed) j ∙ ap (option_map bytes_of) (filed_there files i filed j ne)
    ∙ sym (filed_there (each_value bytes_of files) i (bytes_of filed) j ne ∙ get_each inodes_total bytes_of files j)))

named_now : (step : NameStep) (story : Story) → disk_now (takes step story) ≡ disk_of (record { names = after_step step (names_now story); contents = each_value bytes_of story.files })
named_now step story = ap (λ (names : Names). disk_of (record { names = names; contents = each_value bytes_of story.files })) (now_after step story)

pub folder_now : (p : Path) (story : Story) → disk_now (takes (MadeFolder p) story) ≡ done (MakeDir p) (disk_now story)
folder_now p story = named_now (MadeFolder p) story ∙ disk_named (names_now story) (each_value bytes_of story.files) p (Some Folder)

pub moved_now : (from to : Path) (story : Story) → disk_now (takes (Moved from to) story) ≡ done (Move from to) (disk_now story)
moved_now from to story = named_now (Moved from to) story ∙ disk_moved (names_now story) (each_value bytes_of story.files) from to

pub dropped_now : (p : Path) (story : Story) → disk_now (takes (Dropped p) story) ≡ set_at (disk_now story) p None
dropped_now p story = named_now (Dropped p) story ∙ disk_named (names_now story) (each_value bytes_of story.files) p None

pub written_now : (p : Path) (i : Inode) (steps : List FileStep) (filed : Filed) (story : Story) → IsSoundStory story → entry_at (names_now story) p ≡ Some (File i) → map.get story.files i ≡ Some filed
    → disk_now (writes i steps story) ≡ set_at (disk_now story) p (Some (file (bytes_after (bytes_now story i) steps)))
written_now p i steps filed story sound at known =
    let new = filed_after steps (map.get story.files i) in
    let bytes : bytes_of new ≡ bytes_after (bytes_now story i) steps =
    ap (λ (o : Option Filed). bytes_of (filed_after steps o)) known ∙ bytes_more filed.lasting steps filed.steps ∙ ap (λ (l : List ℕ). bytes_after l steps) (sym (bytes_known story i filed known)) in
    ap (λ (c : Contents). disk_of (record { names = names_now story; contents = c })) (each_inserted story.files i new)
    ∙ disk_written (names_now story) (each_value bytes_of story.files) i (bytes_of new) p at (λ q is. sound.apart q p i is at)
    ∙ ap (λ (l : List ℕ). set_at (disk_now story) p (Some (file l))) bytes

pub created_now : (p : Path) (i : Inode) (steps : List FileStep) (story : Story) → IsNew story i → disk_now (creates p i steps story) ≡ set_at (disk_now story) p (Some (file (bytes_after [] steps)))
created_now p i steps story new =
    let filed = filed_after steps (map.get story.files i) in
    let c = map.insert (each_value bytes_of story.files) i (bytes_of filed) in
    let bytes : bytes_in c i ≡ bytes_after [] steps = bytes_here (each_value bytes_of story.files) i (bytes_of filed) ∙ ap (λ (o : Option Filed). bytes_of (filed_after steps o)) new.unknown in
    ap (λ (contents : Contents). disk_of (record { names = after_step (MadeFile p i) (names_now story); contents = contents })) (each_inserted story.files i filed)
    ∙ disk_named (names_now story) c p (Some (File i))
    ∙ ap (λ (l : List ℕ). set_at (disk_of (record { names = names_now story; contents = c })) p (Some (file l))) bytes
    ∙ ap (λ (d : Disk). set_at d p (Some (file (bytes_after [] steps)))) (unseen (names_now story) c (each_value bytes_of story.files) (λ q j is.
    bytes_there (each_value bytes_of story.files) i (bytes_of filed) j (λ e. new.unnamed q (is ∙ ap (λ (k : Inode). Some (File k)) e))))

-- a flush changes nothing of it
pub flushed_names : (path : Path) (entry : Option Entry) (story : Story) → names_now (flushes_entry path entry story) ≡ names_now story
flushed_names path None story = refl
flushed_names path (Some Folder) story = same_names story.base (without path) story.naming
flushed_names path (Some (File i)) story = refl

flushed_file : (i : Inode) (filed : Filed) (story : Story) → map.get story.files i ≡ Some filed → disk_now (flushes_file i story) ≡ disk_now story
flushed_file i filed story known =
    let new = settled_file (map.get story.files i) in
    let bytes : bytes_of new ≡ bytes_in (each_value bytes_of story.files) i = ap (λ (o : Option Filed). bytes_of (settled_file o)) known ∙ sym (bytes_known story i filed known) in
    ap (λ (c : Contents). disk_of (record { names = names_now story; contents = c })) (each_inserted story.files i new)
    ∙ unseen (names_now story) (map.insert (each_value bytes_of story.files) i (bytes_of new)) (each_value bytes_of story.files) (λ p j is. by_inode j i
    (λ e. ap (bytes_in (map.insert (each_value bytes_of story.files) i (bytes_of new))) e ∙ bytes_here (each_value bytes_of story.files) i (bytes_of new) ∙ bytes ∙ ap (bytes_in (each_value bytes_of story.files)) (sym e))
    (λ ne. bytes_there (each_value bytes_of story.files) i (bytes_of new) j ne))

pub flushed_disk : (path : Path) (entry : Option Entry) (story : Story) → IsSoundStory story → entry_at (names_now story) path ≡ entry → disk_now (flushes_entry path entry story) ≡ disk_now story
flushed_disk path None story sound at = refl
flushed_disk path (Some Folder) story sound at = ap (λ (names : Names). disk_of (record { names = names; contents = each_value bytes_of story.files })) (flushed_names path (Some Folder) story)
flushed_disk path (Some (File i)) story sound at = let known = sound.known path i at in flushed_file i known.0 story known.1
