-- Which change doesn't fit what was found at a path.
use Rattle.std.proofs.Common.{◌≡◌, ◌≢◌, ◌⊎◌, ◌<◌, ◌≤◌, ℕ, List, [], length, Option, Some, None, IsNone, refl, ap, subst, inl, inr, arith, true≢false}
use Rattle.outside.specs.Disk.{Path, Node, folder, file, node_at, IsFolder, IsFile, IsTree}
use Rattle.outside.specs.Changes.{MakeDir, Put, Write, SetLen, Move, RemoveFile, RemoveDir, CanDo, IsFree}
use Rattle.host_calls.specs.declared.found.Inode.{Inode}
use Rattle.host_calls.specs.declared.found.Found.{Found}
use Rattle.host_calls.specs.declared.found.Found.TheVariants.{Nothing, Dir, File, Other}
use Rattle.host_calls.specs.Story.{Story, volume_now, disk_now, bytes_now}
use Rattle.host_calls.specs.Calls.{IsFound}
use Rattle.host_calls.proofs.Volumes.{folder_in, file_in, none_in}

-- ---- at most one of these is at a path

file_or_folder : (o : Option Node) (bytes : List ℕ) → o ≡ Some (file bytes) → o ≡ Some folder → ⊥
file_or_folder o bytes f d = cc

file_or_none : (o : Option Node) (bytes : List ℕ) → o ≡ Some (file bytes) → o ≡ None → ⊥
file_or_none o bytes f n = cc

folder_or_none : (o : Option Node) → o ≡ Some folder → o ≡ None → ⊥
folder_or_none o d n = cc

file_or_no_node : (o : Option Node) (bytes : List ℕ) → o ≡ Some (file bytes) → IsNone o → ⊥
file_or_no_node o bytes f n = true≢false (subst IsNone f n)

folder_or_no_node : (o : Option Node) → o ≡ Some folder → IsNone o → ⊥
folder_or_no_node o d n = true≢false (subst IsNone d n)

one_file : (o : Option Node) (a b : List ℕ) → o ≡ Some (file a) → o ≡ Some (file b) → a ≡ b
one_file o a b f g = cc

-- ---- a folder that is made

pub no_make_dir : (found : Found) (p : Path) (s : Story) → found ≢ Nothing → ((i : Inode) → found ≢ Dir i) → IsFound found s p → CanDo (MakeDir p) (disk_now s) → ⊥
no_make_dir Nothing p s no_name no_folder at can = no_name refl
no_make_dir (Dir i) p s no_name no_folder at can = no_folder i refl
no_make_dir (File i n) p s no_name no_folder at can = either can.free
  where
    is : node_at (disk_now s) p ≡ Some (file (bytes_now s i))
    is = file_in (volume_now s) p i at.0

    either : IsNone (node_at (disk_now s) p) ⊎ IsFolder (disk_now s) p → ⊥
    either (inl none) = file_or_no_node (node_at (disk_now s) p) (bytes_now s i) is none
    either (inr d) = file_or_folder (node_at (disk_now s) p) (bytes_now s i) is d
no_make_dir Other p s no_name no_folder at can = at

-- ---- a file's bytes

pub no_put : (found : Found) (p : Path) (bytes : List ℕ) (s : Story) → found ≢ Nothing → ((i : Inode) (n : ℕ) → found ≢ File i n) → IsFound found s p → CanDo (Put p bytes) (disk_now s) → ⊥
no_put Nothing p bytes s no_name no_file at can = no_name refl
no_put (Dir i) p bytes s no_name no_file at can = either can.free
  where
    is : IsFolder (disk_now s) p
    is = folder_in (volume_now s) p at

    either : IsNone (node_at (disk_now s) p) ⊎ IsFile (disk_now s) p → ⊥
    either (inl none) = folder_or_no_node (node_at (disk_now s) p) is none
    either (inr f) = file_or_folder (node_at (disk_now s) p) f.0 f.1 is
no_put (File i n) p bytes s no_name no_file at can = no_file i n refl
no_put Other p bytes s no_name no_file at can = at

-- no file of so many bytes is there
no_file_of : (found : Found) (p : Path) (least : ℕ) (s : Story) → ((i : Inode) (n : ℕ) → found ≡ File i n → n < least) → IsFound found s p
    → (old : List ℕ) → node_at (disk_now s) p ≡ Some (file old) → least ≤ length old → ⊥
no_file_of Nothing p least s short at old is long = file_or_none (node_at (disk_now s) p) old is (none_in (volume_now s) p at)
no_file_of (Dir i) p least s short at old is long = file_or_folder (node_at (disk_now s) p) old is (folder_in (volume_now s) p at)
no_file_of (File i n) p least s short at old is long =
    let below : n < least = short i n refl in
    let size : n ≡ length (bytes_now s i) = at.1 in
    let same : length old ≡ length (bytes_now s i) = ap length (one_file (node_at (disk_now s) p) old (bytes_now s i) is (file_in (volume_now s) p i at.0)) in
    absurd (omega arith)
no_file_of Other p least s short at old is long = at

-- the file that is there is shorter
pub short_of : (found : Found) (inode : Inode) (size least : ℕ) → found ≡ File inode size → size < least → (i : Inode) (n : ℕ) → found ≡ File i n → n < least
short_of found inode size least is short i n also = let same : size ≡ n = cc in omega arith

pub no_write : (found : Found) (p : Path) (at : ℕ) (bytes : List ℕ) (s : Story) → ((i : Inode) (n : ℕ) → found ≡ File i n → n < at) → IsFound found s p → CanDo (Write p at bytes) (disk_now s) → ⊥
no_write found p at bytes s short there can = no_file_of found p at s short there can.0 can.1 can.2

pub no_cut : (found : Found) (p : Path) (n : ℕ) (s : Story) → ((i : Inode) (m : ℕ) → found ≡ File i m → m < n) → IsFound found s p → CanDo (SetLen p n) (disk_now s) → ⊥
no_cut found p n s short there can = no_file_of found p n s short there can.0 can.1 can.2

-- ---- a file that is moved or removed

no_free : (found : Found) (p : Path) (s : Story) → found ≢ Nothing → ((i : Inode) (n : ℕ) → found ≢ File i n) → IsFound found s p → IsFree (node_at (disk_now s) p) → ⊥
no_free Nothing p s no_name no_file at free = no_name refl
no_free (Dir i) p s no_name no_file at (inl none) = folder_or_none (node_at (disk_now s) p) (folder_in (volume_now s) p at) none
no_free (Dir i) p s no_name no_file at (inr f) = file_or_folder (node_at (disk_now s) p) f.0 f.1 (folder_in (volume_now s) p at)
no_free (File i n) p s no_name no_file at free = no_file i n refl
no_free Other p s no_name no_file at free = at

pub no_move_to : (found : Found) (from to : Path) (s : Story) → found ≢ Nothing → ((i : Inode) (n : ℕ) → found ≢ File i n) → IsFound found s to → CanDo (Move from to) (disk_now s) → ⊥
no_move_to found from to s no_name no_file at can = no_free found to s no_name no_file at can.free

pub no_move_from : (found : Found) (from to : Path) (s : Story) → ((i : Inode) (n : ℕ) → found ≢ File i n) → IsFound found s from → CanDo (Move from to) (disk_now s) → ⊥
no_move_from Nothing from to s no_file at can = file_or_none (node_at (disk_now s) from) can.there.0 can.there.1 (none_in (volume_now s) from at)
no_move_from (Dir i) from to s no_file at can = file_or_folder (node_at (disk_now s) from) can.there.0 can.there.1 (folder_in (volume_now s) from at)
no_move_from (File i n) from to s no_file at can = no_file i n refl
no_move_from Other from to s no_file at can = at

pub no_remove_file : (found : Found) (p : Path) (s : Story) → found ≢ Nothing → ((i : Inode) (n : ℕ) → found ≢ File i n) → IsFound found s p → CanDo (RemoveFile p) (disk_now s) → ⊥
no_remove_file found p s no_name no_file at can = no_free found p s no_name no_file at can

-- ---- a folder that is removed

-- the folder of all stays
pub no_remove_top : (s : Story) → IsTree (disk_now s) → CanDo (RemoveDir []) (disk_now s) → ⊥
no_remove_top s tree (inl none) = folder_or_none (node_at (disk_now s) []) tree.top none
no_remove_top s tree (inr bare) = bare.below refl

pub no_remove_dir : (found : Found) (p : Path) (s : Story) → found ≢ Nothing → ((i : Inode) → found ≢ Dir i) → IsFound found s p → CanDo (RemoveDir p) (disk_now s) → ⊥
no_remove_dir Nothing p s no_name no_folder at can = no_name refl
no_remove_dir (Dir i) p s no_name no_folder at can = no_folder i refl
no_remove_dir (File i n) p s no_name no_folder at (inl none) = file_or_none (node_at (disk_now s) p) (bytes_now s i) (file_in (volume_now s) p i at.0) none
no_remove_dir (File i n) p s no_name no_folder at (inr bare) = file_or_folder (node_at (disk_now s) p) (bytes_now s i) (file_in (volume_now s) p i at.0) bare.there
no_remove_dir Other p s no_name no_folder at can = at
