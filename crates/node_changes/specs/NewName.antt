-- A name that a node is to be given: where the node is with it, and what its deeds lead to.
use Rattle.std.specs.Prelude.{◌≡◌, ◌≢◌, ◌⊎◌, ◌<◌, ◌^◌, ℕ, List, length, false, Option, Some, None, unwrap_or, IsTrue}
use Rattle.vault_path.specs.Parts.{is_part, is_path}
use Rattle.outside.specs.Disk.{Disk}
use Rattle.outside.specs.Calls.{Told}
use Rattle.deeds.specs.Deeds.{PlainDeed, DoesAll, in_order}
use Rattle.tree_model.specs.declared.refusal.Refusal.{Refusal}
use Rattle.tree_model.specs.declared.refusal.Refusal.TheVariants as refusals
use Rattle.tree_model.specs.Names.{IsClearName}
use Rattle.tree_model.specs.Rows.{Content, Row, root, row_of}
use Rattle.tree_model.specs.Asked.{PlainChange, change, done}
use Rattle.tree_model.specs.Step.{says, refuses, step, set_row, change_dir}
use Rattle.clear_tree.specs.Walk.{Sealing}
use Rattle.clear_tree.specs.Places.{host_folder}
use Rattle.clear_tree.specs.Kept.{KeptDir, KeptBad}
use Rattle.tree_deed_laws.specs.Deeds.{Place, rename_deeds}
use Rattle.live_tree.specs.Held.{HeldNode, HeldTree, node_of, live_rows, IsFree}
use Rattle.live_tree.specs.Changes.{dated, renamed, wrapped}
use Rattle.name_places.specs.New.{IsNewPlace}
use Rattle.name_places.specs.Asked.{IsTaken}
use Rattle.node_changes.specs.declared.renaming.NewName.{NewName}
use Rattle.node_changes.specs.Changed.{StandsOn, MakesStep, IsStepAnswer, MayRefuse}
use Rattle.node_changes.specs.Placed.{taken_for}
use Rattle.node_changes.specs.Removal.{IsDirectoryAbove, place_in}
use Rattle.node_changes.specs.Renaming.{IsRenamingIn, IsRenaming}

-- ---- where the node is with it

-- the node of a number is below the root, and no Bad node
pub record IsNameable (live : HeldTree) (number : ℕ) (held : HeldNode) : Type 0 where
  pub there : node_of live number ≡ Some held
  pub below : number ≢ root
  pub good : (t : List ℕ) → held.kept.what ≢ KeptBad t

-- The node of a number can have the name: nothing keeps it where it is, the name is free in its directory, and the place is that of the name
-- there.
pub record IsNewName (s : Sealing) (live : HeldTree) (number : ℕ) (new : NewName) : Type 0 where
  pub held : HeldNode
  pub node : IsNameable live number held
  pub clean : held.kept.shadowed ≡ false
  pub once : (i f : List ℕ) → held.kept.what ≡ KeptDir i f → live.twice ≡ false
  pub identifier : List ℕ
  pub above : IsDirectoryAbove live held identifier new.folder
  pub path : IsTrue (is_path (host_folder new.folder))
  pub clear : IsClearName new.name
  pub free : IsFree live held.kept.parent new.name
  pub threshold : ℕ
  pub place : IsNewPlace s identifier new.name threshold new.place
  pub short : length new.place.text < 2 ^ 32

-- where the node is then
abbrev pub place_with : NewName → Place
place_with new = record { folder = new.folder; entry = new.place.entry; long = new.place.long }

-- ---- refusals

abbrev pub IsRefusedAs : HeldTree → ℕ → List ℕ → Refusal → Type 0
IsRefusedAs live number name refusal =
    (contents : ℕ → Content) (c : PlainChange) (modified : Option ℕ) (second : ℕ) → IsRenamingIn live number name modified c contents
    → (step (live_rows contents live) (change number c) second).answer ≡ refuses refusal

-- Why a node can't be given a name, before the folder is read: as the step refuses it, or for lack of memory if the number has a node.
abbrev pub IsNameRefusal : HeldTree → ℕ → List ℕ → Refusal → Type 0
IsNameRefusal live number name refusals.Removed = IsRefusedAs live number name refusals.Removed
IsNameRefusal live number name refusals.NotPermitted = IsRefusedAs live number name refusals.NotPermitted
IsNameRefusal live number name refusals.Damaged = IsRefusedAs live number name refusals.Damaged
IsNameRefusal live number name refusals.FileExists = IsRefusedAs live number name refusals.FileExists
IsNameRefusal live number name refusals.Foreign = IsRefusedAs live number name refusals.Foreign
IsNameRefusal live number name refusals.OutOfMemory =
    (contents : ℕ → Content) (c : PlainChange) (modified : Option ℕ) (second : ℕ) → IsRenamingIn live number name modified c contents
    → (step (live_rows contents live) (change number c) second).answer ≢ refuses refusals.Removed
IsNameRefusal live number name refusal = ⊥

-- Why a node can't be at a new place, given what says that the folder failed: it failed, or the place is taken.
abbrev pub IsPlaceRefusal : NewName → HeldTree → List (List ℕ × ℕ) → Option Disk → Type 0 → Refusal → Type 0
IsPlaceRefusal new live claims disk failed refusals.DeviceFault = failed
IsPlaceRefusal new live claims disk failed (refusals.PlaceTaken path) = Told disk (IsTaken new.folder new.place None live claims (Some path))
IsPlaceRefusal new live claims disk failed refusal = ⊥

-- No disk has such a node if nothing is at the new place: no host path can be made of its entry, or that is the new entry.
pub record IsStuck (live : HeldTree) (number : ℕ) (new : NewName) : Type 0 where
  pub held : HeldNode
  pub there : node_of live number ≡ Some held
  pub amiss : (IsTrue (is_part held.kept.entry) → ⊥) ⊎ (held.kept.entry ≡ new.place.entry)

-- what the disk allows, if the tree in memory stands for it and the step is asked for the name
abbrev pub IsRenameRefusal : Sealing → ℕ → List ℕ → Option ℕ → ℕ → Refusal → HeldTree → List (List ℕ × ℕ) → Disk → Type 0
IsRenameRefusal s number name modified second refusal live claims d =
    (c : PlainChange) (contents : ℕ → Content) → IsRenaming s live claims number name modified c → StandsOn s d live claims contents
    → MayRefuse s (change number c) second (taken_for s d live (change number c) None) refusal d live claims

-- ---- what it comes to

-- the deeds that bring the node of a number to its new place
pub record AreNaming (live : HeldTree) (number : ℕ) (new : NewName) (deeds : List PlainDeed) : Type 0 where
  pub held : HeldNode
  pub there : node_of live number ≡ Some held
  pub are : deeds ≡ rename_deeds (place_in new.folder held) (place_with new) new.place.text held.kept.what

-- a tree with an mtime of a node set, if one is asked for
abbrev pub dated_if : HeldTree → ℕ → Option ℕ → HeldTree
dated_if live number None = live
dated_if live number (Some modified) = dated live number modified

-- the tree in memory in which the node has the name, and the mtime that is asked for
abbrev pub IsNamedTree : HeldTree → HeldTree → ℕ → NewName → Option ℕ → ℕ → Type 0
IsNamedTree live live' number new modified second =
    (held : HeldNode) → node_of live number ≡ Some held
    → live' ≡ dated_if (renamed live number held.kept.parent new.name new.place.entry new.place.long second) number modified

-- and its rows
abbrev pub RowsAreNamed : HeldTree → HeldTree → ℕ → List ℕ → Option ℕ → ℕ → Type 0
RowsAreNamed live live' number name modified second =
    (contents : ℕ → Content) (row : Row) → row_of (live_rows contents live) number ≡ Some row
    → wrapped (live_rows contents live') ≡ wrapped (set_row (change_dir (live_rows contents live) row.parent second) (record row { name = name; modified = unwrap_or modified row.modified }))

-- The deeds make the step of a change that gives the name, at a place that isn't taken.
pub record GivesName (s : Sealing) (number : ℕ) (c : PlainChange) (second : ℕ) (live live' : HeldTree) (claims claims' : List (List ℕ × ℕ)) (deeds : List PlainDeed) (d : Disk) : Type 0 where
  pub makes : MakesStep s (change number c) second deeds d live live' claims claims'
  pub answer_is : IsStepAnswer s (change number c) second (says done) d live claims
  pub untaken : taken_for s d live (change number c) None ≡ None

-- The deeds can be done on a disk, and make the step of each change that gives the name.
pub record CanBeGiven (s : Sealing) (number : ℕ) (name : List ℕ) (modified : Option ℕ) (second : ℕ) (live live' : HeldTree) (claims claims' : List (List ℕ × ℕ)) (deeds : List PlainDeed) (d : Disk) : Type 0 where
  pub after : Disk
  pub does : DoesAll (in_order deeds) d after
  pub gives : (c : PlainChange) → IsRenaming s live claims number name modified c → GivesName s number c second live live' claims claims' deeds d

-- the same of a disk that the tree in memory stands for
abbrev pub RenamesOn : Sealing → ℕ → List ℕ → Option ℕ → ℕ → HeldTree → HeldTree → List (List ℕ × ℕ) → List (List ℕ × ℕ) → List PlainDeed → Disk → Type 0
RenamesOn s number name modified second live live' claims claims' deeds d =
    (contents : ℕ → Content) → StandsOn s d live claims contents → CanBeGiven s number name modified second live live' claims claims' deeds d
