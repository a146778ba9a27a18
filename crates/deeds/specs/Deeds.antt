-- Deeds: what they do, which lists of them can be done again, and what a stop may leave of them.
use Rattle.std.specs.Prelude.{◌≡◌, ◌⊎◌, ◌≢◌, ⊤, ℕ, suc, ◌≤◌, List, [], ◌∷◌, ◌++◌, length, take, drop, Bool, true, false, IsTrue, filter, flat_map, Contains, Option, Some, None}
use Rattle.outside.specs.Disk.{Disk, Path, Node, folder, file, node_at, IsFile}
use Rattle.outside.specs.Calls.{Rose}
use Rattle.outside.specs.Images.{Call, Did, Broke, Synced, Log, now, disk_after, IsImage, BreaksInto, LeavesOnly}
use Rattle.deeds.specs.declared.phase.Phase.{Phase}
use Rattle.deeds.specs.declared.phase.Phase.TheVariants as phases
use Rattle.deeds.specs.declared.phase.DeedErr.{DeedErr}
use Rattle.deeds.specs.declared.phase.DeedErr.TheVariants.{Failed, Unfit}
use Rattle.outside.specs.Changes.{MakeDir, Put, Write, SetLen, Move, RemoveFile, RemoveDir, CanDo, MayStand, done, IsPartOf, IsFree, set_at, in_file}
use Rattle.outside.specs.Unsynced.{changes_in, touched}
use Rattle.deeds.specs.Reshape.{Ranges, written, CanWrite, EndWithin, IsRangeOf, IsReshaping}

pub data PlainDeed : Type 0 where
  MakesDir : Path → PlainDeed
  Puts : Path → List ℕ → PlainDeed
  Renames : Path → Path → PlainDeed
  Removes : Path → PlainDeed
  RemovesDir : Path → PlainDeed
  Reshapes : Path → ℕ → Ranges → PlainDeed

-- a file there has no more bytes than these
abbrev pub HoldsNoMore : Path → List ℕ → Disk → Type 0
HoldsNoMore path bytes disk = (old : List ℕ) → node_at disk path ≡ Some (file old) → length old ≤ length bytes

-- a file there is the same, byte for byte
abbrev pub HoldsSame : Path → Path → Disk → Type 0
HoldsSame from to disk = (old : List ℕ) → node_at disk to ≡ Some (file old) → node_at disk from ≡ Some (file old)

-- of two files, if both are there
abbrev pub OfFiles : Path → Path → (List ℕ → List ℕ → Type 0) → Disk → Type 0
OfFiles one other P disk = (a b : List ℕ) → node_at disk one ≡ Some (file a) → node_at disk other ≡ Some (file b) → P a b

-- When it can be done. A longer file, which no stop leaves of a Put, isn't put over; nor is a file moved over another of other bytes, since a stop
-- leaves no other file under the new name.
abbrev pub CanDeed : PlainDeed → Disk → Type 0
CanDeed (MakesDir path) disk = CanDo (MakeDir path) disk
CanDeed (Puts path bytes) disk = CanDo (Put path bytes) disk × HoldsNoMore path bytes disk
CanDeed (Renames from to) disk = CanDo (Move from to) disk × HoldsSame from to disk
CanDeed (Removes path) disk = CanDo (RemoveFile path) disk
CanDeed (RemovesDir path) disk = CanDo (RemoveDir path) disk
CanDeed (Reshapes path len ranges) disk = (was : List ℕ) × (node_at disk path ≡ Some (file was)) × EndWithin len ranges × CanWrite ranges was × (len ≤ length (written ranges was))

-- a file after its ranges are written in order and it is cut
abbrev pub reshaped : ℕ → Ranges → List ℕ → List ℕ
reshaped len ranges was = take len (written ranges was)

-- what it leaves
abbrev pub done_deed : PlainDeed → Disk → Disk
done_deed (MakesDir path) disk = done (MakeDir path) disk
done_deed (Puts path bytes) disk = done (Put path bytes) disk
done_deed (Renames from to) disk = done (Move from to) disk
done_deed (Removes path) disk = done (RemoveFile path) disk
done_deed (RemovesDir path) disk = done (RemoveDir path) disk
done_deed (Reshapes path len ranges) disk = set_at disk path (in_file (reshaped len ranges) (node_at disk path))

-- a part of one of its calls
abbrev pub IsPartOfDeed : PlainDeed → Disk → Disk → Type 0
IsPartOfDeed (MakesDir path) old new = IsPartOf (MakeDir path) old new
IsPartOfDeed (Puts path bytes) old new = IsPartOf (Put path bytes) old new
IsPartOfDeed (Renames from to) old new = IsPartOf (Move from to) old new
IsPartOfDeed (Removes path) old new = IsPartOf (RemoveFile path) old new
IsPartOfDeed (RemovesDir path) old new = IsPartOf (RemoveDir path) old new
IsPartOfDeed (Reshapes path len ranges) old new =
    ((range : ℕ × List ℕ) × IsRangeOf range ranges × EndWithin len ranges × IsPartOf (Write path range.0 range.1) old new) ⊎ IsPartOf (SetLen path len) old new

-- a file was moved already: nothing is where it was, and something is where it goes
abbrev pub IsDoneAlready : PlainDeed → Disk → Type 0
IsDoneAlready (Renames from to) disk = (node_at disk from ≡ None) × (node : Node) × (node_at disk to ≡ Some node)
IsDoneAlready other disk = ⊥

-- the deed can be done, and leaves this
abbrev pub Does : PlainDeed → Disk → Disk → Type 0
Does deed old new = (IsDoneAlready deed old × (new ≡ old)) ⊎ (CanDeed deed old × (new ≡ done_deed deed old))

-- all of them can be done in order, and leave this
abbrev pub DoesAll : List PlainDeed → Disk → Disk → Type 0
DoesAll [] old new = new ≡ old
DoesAll (deed ∷ deeds) old new = (between : Disk) × Does deed old between × DoesAll deeds between new

-- ---- paths that deeds name

abbrev pub names : PlainDeed → List Path
names (MakesDir path) = path ∷ []
names (Puts path bytes) = path ∷ []
names (Renames from to) = from ∷ to ∷ []
names (Removes path) = path ∷ []
names (RemovesDir path) = path ∷ []
names (Reshapes path len ranges) = path ∷ []

-- those of all deeds
abbrev pub named : List PlainDeed → List Path
named deeds = flat_map names deeds

abbrev pub NotIn : Path → List Path → Type 0
NotIn q [] = ⊤
NotIn q (p ∷ ps) = (q ≢ p) × NotIn q ps

abbrev pub NoneIn : List Path → List Path → Type 0
NoneIn [] ps = ⊤
NoneIn (q ∷ qs) ps = NotIn q ps × NoneIn qs ps

-- no deed names the path
abbrev pub Unnamed : Path → List PlainDeed → Type 0
Unnamed q [] = ⊤
Unnamed q (deed ∷ deeds) = NotIn q (names deed) × Unnamed q deeds

-- they name no path of this one's
abbrev pub ApartFrom : PlainDeed → List PlainDeed → Type 0
ApartFrom deed [] = ⊤
ApartFrom deed (other ∷ others) = NoneIn (names deed) (names other) × NoneIn (names other) (names deed) × ApartFrom deed others

-- no path is named by two of them
abbrev pub AreApart : List PlainDeed → Type 0
AreApart [] = ⊤
AreApart (deed ∷ deeds) = ApartFrom deed deeds × AreApart deeds

abbrev pub IsOneOf : PlainDeed → List PlainDeed → Type 0
IsOneOf deed [] = ⊥
IsOneOf deed (other ∷ others) = (deed ≡ other) ⊎ IsOneOf deed others

-- ---- what a stop may leave while they are done on a disk

-- what is at a deed's own paths is what was there, what the deed leaves, or something on the way
abbrev pub OnTheWay : PlainDeed → Disk → Disk → Type 0
OnTheWay (MakesDir path) disk image = (node_at image path ≡ node_at disk path) ⊎ (node_at image path ≡ Some folder)
OnTheWay (Puts path bytes) disk image = (node_at image path ≡ node_at disk path) ⊎ MayStand (Put path bytes) (node_at disk path) (node_at image path)
OnTheWay (Renames from to) disk image =
    ((node_at image from ≡ node_at disk from) × (node_at image to ≡ node_at disk to))
    ⊎ (IsFile disk from × IsFree (node_at disk to) × (node_at image from ≡ None) × (node_at image to ≡ node_at disk from))
OnTheWay (Removes path) disk image = (node_at image path ≡ node_at disk path) ⊎ (node_at image path ≡ None)
OnTheWay (RemovesDir path) disk image = (node_at image path ≡ node_at disk path) ⊎ (node_at image path ≡ None)
OnTheWay (Reshapes path len ranges) disk image =
    (node_at image path ≡ node_at disk path)
    ⊎ ((was : List ℕ) × (now : List ℕ) × (node_at disk path ≡ Some (file was)) × (node_at image path ≡ Some (file now)) × IsReshaping len ranges was now)

abbrev pub AllOnTheWay : List PlainDeed → Disk → Disk → Type 0
AllOnTheWay [] disk image = ⊤
AllOnTheWay (deed ∷ deeds) disk image = OnTheWay deed disk image × AllOnTheWay deeds disk image

-- an image of the deeds' application: each is on the way, and the rest stays
pub record IsAmid (deeds : List PlainDeed) (disk image : Disk) : Type 0 where
  pub each : AllOnTheWay deeds disk image
  pub rest : (q : Path) → Unnamed q deeds → node_at image q ≡ node_at disk q

abbrev pub IsSameDisk : Disk → Disk → Type 0
IsSameDisk a b = (q : Path) → node_at a q ≡ node_at b q

-- alike but at two paths
abbrev pub IsAlikeBut : Path → Path → Disk → Disk → Type 0
IsAlikeBut j n a b = (q : Path) → q ≢ j → q ≢ n → node_at b q ≡ node_at a q

-- each of these is one of those
abbrev pub AllOneOf : List PlainDeed → List PlainDeed → Type 0
AllOneOf some deeds = (deed : PlainDeed) → IsOneOf deed some → IsOneOf deed deeds

-- Whatever batch they are of: if reads and images were amid its application, all that a stop might have left since is, too.
abbrev pub StaysAmid : List PlainDeed → Log → Log → Type 0
StaysAmid some old new =
    (deeds : List PlainDeed) (base : Disk) → AreApart deeds → AllOneOf some deeds
    → IsAmid deeds base (now old) → ((image : Disk) → IsImage old image → IsAmid deeds base image)
    → IsAmid deeds base (now new) × LeavesOnly old new (IsAmid deeds base)

-- ---- a folder's log

-- each of the calls since, after the older ones, was as it can be
abbrev pub AreSound : Disk → List Call → List Call → Type 0
AreSound start older [] = ⊤
AreSound start older (Did change ∷ since) = AreSound start older since × CanDo change (disk_after start (since ++ older))
AreSound start older (Broke change left ∷ since) = AreSound start older since × BreaksInto change (disk_after start (since ++ older)) left
AreSound start older (Synced ∷ since) = AreSound start older since

-- its calls go on from the old ones, change none of them, and were as they can be
pub record LogGoesOn (old new : Log) : Type 0 where
  pub start : new.start ≡ old.start
  pub later : (since : List Call) × (new.calls ≡ since ++ old.calls)
  pub sound : AreSound old.start old.calls later.0

-- they go on so, and the changes since name these paths alone
pub record GoesOnAt (paths : List Path) (old new : Log) : Type 0 where
  pub goes : LogGoesOn old new
  pub only : (path : Path) → Contains (touched (changes_in goes.later.0)) path → Contains paths path

-- the calls that are left of a reshaping can be made, and leave this
abbrev pub IsLeft : Path → ℕ → Ranges → Disk → Disk → Type 0
IsLeft path len [] old new = CanDo (SetLen path len) old × (new ≡ done (SetLen path len) old)
IsLeft path len (range ∷ ranges) old new = CanDo (Write path range.0 range.1) old × IsLeft path len ranges (done (Write path range.0 range.1) old) new

-- ---- phases

-- whether the deed is done in this phase
abbrev pub is_of : Phase → PlainDeed → Bool
is_of phases.Make (MakesDir path) = true
is_of phases.Make (Puts path bytes) = true
is_of phases.Make (Reshapes path len ranges) = true
is_of phases.Make (Renames from to) = false
is_of phases.Make (Removes path) = false
is_of phases.Make (RemovesDir path) = false
is_of phases.Move (MakesDir path) = false
is_of phases.Move (Puts path bytes) = false
is_of phases.Move (Reshapes path len ranges) = false
is_of phases.Move (Renames from to) = true
is_of phases.Move (Removes path) = false
is_of phases.Move (RemovesDir path) = false
is_of phases.Remove (MakesDir path) = false
is_of phases.Remove (Puts path bytes) = false
is_of phases.Remove (Reshapes path len ranges) = false
is_of phases.Remove (Renames from to) = false
is_of phases.Remove (Removes path) = true
is_of phases.Remove (RemovesDir path) = true

abbrev pub of_phase : Phase → List PlainDeed → List PlainDeed
of_phase phase deeds = filter (is_of phase) deeds

-- the order of doing: phase by phase, each in the deeds' own order
abbrev pub in_order : List PlainDeed → List PlainDeed
in_order deeds = of_phase phases.Make deeds ++ of_phase phases.Move deeds ++ of_phase phases.Remove deeds

-- those of the phases before
abbrev pub before_phase : Phase → List PlainDeed → List PlainDeed
before_phase phases.Make deeds = []
before_phase phases.Move deeds = of_phase phases.Make deeds
before_phase phases.Remove deeds = of_phase phases.Make deeds ++ of_phase phases.Move deeds

-- the deed at this index is the first of its phase that can't be done
pub record IsRefusedIn (phase : Phase) (deeds : List PlainDeed) (index : ℕ) (disk : Disk) : Type 0 where
  pub deed : PlainDeed
  pub here : drop index deeds ≡ deed ∷ drop (suc index) deeds
  pub its_phase : IsTrue (is_of phase deed)
  pub between : Disk
  pub before : DoesAll (of_phase phase (take index deeds)) disk between
  pub cannot : (after : Disk) → Does deed between after → ⊥

-- the deed at this index is the first in the order of doing that can't be done
pub record IsRefusedAt (deeds : List PlainDeed) (index : ℕ) (disk : Disk) : Type 0 where
  pub phase : Phase
  pub between : Disk
  pub before : DoesAll (before_phase phase deeds) disk between
  pub refused : IsRefusedIn phase deeds index between

-- a deed was refused: P of the disk if it is told, and else the count rose
abbrev pub IsRefusal : Option Log → ℕ → ℕ → (Disk → Type 0) → Type 0
IsRefusal None before after P = Rose before after
IsRefusal (Some log) before after P = P (now log)

-- P of the index of the deed that was refused
abbrev pub IfUnfit : DeedErr → (ℕ → Type 0) → Type 0
IfUnfit Failed P = ⊤
IfUnfit (Unfit index) P = P index

-- ---- ranges within their length

abbrev pub IsWithin : PlainDeed → Type 0
IsWithin (MakesDir path) = ⊤
IsWithin (Puts path bytes) = ⊤
IsWithin (Renames from to) = ⊤
IsWithin (Removes path) = ⊤
IsWithin (RemovesDir path) = ⊤
IsWithin (Reshapes path len ranges) = EndWithin len ranges

-- each reshaping's ranges end within its length
abbrev pub AreWithin : List PlainDeed → Type 0
AreWithin [] = ⊤
AreWithin (deed ∷ deeds) = IsWithin deed × AreWithin deeds
