-- A batch behind an open gate that its folder may not fit any more: what its deeds are on a disk, and what is left where those that don't fit are left out.
use Rattle.std.specs.Prelude.{◌≡◌, ◌≢◌, ⊤, ℕ, List, [], ◌∷◌, length, take, drop, Some}
use Rattle.outside.specs.Disk.{Disk, Path, file, node_at, kind_at, IsFolder}
use Rattle.outside.specs.declared.folder.Kind.TheVariants.{File}
use Rattle.deeds.specs.Reshape.{Ranges}
use Rattle.outside.specs.Images.{Log, now}
use Rattle.outside.specs.Unsynced.{IsSynced}
use Rattle.deeds.specs.Deeds.{PlainDeed, MakesDir, Puts, Renames, Removes, RemovesDir, Reshapes, Does, in_order}
use Rattle.deeds.specs.Plain.{plain}
use Rattle.chunk_journal.specs.Journal.{journal_file, HoldsBatch, IsClosed}
use Rattle.journal_mending.specs.declared.state.State.{State}
use Rattle.journal_mending.specs.declared.state.State.TheVariants.{Done, Due, Unfit, Changed}
use Rattle.journal_mending.specs.declared.state.DeedState.{DeedState}

-- the deeds of these
abbrev pub deeds_in : List DeedState → List PlainDeed
deeds_in [] = []
deeds_in (s ∷ ss) = plain s.deed ∷ deeds_in ss

-- ---- what is found

abbrev pub IsReshape : PlainDeed → Type 0
IsReshape (MakesDir path) = ⊥
IsReshape (Puts path bytes) = ⊥
IsReshape (Renames from to) = ⊥
IsReshape (Removes path) = ⊥
IsReshape (RemovesDir path) = ⊥
IsReshape (Reshapes path len ranges) = ⊤

-- doing it leaves the disk as it is; it is to be done; it can't be done; or it reshapes a file that was saved anew since
abbrev pub IsStateOn : State → PlainDeed → Disk → Type 0
IsStateOn Done deed disk = Does deed disk disk
IsStateOn Due deed disk = ⊤
IsStateOn Unfit deed disk = (after : Disk) → Does deed disk after → ⊥
IsStateOn Changed deed disk = IsReshape deed

abbrev pub AreStatesOn : List DeedState → Disk → Type 0
AreStatesOn [] disk = ⊤
AreStatesOn (s ∷ ss) disk = IsStateOn s.state (plain s.deed) disk × AreStatesOn ss disk

-- the batch of a disk in the order of doing, and what each of its deeds is on it
pub record IsInspected (states : List DeedState) (disk : Disk) : Type 0 where
  pub deeds : List PlainDeed
  pub held : HoldsBatch disk deeds
  pub order : deeds_in states ≡ in_order deeds
  pub each : AreStatesOn states disk

-- ---- bytes that are there already

-- a file has these bytes from this place on
abbrev pub HasBytes : Disk → Path → ℕ × List ℕ → Type 0
HasBytes disk path range = (was : List ℕ) × (node_at disk path ≡ Some (file was)) × (take (length range.1) (drop range.0 was) ≡ range.1)

abbrev pub HasAllBytes : Disk → Path → Ranges → Type 0
HasAllBytes disk path [] = ⊤
HasAllBytes disk path (r ∷ rs) = HasBytes disk path r × HasAllBytes disk path rs

-- a file has this length, and the bytes of all ranges
pub record IsReshaped (disk : Disk) (path : Path) (len : ℕ) (ranges : Ranges) : Type 0 where
  pub long : kind_at disk path ≡ Some (File len)
  pub bytes : HasAllBytes disk path ranges

-- ---- what is skipped

-- a deed is done, or it can't be and is left out, or it reshapes a file that was saved anew, and is left out
abbrev pub Skips : State → PlainDeed → Disk → Disk → Type 0
Skips Done deed old new = Does deed old new
Skips Due deed old new = ⊥
Skips Unfit deed old new = ((after : Disk) → Does deed old after → ⊥) × (new ≡ old)
Skips Changed deed old new = IsReshape deed × (new ≡ old)

-- deeds in order, each done where it can be and left out where it can't, or mustn't
abbrev pub SkipsAll : List DeedState → Disk → Disk → Type 0
SkipsAll [] old new = new ≡ old
SkipsAll (s ∷ ss) old new = (between : Disk) × Skips s.state (plain s.deed) old between × SkipsAll ss between new

-- the gate is closed, all is on the disk, and nothing but the journal's file is changed
pub record HasClosed (disk : Disk) (new : Log) : Type 0 where
  pub steady : IsSynced new
  pub shut : IsClosed (now new)
  pub rest : (path : Path) → path ≢ journal_file → node_at (now new) path ≡ node_at disk path

-- the batch of a disk was done in order, but for the deeds that are left out, and its gate is closed
pub record HasSkipped (states : List DeedState) (disk : Disk) (new : Log) : Type 0 where
  pub deeds : List PlainDeed
  pub held : HoldsBatch disk deeds
  pub order : deeds_in states ≡ in_order deeds
  pub between : Disk
  pub skips : SkipsAll states disk between
  pub closed : HasClosed between new

-- no gate is open, and nothing is changed
pub record HasNone (disk : Disk) (new : Log) : Type 0 where
  pub shut : IsClosed disk
  pub same : now new ≡ disk

-- what is left of a batch has a folder where the journal's file has to be
pub record SkipsToFolder (disk : Disk) (at : ℕ) : Type 0 where
  pub states : List DeedState
  pub deeds : List PlainDeed
  pub held : HoldsBatch disk deeds
  pub order : deeds_in states ≡ in_order deeds
  pub between : Disk
  pub skips : SkipsAll states disk between
  pub folder : IsFolder between journal_file
  pub place : at ≡ 0

-- ---- deeds that are done wholly or not at all

-- all but a reshaping, of which the first writes may be done before it is refused
abbrev pub IsWhole : PlainDeed → Type 0
IsWhole (MakesDir path) = ⊤
IsWhole (Puts path bytes) = ⊤
IsWhole (Renames from to) = ⊤
IsWhole (Removes path) = ⊤
IsWhole (RemovesDir path) = ⊤
IsWhole (Reshapes path len ranges) = ⊥
