-- A new node before its commit: where it is to be, and what its deeds lead to.
use Rattle.std.specs.Prelude.{◌≡◌, ◌≢◌, ◌<◌, ◌^◌, ℕ, List, length, ◌++◌, Bool, true, false, Option, Some, None, IsTrue, if◌then◌else◌}
use Rattle.vault_path.specs.Parts.{is_path}
use Rattle.outside.specs.Disk.{Disk}
use Rattle.outside.specs.Calls.{Changes, Told}
use Rattle.deeds.specs.Deeds.{PlainDeed}
use Rattle.vault_keys.specs.Keys.{KeyPair}
use Rattle.file_chunks.specs.Header.{Head, header_opens, sealed_header}
use Rattle.tree_model.specs.declared.refusal.Refusal.{Refusal}
use Rattle.tree_model.specs.declared.refusal.Refusal.TheVariants as refusals
use Rattle.tree_model.specs.declared.stat.Qid.{Qid}
use Rattle.tree_model.specs.Names.{IsClearName}
use Rattle.tree_model.specs.Rows.{Content}
use Rattle.tree_model.specs.Asked.{PlainRequest, create}
use Rattle.tree_model.specs.Step.{Answer, refuses, step, is_full}
use Rattle.vault_names.specs.declared.name.BadName.{BadName}
use Rattle.vault_names.specs.declared.name.BadName.TheVariants.{NotUtf8, Empty, Dots, Forbidden, TooLong, Memory}
use Rattle.clear_tree.specs.Walk.{Sealing}
use Rattle.clear_tree.specs.Places.{host_folder}
use Rattle.clear_tree.specs.Kept.{KeptDir}
use Rattle.tree_loading.specs.Format.{sealing_of}
use Rattle.live_tree.specs.Held.{HeldNode, HeldTree, node_of, live_rows, IsFree}
use Rattle.name_places.specs.declared.directory.NewDirectory.{NewDirectory}
use Rattle.name_places.specs.New.{IsNewPlace, IsNewDirectory}
use Rattle.name_places.specs.Asked.{IsTaken}
use Rattle.node_changes.specs.declared.site.Site.{Site}
use Rattle.node_changes.specs.Changed.{StandsOn, MakesStep, IsStepAnswer, MayRefuse}
use Rattle.node_changes.specs.Placed.{taken_for, IsIdentifierOf}
use Rattle.node_changes.specs.Creation.{IsDraw, IsFoundTaken, MakesDrawn}

-- ---- where it is to be

-- A new node can be there in the directory of a number: its name is free, the tree has room for it, and its place is that of its name.
pub record IsSite (s : Sealing) (live : HeldTree) (parent : ℕ) (site : Site) : Type 0 where
  pub held : HeldNode
  pub there : node_of live parent ≡ Some held
  pub identifier : List ℕ
  pub dir : held.kept.what ≡ KeptDir identifier site.folder
  pub path : IsTrue (is_path (host_folder site.folder))
  pub clear : IsClearName site.name
  pub free : IsFree live parent site.name
  pub room : (contents : ℕ → Content) → is_full (live_rows contents live) ≡ false
  pub threshold : ℕ
  pub place : IsNewPlace s identifier site.name threshold site.place
  pub short : length site.place.text < 2 ^ 32

-- Why a node can't be made, before anything is drawn and the folder is read, so that no place is found taken: as the step refuses it, or for
-- lack of memory if the number has a node.
abbrev pub IsSiteRefusal : HeldTree → ℕ → List ℕ → Refusal → Type 0
IsSiteRefusal live parent name refusals.OutOfMemory =
    (contents : ℕ → Content) (is_dir : Bool) (mode second : ℕ) → (step (live_rows contents live) (create parent name is_dir mode) second).answer ≢ refuses refusals.Removed
IsSiteRefusal live parent name (refusals.PlaceTaken path) = ⊥
IsSiteRefusal live parent name refusal =
    (contents : ℕ → Content) (is_dir : Bool) (mode second : ℕ) → (step (live_rows contents live) (create parent name is_dir mode) second).answer ≡ refuses refusal

-- what refuses bytes that are no clear name
abbrev pub name_fault_refusal : BadName → Refusal
name_fault_refusal NotUtf8 = refusals.BadName
name_fault_refusal Empty = refusals.BadName
name_fault_refusal Dots = refusals.BadName
name_fault_refusal Forbidden = refusals.BadName
name_fault_refusal (TooLong n) = refusals.NameTooLong
name_fault_refusal Memory = refusals.OutOfMemory

-- Why a node can't be at its site, given what says that the folder failed: it failed, or a path that the node needs is taken.
abbrev pub IsPlaceRefusal : Site → Option NewDirectory → HeldTree → List (List ℕ × ℕ) → Option Disk → Type 0 → Refusal → Type 0
IsPlaceRefusal site drawn live claims disk failed refusals.DeviceFault = failed
IsPlaceRefusal site drawn live claims disk failed (refusals.PlaceTaken path) = Told disk (IsTaken site.folder site.place drawn live claims (Some path))
IsPlaceRefusal site drawn live claims disk failed refusal = ⊥

-- ---- what is drawn

-- a directory by 16 bytes that were drawn
pub record DrawsDirectory (keys : KeyPair) (directory : NewDirectory) (drew drew' : Option (List ℕ)) : Type 0 where
  pub bytes : List ℕ
  pub sixteen : length bytes ≡ 16
  pub drawn : Changes drew drew' (λ old new. new ≡ old ++ bytes)
  pub is : IsNewDirectory (sealing_of keys) bytes directory
  pub first : Changes drew drew' (IsIdentifierOf directory.identifier)

-- if a directory is made, and else nothing
abbrev pub DrawsIf : KeyPair → Bool → Option NewDirectory → Option (List ℕ) → Option (List ℕ) → Type 0
DrawsIf keys is_dir None drew drew' = (is_dir ≡ false) × (drew' ≡ drew)
DrawsIf keys is_dir (Some directory) drew drew' = (is_dir ≡ true) × DrawsDirectory keys directory drew drew'

-- the header of a nonce and a content key that were drawn
pub record DrawsHead (keys : KeyPair) (drew drew' : Option (List ℕ)) (header : List ℕ) : Type 0 where
  pub head : Head
  pub nonce : length head.nonce ≡ 12
  pub key : length head.key ≡ 32
  pub is : header ≡ sealed_header keys head
  pub opens : header_opens keys header ≡ Some head
  pub drawn : Changes drew drew' (λ old new. new ≡ old ++ head.nonce ++ head.key)

-- ---- what it comes to

-- the qid of the next node
abbrev pub new_qid : HeldTree → Bool → Qid
new_qid live is_dir = record { kind = if is_dir then 0x80 else 0; version = 0; path = live.next }

-- On whatever disk the tree in memory stands for, if no place of the node is taken, the deeds lead to the tree with it, with the step's
-- answer.
abbrev pub MakesOn : Sealing → PlainRequest → ℕ → Answer → Option (List ℕ) → HeldTree → HeldTree → List (List ℕ × ℕ) → List (List ℕ × ℕ) → List PlainDeed → Type 0
MakesOn s request second answer drawn live live' claims claims' deeds = (d : Disk) (contents : ℕ → Content) → StandsOn s d live claims contents
    → taken_for s d live request drawn ≡ None → MakesStep s request second deeds d live live' claims claims' × IsStepAnswer s request second answer d live claims

-- no place is taken on the disk, if the tree in memory stands for it
abbrev pub IsUntaken : Sealing → PlainRequest → Option (List ℕ) → HeldTree → List (List ℕ × ℕ) → Disk → Type 0
IsUntaken s request drawn live claims d = (contents : ℕ → Content) → StandsOn s d live claims contents → taken_for s d live request drawn ≡ None

-- The deeds can be committed: nothing that the node needs is taken on the disk that reads give.
pub record IsReady (keys : KeyPair) (request : PlainRequest) (is_dir : Bool) (second : ℕ) (answer : Answer) (live live' : HeldTree) (claims claims' : List (List ℕ × ℕ)) (drew drew' : Option (List ℕ)) (disk : Option Disk) (deeds : List PlainDeed) : Type 0 where
  pub drawn : Option (List ℕ)
  pub draw : IsDraw is_dir drawn drew drew'
  pub makes : MakesOn (sealing_of keys) request second answer drawn live live' claims claims' deeds
  pub untaken : Told disk (IsUntaken (sealing_of keys) request drawn live claims)
  pub made_of : MakesDrawn keys deeds drawn drew drew'

-- the refusal is one that the disk that reads give allows, if the tree in memory stands for it
abbrev pub IsRefusal : Sealing → PlainRequest → ℕ → Option (List ℕ) → Refusal → HeldTree → List (List ℕ × ℕ) → Disk → Type 0
IsRefusal s request second drawn refusal live claims d =
    (contents : ℕ → Content) → StandsOn s d live claims contents → MayRefuse s request second (taken_for s d live request drawn) refusal d live claims

pub record HasRefused (keys : KeyPair) (request : PlainRequest) (is_dir : Bool) (second : ℕ) (live : HeldTree) (claims : List (List ℕ × ℕ)) (drew drew' : Option (List ℕ)) (disk : Option Disk) (refusal : Refusal) : Type 0 where
  pub drawn : Option (List ℕ)
  pub draw : IsDraw is_dir drawn drew drew'
  pub refused : Told disk (IsRefusal (sealing_of keys) request second drawn refusal live claims)
  pub found : IsFoundTaken is_dir drew drew' refusal
