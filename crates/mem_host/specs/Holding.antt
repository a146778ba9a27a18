-- What a host in memory holds.
use Rattle.std.specs.Prelude.{◌≡◌, ◌<◌, ◌==◌, ℕ, false, List, [], ◌∷◌, length, Option, Some, IsSome, Result, IsErrOf, if◌then◌else◌, refl}
use Rattle.std.specs.Coded.{Coded, code_by, coded_list, coded×, coded_ℕ}
use Rattle.std.specs.FinMap as map
use Rattle.outside.specs.declared.folder.FolderErr.{FolderErr}
use Rattle.outside.specs.declared.folder.FolderErr.TheVariants.{Failed, Memory}
use Rattle.outside.specs.Disk.{Path, IsTree}
use Rattle.host_calls.specs.declared.found.Inode.{Inode}
use Rattle.host_calls.specs.Volume.{Names, File, entry_at, disk_of}
use Rattle.host_calls.specs.Names.{NameStep, MadeFile, Pending}
use Rattle.host_calls.specs.Story.{Story, Files, IsSoundStory, AreApart, disk_now, restarted}
use Rattle.mem_host.specs.declared.plan.Fault.{Fault}
use Rattle.mem_host.specs.declared.plan.Extent.{Extent}
use Rattle.mem_host.specs.declared.plan.Extent.TheVariants.{Nothing, Half, All}
use Rattle.mem_host.specs.Plan.{Plan}
use Rattle.mem_host.specs.Codes.{coded_names, coded_pending, coded_story, coded_files}
use Rattle.mem_host.specs.Filing.{Filing, IsFiling, IsBelow, disk_held}
use Rattle.mem_host.specs.Cuts.{AreSettled}

-- names: those that the steps began with, and the steps, the newest first
pub record Naming : Type 0 where
  pub base : Names
  pub steps : List Pending

-- the text of the folder's own path, what was done to the folder, and which calls shall fail
pub record Holding : Type 0 where
  pub top : List ℕ
  pub story : Story
  pub plan : Plan

-- A call that changes something, of which so much is to fail, and what the plan is after it: it fails if it is to, and changes nothing if nothing
-- of it is to be done. It never lacks memory, and the folder keeps its text.
abbrev pub IsPlanned : {T : Type 0} → Option Extent → Plan → Result T FolderErr → Holding → Holding → Type 0
IsPlanned fault plan r old new =
    (IsErrOf r Memory → ⊥) × (new.top ≡ old.top) × (IsSome fault → IsErrOf r Failed) × (fault ≡ Some Nothing → new.story ≡ old.story) × (new.plan ≡ plan)

-- ---- what holds of it

-- a file that a step makes
abbrev pub IsMadeBelow : ℕ → NameStep → Type 0
IsMadeBelow count (MadeFile path inode) = IsBelow count inode
IsMadeBelow count other = Unit {0}

-- the number of the file that a step makes, or the count
abbrev pub number_before : ℕ → NameStep → ℕ
number_before count (MadeFile path inode) = inode.ino
number_before count other = count

-- each file that has a name, or had one, is one of the first so many, and each step that makes one makes a later one than all before
abbrev pub AreBelow : ℕ → Names → List Pending → Type 0
AreBelow count base [] = (path : Path) (inode : Inode) → entry_at base path ≡ Some (File inode) → IsBelow count inode
AreBelow count base (last ∷ older) = IsMadeBelow count last.step × AreBelow (number_before count last.step) base older

-- the folder has a text, its story is sound, reads give a tree, and so do the names that its steps began with
pub record IsHolding (text : List ℕ) (filing : Filing) (story : Story) : Type 0 where
  pub named : 0 < length text
  pub files : IsFiling filing
  pub sound : IsSoundStory story
  pub tree : IsTree (disk_now story)
  pub below : AreBelow filing.count story.base story.naming
  pub apart : AreApart story.base
  pub start : IsTree (disk_of (record { names = story.base; contents = map.empty }))

-- ---- how a host begins

-- what it holds is on the disk
pub record IsSettled (story : Story) : Type 0 where
  pub names : story.naming ≡ []
  pub bytes : AreSettled story.files
  pub sure : story.doubt ≡ false

-- nothing was done yet
pub record IsBegun (story : Story) : Type 0 where
  pub sound : IsSoundStory story
  pub tree : IsTree (disk_now story)
  pub diary : story.diary ≡ record { start = disk_now story; calls = [] }
  pub noted : story.unnoted ≡ false

-- names and files that a disk may hold
pub record CanHold (names : Names) (filing : Filing) : Type 0 where
  pub files : IsFiling filing
  pub settled : AreSettled filing.held
  pub below : AreBelow filing.count names []
  pub apart : AreApart names
  pub tree : IsTree (disk_held names filing)

-- a step that makes no file
abbrev pub IsNameStep : NameStep → Type 0
IsNameStep (MadeFile path inode) = ⊥
IsNameStep other = Unit {0}

-- ---- how models store it

abbrev pub coded_naming : Coded Naming
coded_naming = code_by (Names × List Pending) (coded× coded_names (coded_list coded_pending)) (λ n. (n.base, n.steps)) (λ t. record { base = t.0; steps = t.1 }) (λ _. refl)

abbrev pub coded_filing : Coded Filing
coded_filing = code_by (ℕ × Files) (coded× coded_ℕ coded_files) (λ f. (f.count, f.held)) (λ t. record { count = t.0; held = t.1 }) (λ _. refl)

abbrev pub extent_number : Extent → ℕ
extent_number Nothing = 0
extent_number Half = 1
extent_number All = 2

abbrev pub extent_at : ℕ → Extent
extent_at n = if n == 0 then Nothing else if n == 1 then Half else All

pub extent_at_number : (extent : Extent) → extent_at (extent_number extent) ≡ extent
extent_at_number Nothing = refl
extent_at_number Half = refl
extent_at_number All = refl

abbrev pub coded_extent : Coded Extent
coded_extent = code_by ℕ coded_ℕ extent_number extent_at extent_at_number

abbrev pub coded_fault : Coded Fault
coded_fault = code_by (ℕ × Extent) (coded× coded_ℕ coded_extent) (λ f. (f.call, f.done)) (λ t. record { call = t.0; done = t.1 }) (λ _. refl)

abbrev pub coded_plan : Coded Plan
coded_plan = code_by (ℕ × List Fault) (coded× coded_ℕ (coded_list coded_fault)) (λ p. (p.calls, p.faults)) (λ t. record { calls = t.0; faults = t.1 }) (λ _. refl)

abbrev pub coded_holding : Coded Holding
coded_holding =
    code_by (List ℕ × (Story × Plan)) (coded× (coded_list coded_ℕ) (coded× coded_story coded_plan))
    (λ h. (h.top, (h.story, h.plan))) (λ t. record { top = t.0; story = t.1.0; plan = t.1.1 }) (λ _. refl)
