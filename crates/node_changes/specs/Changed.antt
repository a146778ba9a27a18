-- What a change of an open vault's shape came to, on the disk and in memory.
use Rattle.std.specs.Prelude.{◌≡◌, ◌≢◌, ℕ, List, Option, Some, IsNone, false}
use Rattle.outside.specs.Disk.{Disk, Path as HostPath}
use Rattle.outside.specs.Images.{Log, now}
use Rattle.deeds.specs.Deeds.{PlainDeed, DoesAll, in_order}
use Rattle.deeds.specs.Repeatable.{IsRepeatable}
use Rattle.chunk_journal.specs.Journal.{IsQuiet, AnyMoment, HasCommitted}
use Rattle.tree_model.specs.declared.refusal.Refusal.{Refusal}
use Rattle.tree_model.specs.declared.refusal.Refusal.TheVariants as refusals
use Rattle.tree_model.specs.Rows.{Content, Rows}
use Rattle.tree_model.specs.Asked.{PlainRequest}
use Rattle.tree_model.specs.Step.{Answer, refuses, step, early_refusal}
use Rattle.tree_model.specs.History.{is_refusal}
use Rattle.clear_tree.specs.Walk.{Sealing}
use Rattle.tree_deed_laws.specs.Trees.{Tree, IsTreeOf}
use Rattle.live_tree.specs.Held.{HeldTree, live_rows}
use Rattle.live_tree.specs.Changes.{wrapped}
use Rattle.live_tree_laws.specs.Holds.{Holds, AreHeldContents}
use Rattle.name_places.specs.Claims.{AreClaimsOf}
use Rattle.live_tree_laws.specs.Strays.{KeepsStrays}
use Rattle.node_changes.specs.Within.{AreWithin}

-- The tree in memory, with the index of its claims, is that of a disk, whose files and links have these contents by number.
pub record StandsOn (s : Sealing) (d : Disk) (live : HeldTree) (claims : List (List ℕ × ℕ)) (contents : ℕ → Content) : Type 0 where
  pub tree : Tree
  pub is : IsTreeOf s d tree
  pub holds : Holds s tree live
  pub claimed : AreClaimsOf s live claims
  pub are : AreHeldContents s tree live contents

-- it is that of what reads give, and the journal is quiet
pub record IsAtRest (s : Sealing) (live : HeldTree) (claims : List (List ℕ × ℕ)) (log : Log) : Type 0 where
  pub quiet : IsQuiet log
  pub contents : ℕ → Content
  pub stands : StandsOn s (now log) live claims contents

-- ---- the step, whatever the contents of the tree are

-- a disk on which the tree in memory is that of these rows, but for versions past 2^32
pub record ShowsRows (s : Sealing) (rows : Rows) (d : Disk) (live : HeldTree) (claims : List (List ℕ × ℕ)) : Type 0 where
  pub contents : ℕ → Content
  pub stands : StandsOn s d live claims contents
  pub shows : wrapped (live_rows contents live) ≡ wrapped rows

-- the step's answer
abbrev pub IsStepAnswer : Sealing → PlainRequest → ℕ → Answer → Disk → HeldTree → List (List ℕ × ℕ) → Type 0
IsStepAnswer s request second answer d live claims =
    (contents : ℕ → Content) → StandsOn s d live claims contents → (step (live_rows contents live) request second).answer ≡ answer

-- no refusal of the step comes before the work
abbrev pub IsLate : Sealing → PlainRequest → Disk → HeldTree → List (List ℕ × ℕ) → Type 0
IsLate s request d live claims = (contents : ℕ → Content) → StandsOn s d live claims contents → IsNone (early_refusal (live_rows contents live) request)

-- the number has a node
abbrev pub IsThere : Sealing → PlainRequest → ℕ → Disk → HeldTree → List (List ℕ × ℕ) → Type 0
IsThere s request second d live claims =
    (contents : ℕ → Content) → StandsOn s d live claims contents → (step (live_rows contents live) request second).answer ≢ refuses refusals.Removed

-- the step answers no refusal
abbrev pub IsAccepted : Sealing → PlainRequest → ℕ → Disk → HeldTree → List (List ℕ × ℕ) → Type 0
IsAccepted s request second d live claims =
    (contents : ℕ → Content) → StandsOn s d live claims contents → is_refusal (step (live_rows contents live) request second).answer.reply ≡ false

-- ---- changes

-- Deeds that can be done, and again after a stop, and that name the vault's data alone; on the disk after them what belonged to no node is as it
-- was, and the tree in memory is that of the step's rows.
pub record MakesStep (s : Sealing) (request : PlainRequest) (second : ℕ) (deeds : List PlainDeed) (old : Disk) (live live' : HeldTree) (claims claims' : List (List ℕ × ℕ)) : Type 0 where
  pub after : Disk
  pub does : DoesAll (in_order deeds) old after
  pub repeatable : IsRepeatable deeds
  pub within : AreWithin deeds
  pub strays : KeepsStrays s old after
  pub stepped : (contents : ℕ → Content) → StandsOn s old live claims contents
      → ShowsRows s (step (live_rows contents live) request second).rows after live' claims'

-- the same on whatever disk the tree in memory stands for, with the step's answer
abbrev pub LeadsOn : Sealing → PlainRequest → ℕ → Answer → HeldTree → HeldTree → List (List ℕ × ℕ) → List (List ℕ × ℕ) → List PlainDeed → Type 0
LeadsOn s request second answer live live' claims claims' deeds = (d : Disk) (contents : ℕ → Content) → StandsOn s d live claims contents
    → MakesStep s request second deeds d live live' claims claims' × IsStepAnswer s request second answer d live claims

-- It was made: the deeds are done and on the disk, and the answer is the step's. At each moment on the way an image recovers to the disk
-- before or after them.
pub record HasChanged (s : Sealing) (request : PlainRequest) (second : ℕ) (answer : Answer) (live live' : HeldTree) (claims claims' : List (List ℕ × ℕ)) (old new : Log) : Type 0 where
  pub deeds : List PlainDeed
  pub makes : MakesStep s request second deeds (now old) live live' claims claims'
  pub answer_is : IsStepAnswer s request second answer (now old) live claims
  pub any_moment : AnyMoment deeds old new
  pub committed : HasCommitted deeds old new

-- its commit failed, once no refusal of the step had come: at each moment since an image recovers to the disk before or after the deeds
pub record MayHaveChanged (s : Sealing) (request : PlainRequest) (second : ℕ) (live live' : HeldTree) (claims claims' : List (List ℕ × ℕ)) (old new : Log) : Type 0 where
  pub deeds : List PlainDeed
  pub makes : MakesStep s request second deeds (now old) live live' claims claims'
  pub late : IsLate s request (now old) live claims
  pub any_moment : AnyMoment deeds old new

-- ---- refusals

-- A refusal of a change that made nothing: the step's own; the folder's or the random source's fault once the work had begun; a place that
-- is taken, if the step would answer; or lack of memory for a node that is there.
abbrev pub MayRefuse : Sealing → PlainRequest → ℕ → Option HostPath → Refusal → Disk → HeldTree → List (List ℕ × ℕ) → Type 0
MayRefuse s request second taken refusals.DeviceFault d live claims = IsLate s request d live claims
MayRefuse s request second taken refusals.RandomFault d live claims = IsLate s request d live claims
MayRefuse s request second taken refusals.OutOfMemory d live claims = IsThere s request second d live claims
MayRefuse s request second taken (refusals.PlaceTaken path) d live claims = (taken ≡ Some path) × IsAccepted s request second d live claims
MayRefuse s request second taken refusal d live claims = IsStepAnswer s request second (refuses refusal) d live claims
