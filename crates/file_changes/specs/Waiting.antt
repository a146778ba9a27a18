-- A write or a truncation that waits to be committed.
use Rattle.std.specs.Prelude.{◌≡◌, ◌⊎◌, ℕ, List, [], Option}
use Rattle.outside.specs.Calls.{Extends}
use Rattle.outside.specs.Disk.{Path as HostPath}
use Rattle.outside.specs.Images.{Log, now}
use Rattle.deeds.specs.Deeds.{PlainDeed}
use Rattle.chunk_journal.specs.Journal.{AnyMoment, HasCommitted, IsQuiet}
use Rattle.pending_files.specs.Laid.{CanWait, laid}
use Rattle.tree_model.specs.Rows.{Content}
use Rattle.tree_model.specs.Asked.{PlainRequest}
use Rattle.tree_model.specs.Step.{Answer, step}
use Rattle.clear_tree.specs.Walk.{Sealing}
use Rattle.live_tree.specs.Held.{HeldTree, live_rows}
use Rattle.content_laws.specs.Rewriting.{Rewriting}
use Rattle.write_back.specs.Deeds.{rewriting_in}
use Rattle.content_writer.specs.Sealed.{nonces_of}
use Rattle.node_changes.specs.Changed.{IsLate, IsStepAnswer, ShowsRows, StandsOn}
use Rattle.node_changes.specs.Within.{AreWithin}
use Rattle.live_tree_laws.specs.Strays.{KeepsStrays}

-- the journal is quiet, what waits can be done, and the tree in memory is that of the disk once it is
pub record IsAtRestOver (s : Sealing) (live : HeldTree) (claims : List (List ℕ × ℕ)) (waiting : List PlainDeed) (log : Log) : Type 0 where
  pub quiet : IsQuiet log
  pub waits : CanWait waiting (now log)
  pub contents : ℕ → Content
  pub stands : StandsOn s (laid waiting (now log)) live claims contents

-- what waited was committed, so that nothing waits
pub record IsFlush (waiting : List PlainDeed) (old new : Log) : Type 0 where
  pub committed : HasCommitted waiting old new
  pub any_moment : AnyMoment waiting old new

-- all of it waits still, or it was committed
abbrev pub MayBeFlushed : List PlainDeed → List PlainDeed → Log → Log → Type 0
MayBeFlushed waiting middle old new = ((middle ≡ waiting) × (new ≡ old)) ⊎ ((middle ≡ []) × IsFlush waiting old new)

-- Chunks that were sealed for a host file wait besides, that of a node of the vault: what waited before may have been committed, the answer is the
-- step's, and once all is done what belongs to no node is as it was, and the tree in memory is that of the step's rows.
pub record HasPut (s : Sealing) (request : PlainRequest) (second : ℕ) (answer : Answer) (live live' : HeldTree) (claims claims' : List (List ℕ × ℕ)) (waiting waiting' : List PlainDeed) (old new : Log) : Type 0 where
  pub middle : List PlainDeed
  pub flushed : MayBeFlushed waiting middle old new
  pub path : HostPath
  pub len : ℕ
  pub rewriting : Rewriting
  pub are : waiting' ≡ rewriting_in path len rewriting middle
  pub within : AreWithin middle → AreWithin waiting'
  pub strays : (contents : ℕ → Content) → StandsOn s (laid middle (now new)) live claims contents → KeepsStrays s (laid middle (now new)) (laid waiting' (now new))
  pub waits : CanWait waiting' (now new)
  pub answer_is : IsStepAnswer s request second answer (laid middle (now new)) live claims
  pub stepped : (contents : ℕ → Content) → StandsOn s (laid middle (now new)) live claims contents
      → ShowsRows s (step (live_rows contents live) request second).rows (laid waiting' (now new)) live' claims'

-- the same, and the nonces of the chunks were drawn for them, one after the other, and nothing else was drawn
pub record HasWritten (s : Sealing) (request : PlainRequest) (second : ℕ) (answer : Answer) (live live' : HeldTree) (claims claims' : List (List ℕ × ℕ)) (waiting waiting' : List PlainDeed) (drew drew' : Option (List ℕ)) (old new : Log) : Type 0 where
  pub put : HasPut s request second answer live live' claims claims' waiting waiting' old new
  pub nonces : Extends drew drew' (nonces_of put.rewriting.sealed)

-- what waited couldn't be committed, once no refusal of the step had come
pub record IsNotFlushed (s : Sealing) (request : PlainRequest) (live : HeldTree) (claims : List (List ℕ × ℕ)) (waiting : List PlainDeed) (old new : Log) : Type 0 where
  pub late : IsLate s request (laid waiting (now old)) live claims
  pub any_moment : AnyMoment waiting old new
