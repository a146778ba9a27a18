-- What a change of a file's content came to, and what is drawn for it.
use Rattle.std.specs.Prelude.{◌≡◌, ℕ, List, ◌++◌, Option}
use Rattle.outside.specs.Calls.{Changes}
use Rattle.outside.specs.Disk.{Path as HostPath}
use Rattle.outside.specs.Images.{Log}
use Rattle.deeds.specs.Deeds.{PlainDeed}
use Rattle.tree_model.specs.Asked.{PlainRequest}
use Rattle.tree_model.specs.Step.{Answer}
use Rattle.clear_tree.specs.Walk.{Sealing}
use Rattle.live_tree.specs.Held.{HeldTree}
use Rattle.content_laws.specs.Rewriting.{Rewriting}
use Rattle.content_writer.specs.Sealed.{nonces_of}
use Rattle.write_back.specs.Deeds.{deeds_of}
use Rattle.node_changes.specs.Changed.{HasChanged, MayHaveChanged}

-- The deeds rewrite a host file in chunks whose nonces were drawn for them, one after the other, and nothing else was drawn.
pub record DrawsNonces (deeds : List PlainDeed) (old new : List ℕ) : Type 0 where
  pub path : HostPath
  pub rewriting : Rewriting
  pub are : deeds ≡ deeds_of path rewriting
  pub drew : new ≡ old ++ nonces_of rewriting.sealed

-- it was made, by such deeds
pub record HasRewritten (s : Sealing) (request : PlainRequest) (second : ℕ) (answer : Answer) (live live' : HeldTree) (claims claims' : List (List ℕ × ℕ)) (drew drew' : Option (List ℕ)) (old new : Log) : Type 0 where
  pub changed : HasChanged s request second answer live live' claims claims' old new
  pub nonces : Changes drew drew' (DrawsNonces changed.deeds)

-- its commit failed: it may have been made, by such deeds
pub record MayHaveRewritten (s : Sealing) (request : PlainRequest) (second : ℕ) (live live' : HeldTree) (claims claims' : List (List ℕ × ℕ)) (drew drew' : Option (List ℕ)) (old new : Log) : Type 0 where
  pub changed : MayHaveChanged s request second live live' claims claims' old new
  pub nonces : Changes drew drew' (DrawsNonces changed.deeds)
