-- What the making of a file or a directory came to.
use Rattle.std.specs.Prelude.{◌≡◌, ℕ, List, Bool, true, false, Option, None, IsSome, Result, IfOk, IfErr}
use Rattle.outside.specs.Disk.{Path as HostPath}
use Rattle.outside.specs.Calls.{Changes, Told}
use Rattle.outside.specs.Images.{Log, now, disk_in}
use Rattle.deeds.specs.Deeds.{PlainDeed}
use Rattle.vault_keys.specs.Keys.{KeyPair}
use Rattle.tree_model.specs.declared.refusal.Refusal.{Refusal}
use Rattle.tree_model.specs.declared.refusal.Refusal.TheVariants as refusals
use Rattle.tree_model.specs.declared.stat.Qid.{Qid}
use Rattle.tree_model.specs.Asked.{PlainRequest, qid}
use Rattle.tree_model.specs.Step.{Answer, says}
use Rattle.tree_loading.specs.Format.{sealing_of}
use Rattle.live_tree.specs.Held.{HeldTree}
use Rattle.node_changes.specs.declared.error.ChangeErr.{ChangeErr}
use Rattle.node_changes.specs.Causes.{IfBroken, IfRefused}
use Rattle.node_changes.specs.Changed.{HasChanged, MayHaveChanged, MayRefuse}
use Rattle.node_changes.specs.Placed.{taken_for, DrawsHeader, DrawsIdentifier, IfDrawn, IsIdentifierOf, GoesOn}

-- An identifier is drawn for a directory alone, and first of all that is drawn; if a directory is asked for and none is named, nothing was drawn.
pub record IsDraw (is_dir : Bool) (drawn : Option (List ℕ)) (old new : Option (List ℕ)) : Type 0 where
  pub directory : IsSome drawn → is_dir ≡ true
  pub more : Changes old new GoesOn
  pub first : Changes old new (λ before after. IfDrawn drawn (λ identifier. IsIdentifierOf identifier before after))
  pub unspent : drawn ≡ None → is_dir ≡ true → new ≡ old

-- Deeds make a directory of the identifier that was drawn, or a file of the header that was.
pub record MakesDrawn (keys : KeyPair) (deeds : List PlainDeed) (drawn : Option (List ℕ)) (drew drew' : Option (List ℕ)) : Type 0 where
  pub directory : IfDrawn drawn (λ identifier. Changes drew drew' (DrawsIdentifier (sealing_of keys) deeds identifier))
  pub file : drawn ≡ None → Changes drew drew' (DrawsHeader keys deeds)

-- It was made, of what was drawn, at a place that isn't taken.
pub record HasCreated (keys : KeyPair) (request : PlainRequest) (second : ℕ) (answer : Answer) (drawn : Option (List ℕ)) (live live' : HeldTree) (claims claims' : List (List ℕ × ℕ)) (drew drew' : Option (List ℕ)) (old new : Log) : Type 0 where
  pub changed : HasChanged (sealing_of keys) request second answer live live' claims claims' old new
  pub untaken : taken_for (sealing_of keys) (now old) live request drawn ≡ None
  pub made_of : MakesDrawn keys changed.deeds drawn drew drew'

-- Its commit failed: it may have been made, of what was drawn.
pub record MayHaveCreated (keys : KeyPair) (request : PlainRequest) (second : ℕ) (drawn : Option (List ℕ)) (live live' : HeldTree) (claims claims' : List (List ℕ × ℕ)) (drew drew' : Option (List ℕ)) (old new : Log) : Type 0 where
  pub changed : MayHaveChanged (sealing_of keys) request second live live' claims claims' old new
  pub made_of : MakesDrawn keys changed.deeds drawn drew drew'

-- A place that is taken was found so before a file's header was drawn.
abbrev pub IsFoundTaken : Bool → Option (List ℕ) → Option (List ℕ) → Refusal → Type 0
IsFoundTaken is_dir drew drew' refusal = (path : HostPath) → refusal ≡ refusals.PlaceTaken path → is_dir ≡ false → drew' ≡ drew

-- What came of it: made, or its commit failed, or refused for one of the causes that MayRefuse has.
pub record IsCreation (keys : KeyPair) (request : PlainRequest) (is_dir : Bool) (second : ℕ) (result : Result Qid ChangeErr) (live live' : HeldTree) (claims claims' : List (List ℕ × ℕ)) (drew drew' : Option (List ℕ)) (log log' : Option Log) : Type 0 where
  pub drawn : Option (List ℕ)
  pub draw : IsDraw is_dir drawn drew drew'
  pub changed : IfOk result (λ q. Changes log log' (HasCreated keys request second (says (qid q)) drawn live live' claims claims' drew drew'))
  pub broken : IfErr result (λ error. IfBroken error (Changes log log' (MayHaveCreated keys request second drawn live live' claims claims' drew drew')))
  pub refused : IfErr result (λ error. IfRefused error (λ refusal. Told (disk_in log) (λ d.
      MayRefuse (sealing_of keys) request second (taken_for (sealing_of keys) d live request drawn) refusal d live claims)))
  pub found : IfErr result (λ error. IfRefused error (IsFoundTaken is_dir drew drew'))
