-- What a request comes to, before it is counted as an entry.
use Rattle.std.specs.Prelude.{◌≡◌, ◌⊎◌, ℕ, List, None, false, Result, Ok, Err}
use Rattle.outside.specs.declared.folder.Reads as reads
use Rattle.outside.specs.Views.{FolderView, EntropyView, folder_in}
use Rattle.tree_model.specs.declared.reply.Reply.{Reply}
use Rattle.tree_model.specs.declared.refusal.Refusal.TheVariants as refusals
use Rattle.tree_model.specs.Asked.{Asked, PlainRequest, plain_reply, refused, asked_of, bytes_put, is_exhausted, HasCount, IsReplyTo, KeepsRest}
use Rattle.store_laws.specs.Store.{StoreView}
use Rattle.store_laws.specs.Turns.{Turn, IsQuietTurn, IsChangedTurn, IsBrokenTurn, IsFlushed, IsUnflushedTurn}
use Rattle.vault_store.specs.declared.answering.Broken.{Broken}
use Rattle.vault_store.specs.Open.{VaultView, counted, idle_of, stopped_in, store_in}

-- the turn of a request that was asked and answered so
pub record IsTurnOf (asked : Asked) (P : Turn → Type 0) : Type 0 where
  pub turn : Turn
  pub same : turn.asked ≡ asked
  pub is : P turn

-- the form of a reply, with the bytes that it puts into the buffer
pub record IsFormed (request : PlainRequest) (reply : Reply) (old new : List ℕ) : Type 0 where
  pub form : IsReplyTo request (plain_reply reply) (bytes_put request (plain_reply reply) new)
  pub count : HasCount reply
  pub enters : is_exhausted (plain_reply reply) ≡ false
  pub rest : KeepsRest request (plain_reply reply) old new

-- ---- by a request's own work

-- a reply: nothing was changed on the disk, or a change was committed
pub record HasReply (old new : StoreView) (before after : FolderView) (source source' : EntropyView) (request : PlainRequest) (second : ℕ) (reply : Reply) (buffer buffer' : List ℕ) : Type 0 where
  pub formed : IsFormed request reply buffer buffer'
  pub turn : IsTurnOf (asked_of request second (plain_reply reply) buffer') (λ turn.
      IsQuietTurn old (counted new) before after source source' turn ⊎ IsChangedTurn old (counted new) before after source source' turn)

-- its commit failed
pub record HasBroken (old new : StoreView) (before after : FolderView) (source source' : EntropyView) (request : PlainRequest) (second : ℕ) (buffer buffer' : List ℕ) : Type 0 where
  pub turn : IsTurnOf (asked_of request second (refused refusals.DeviceFault) buffer') (IsBrokenTurn old (stopped_in new) before after source source')
  pub buffer_is : buffer' ≡ buffer

abbrev pub IsWork : StoreView → StoreView → FolderView → FolderView → EntropyView → EntropyView → PlainRequest → ℕ → Result Reply Broken → List ℕ → List ℕ → Type 0
IsWork old new before after source source' request second (Ok reply) buffer buffer' = HasReply old new before after source source' request second reply buffer buffer'
IsWork old new before after source source' request second (Err broken) buffer buffer' = HasBroken old new before after source source' request second buffer buffer'

-- ---- what waits may have been committed before it

pub record IsFrom (old : StoreView) (before : FolderView) (P : StoreView → FolderView → Type 0) : Type 0 where
  pub between : StoreView
  pub amid : FolderView
  pub flushed : ((between ≡ old) × (amid ≡ before)) ⊎ IsFlushed old between before amid
  pub is : P between amid

-- that commit failed
pub record HasNotFlushed (old new : StoreView) (before after : FolderView) (source source' : EntropyView) (request : PlainRequest) (second : ℕ) (buffer buffer' : List ℕ) : Type 0 where
  pub turn : IsTurnOf (asked_of request second (refused refusals.DeviceFault) buffer') (IsUnflushedTurn old (stopped_in new) before after source source')
  pub buffer_is : buffer' ≡ buffer

abbrev pub IsOutcome : StoreView → StoreView → FolderView → FolderView → EntropyView → EntropyView → PlainRequest → ℕ → Result Reply Broken → List ℕ → List ℕ → Type 0
IsOutcome old new before after source source' request second (Ok reply) buffer buffer' =
    IsFrom old before (λ between amid. HasReply between new amid after source source' request second reply buffer buffer')
IsOutcome old new before after source source' request second (Err broken) buffer buffer' =
    HasNotFlushed old new before after source source' request second buffer buffer'
    ⊎ IsFrom old before (λ between amid. HasBroken between new amid after source source' request second buffer buffer')

-- ---- of a vault, however many entries its store made before

-- by a request's own work, if nothing waits before it and after it
abbrev pub HasWorked : {D : Type 0} → reads.Ghosts D → VaultView D → VaultView D → EntropyView → EntropyView → PlainRequest → ℕ → Result Reply Broken → List ℕ → List ℕ → Type 0
HasWorked by old new source source' request second result buffer buffer' =
    (entries : ℕ) → IsWork (idle_of (store_in old entries None)) (idle_of (store_in new entries None)) (folder_in by old.folder) (folder_in by new.folder) source source' request second result buffer buffer'

abbrev pub HasAnswered : {D : Type 0} → reads.Ghosts D → VaultView D → VaultView D → EntropyView → EntropyView → PlainRequest → ℕ → Result Reply Broken → List ℕ → List ℕ → Type 0
HasAnswered by old new source source' request second result buffer buffer' =
    (entries : ℕ) → IsOutcome (store_in old entries None) (store_in new entries None) (folder_in by old.folder) (folder_in by new.folder) source source' request second result buffer buffer'
