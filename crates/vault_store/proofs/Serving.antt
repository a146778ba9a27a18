-- What each outcome adds to the history that the store stood for.
use Rattle.std.proofs.Common.{◌≡◌, ◌⊎◌, ℕ, ◌≤◌, List, arith, drop, length, false, Some, None, refl, sym, ap, subst, inl, inr}
use Rattle.outside.specs.Disk.{Disk}
use Rattle.outside.specs.Images.{disk_in}
use Rattle.outside.specs.Views.{FolderView, EntropyView}
use Rattle.tree_model.specs.declared.refusal.Refusal.TheVariants as refusals
use Rattle.tree_model.specs.declared.reply.Reply.{Reply}
use Rattle.tree_model.specs.declared.reply.Reply.TheVariants as replies
use Rattle.tree_model.specs.Asked.{Asked, PlainRequest, asked_of, bytes_put, plain_reply, refused}
use Rattle.tree_loading.specs.Format.{sealing_of}
use Rattle.node_changes.specs.Placed.{taken_for}
use Rattle.store_laws.specs.Store.{StoreView}
use Rattle.store_laws.specs.Turns.{AddsEntry, AddsEntryFrom, Turn, IsQuietTurn, IsChangedTurn}
use Rattle.store_laws.proofs.Flushed.{flushed_turns_add}
use Rattle.store_laws.proofs.Turns.{quiet_turns_add, changed_turns_add, broken_turns_add, unflushed_turns_add}
use Rattle.store_laws.proofs.Stopped.{stopped_turns_add}
use Rattle.vault_store.specs.Open.{counted, stopped_in}
use Rattle.vault_store.specs.Outcome.{IsFormed, IsFrom, HasReply, HasBroken, HasNotFlushed}
use Rattle.vault_store.proofs.Turns.{told_path, told_path_is}

-- the reply to a request, and what serving it left
pub record AfterServing : Type 0 where
  pub store : StoreView
  pub folder : FolderView
  pub source : EntropyView
  pub reply : Reply
  pub buffer : List ℕ

pub record IsServed (old : StoreView) (before : FolderView) (source : EntropyView) (request : PlainRequest) (second : ℕ) (buffer : List ℕ)
    (left : AfterServing) : Type 0 where
  pub entry : AddsEntry old left.store before left.folder (asked_of request second (plain_reply left.reply) left.buffer) source left.source
  pub formed : IsFormed request left.reply buffer left.buffer

-- the same was left
pub record IsSameLeft (left left' : AfterServing) : Type 0 where
  pub store : left.store ≡ left'.store
  pub folder : left.folder ≡ left'.folder
  pub source : left.source ≡ left'.source
  pub reply : left.reply ≡ left'.reply
  pub buffer : left.buffer ≡ left'.buffer

pub served_as : {old : StoreView} {before : FolderView} {source : EntropyView} {request : PlainRequest} {second : ℕ} {buffer : List ℕ}
    {left left' : AfterServing} → IsSameLeft left left' → IsServed old before source request second buffer left'
    → IsServed old before source request second buffer left
served_as {old = old} {before = before} {source = source} {request = request} {second = second} {buffer = buffer} same is =
    subst (λ (l : AfterServing). IsServed old before source request second buffer l)
    (λ i. record {
      store = sym same.store i;
      folder = sym same.folder i;
      source = sym same.source i;
      reply = sym same.reply i;
      buffer = sym same.buffer i;
    }) is

-- nothing was committed before
at_once : {old new : StoreView} {before after : FolderView} {asked : Asked} {source source' : EntropyView}
    → AddsEntryFrom before.faults old new before after asked source source' → AddsEntry old new before after asked source source'
at_once adds found rows origin history caller store drew = adds found rows origin history caller store store.faults drew

-- what waits may have been committed before, in the same call
from_before : {old new : StoreView} {before after : FolderView} {asked : Asked} {source source' : EntropyView} {P : StoreView → FolderView → Type 0} → IsFrom old before P
    → ((between : StoreView) (amid : FolderView) → before.faults ≤ amid.faults → P between amid
    → AddsEntryFrom before.faults between new amid after asked source source') → AddsEntry old new before after asked source source'
from_before {old = old} {new = new} {before = before} {after = after} {asked = asked} {source = source} {source' = source'} is adds =
    elim is.flushed [
      | inl same ↦
          at_once (subst (λ (s : StoreView). AddsEntryFrom before.faults s new before after asked source source') same.0
          (subst (λ (f : FolderView). AddsEntryFrom before.faults is.between new f after asked source source') same.1
          (adds is.between is.amid (omega (arith, ap (λ (f : FolderView). f.faults) same.1)) is.is)))
      | inr flushed ↦
          flushed_turns_add old is.between new before is.amid after asked source source' flushed
          (adds is.between is.amid flushed.faults is.is)
    ]

-- ---- a reply

replied : {between new : StoreView} {amid after : FolderView} {source source' : EntropyView} (begun : ℕ) (turn : Turn)
    → begun ≤ amid.faults → IsQuietTurn between new amid after source source' turn ⊎ IsChangedTurn between new amid after source source' turn
    → AddsEntryFrom begun between new amid after turn.asked source source'
replied begun turn early (inl quiet) = quiet_turns_add _ _ begun _ _ _ _ turn early quiet
replied begun turn early (inr changed) = changed_turns_add _ _ begun _ _ _ _ turn early changed

pub served_reply : {old new : StoreView} {before after : FolderView} {source source' : EntropyView} {request : PlainRequest} {second : ℕ} {reply : Reply} {buffer buffer' : List ℕ}
    → IsFrom old before (λ between amid. HasReply between new amid after source source' request second reply buffer buffer')
    → IsServed old before source request second buffer
    (record { store = counted new; folder = after; source = source'; reply = reply; buffer = buffer' })
served_reply {new = new} {before = before} {after = after} {source = source} {source' = source'} is = record {
  entry = from_before is (λ between amid early reply.
      subst (λ (asked : Asked). AddsEntryFrom before.faults between (counted new) amid after asked source source') reply.turn.same
      (replied before.faults reply.turn.turn early reply.turn.is));
  formed = is.is.formed;
}

-- ---- a commit that failed

faulted : {old new : StoreView} {before after : FolderView} {source source' : EntropyView} {request : PlainRequest} {second : ℕ} {buffer buffer' : List ℕ} → AddsEntry old new before after (asked_of request second (refused refusals.DeviceFault) buffer') source source' → buffer' ≡ buffer
    → IsServed old before source request second buffer
    (record { store = new; folder = after; source = source'; reply = replies.Refused refusals.DeviceFault; buffer = buffer' })
faulted {request = request} {buffer' = buffer'} adds same = record {
  entry = adds;
  formed = record { form = tt; count = tt; enters = refl; rest = ap (λ (l : List ℕ). drop (length (bytes_put request (refused refusals.DeviceFault) buffer')) l) same };
}

pub served_broken : {old new : StoreView} {before after : FolderView} {source source' : EntropyView} {request : PlainRequest} {second : ℕ} {buffer buffer' : List ℕ}
    → HasNotFlushed old new before after source source' request second buffer buffer' ⊎ IsFrom old before (λ between amid. HasBroken between new amid after source source' request second buffer buffer')
    → IsServed old before source request second buffer
    (record { store = stopped_in new; folder = after; source = source'; reply = replies.Refused refusals.DeviceFault; buffer = buffer' })
served_broken {old = old} {new = new} {before = before} {after = after} {source = source} {source' = source'} (inl is) =
    faulted (subst (λ (asked : Asked). AddsEntry old (stopped_in new) before after asked source source') is.turn.same (unflushed_turns_add _ _ _ _ _ _ is.turn.turn is.turn.is)) is.buffer_is
served_broken {new = new} {before = before} {after = after} {source = source} {source' = source'} (inr is) =
    faulted (from_before is (λ between amid early broken.
    subst (λ (asked : Asked). AddsEntryFrom before.faults between (stopped_in new) amid after asked source source') broken.turn.same
    (broken_turns_add _ _ before.faults _ _ _ _ broken.turn.turn early broken.turn.is))) is.is.buffer_is

-- a store that stopped
pub served_stopped : {old : StoreView} {folder : FolderView} {source : EntropyView} {request : PlainRequest} {second number : ℕ} {buffer : List ℕ} → old.stopped ≡ Some number
    → IsServed old folder source request second buffer
    (record { store = counted old; folder = folder; source = source; reply = replies.Refused (refusals.Stopped number); buffer = buffer })
served_stopped {old = old} {folder = folder} {source = source} {request = request} {second = second} {number = number} {buffer = buffer} stops =
    let path_on = λ (d : Disk). taken_for (sealing_of old.keys) d old.live request None in
    let turn : Turn = record {
      asked = asked_of request second (refused (refusals.Stopped number)) buffer;
      drawn = None;
      taken = told_path (disk_in folder.log) path_on None;
      commit_failed = false;
    } in
    record {
      entry = stopped_turns_add old (counted old) folder folder source source turn (record {
        number = number;
        is = stops;
        new_is = refl;
        folder_is = refl;
        source_is = refl;
        reply = refl;
        undrawn = refl;
        unflagged = refl;
        taken = told_path_is (disk_in folder.log) path_on None;
      });
      formed = record { form = tt; count = tt; enters = refl; rest = refl };
    }
