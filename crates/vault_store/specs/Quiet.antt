-- A reply after which what reads give is as it was.
use Rattle.std.specs.Prelude.{◌≡◌, ℕ, List, false, IsNone}
use Rattle.outside.specs.Calls.{Told}
use Rattle.outside.specs.Images.{disk_in}
use Rattle.outside.specs.Views.{FolderView, EntropyView}
use Rattle.tree_model.specs.Rows.{Content}
use Rattle.tree_model.specs.declared.reply.Reply.{Reply}
use Rattle.tree_model.specs.Asked.{PlainRequest, plain_reply, asked_of}
use Rattle.tree_model.specs.History.{rows_then, IsAnswered}
use Rattle.tree_loading.specs.Format.{sealing_of}
use Rattle.live_tree.specs.Held.{live_rows}
use Rattle.node_changes.specs.Changed.{StandsOn, ShowsRows}
use Rattle.store_laws.specs.Store.{StoreView}
use Rattle.store_laws.specs.Turns.{IsTurn, Turn, made_of}
use Rattle.vault_store.specs.Open.{counted}
use Rattle.vault_store.specs.Outcome.{IsFormed, IsTurnOf}

-- its turn over what reads give: the answer is allowed in the rows of the tree there, and the tree in memory is that of the rows after it
pub record IsStillTurn (old new : StoreView) (before after : FolderView) (source source' : EntropyView) (turn : Turn) : Type 0 where
  pub is_turn : IsTurn old new before after source source' turn
  pub goes_on : IsNone new.stopped
  pub whole : turn.commit_failed ≡ false
  pub log : after.log ≡ before.log
  pub allowed : Told (disk_in before.log) (λ d. (contents : ℕ → Content) → StandsOn (sealing_of old.keys) d old.live old.claims contents
      → IsAnswered (live_rows contents old.live) (made_of turn before after source source'))
  pub shown : Told (disk_in before.log) (λ d. (contents : ℕ → Content) → StandsOn (sealing_of old.keys) d old.live old.claims contents
      → ShowsRows (sealing_of old.keys) (rows_then (live_rows contents old.live) (made_of turn before after source source')) d new.live new.claims)

pub record IsStill (old new : StoreView) (before after : FolderView) (source source' : EntropyView) (request : PlainRequest) (second : ℕ) (reply : Reply) (buffer buffer' : List ℕ) : Type 0 where
  pub formed : IsFormed request reply buffer buffer'
  pub turn : IsTurnOf (asked_of request second (plain_reply reply) buffer') (IsStillTurn old (counted new) before after source source')
