-- Replies to walks and lists.
use Rattle.std.proofs.Common.{◌≡◌, ◌≢◌, ℕ, List, [], Option, IsSome, IfOk, OnErr, Result, Ok, Err, refl, sym, ◌∙◌}
use Rattle.std.specs.Result.{result_unwrap_or}
use Rattle.std.specs.declared.alloc.AllocError.{AllocError}
use Rattle.outside.specs.Disk.{Disk}
use Rattle.outside.specs.Views.{FolderView}
use Rattle.vault_keys.specs.Keys.{KeyPair}
use Rattle.tree_model.specs.declared.refusal.Refusal.TheVariants as refusals
use Rattle.tree_model.specs.declared.reply.Reply.{Reply}
use Rattle.tree_model.specs.declared.reply.Reply.TheVariants as replies
use Rattle.tree_model.specs.Rows.{Content}
use Rattle.tree_model.specs.Asked.{walk, list, plain_reply, bytes_put, IsReplyTo, HasCount, KeepsRest}
use Rattle.tree_model.specs.Step.{refuses, says, step}
use Rattle.tree_model.proofs.Steps.{step_walk, walk_not_removed}
use Rattle.tree_loading.specs.Format.{sealing_of}
use Rattle.live_tree.specs.Held.{HeldTree, live_row, live_rows, node_of}
use Rattle.tree_answers.specs.Answers.{AreSizes, IsOwn, IsStepOf, IsSizedStepOf, answer_in}
use Rattle.tree_answers.proofs.Rows.{row_there, some_is}
use Rattle.node_changes.specs.Changed.{StandsOn}
use Rattle.vault_store.proofs.Presence.{list_not_removed}
use Rattle.vault_store.proofs.Lookups.{IsRead, or_lacks_memory, plain_read, sized_read, reading_keeps}

module _ (keys : KeyPair) (live : HeldTree) (claims : List (List ℕ × ℕ)) (folder : FolderView) where
  -- ---- walks

  walk_there : (made : Result Reply AllocError) (n : ℕ) (names : List (List ℕ)) → OnErr made (IsSome (node_of live n))
      → OnErr made ((contents : ℕ → Content) (second : ℕ) → (step (live_rows contents live) (walk n names) second).answer ≢ refuses refusals.Removed)
  walk_there (Ok r) n names there = tt
  walk_there (Err e) n names there = λ contents second is.
      let node = some_is (node_of live n) there in
      walk_not_removed (live_rows contents live) (live_row contents (n, node.0)) names
      (sym (step_walk (live_rows contents live) n second names (live_row contents (n, node.0)) (row_there contents live n node.0 node.1)) ∙ is)

  walked_ok : (made : Result Reply AllocError) (n : ℕ) (names : List (List ℕ)) (buffer : List ℕ) → IfOk made (λ r. IsStepOf live (walk n names) (says (plain_reply r))) → IfOk made (λ r. IsReplyTo (walk n names) (plain_reply r) [])
      → IfOk made (λ r. IsOwn (plain_reply r)) → IfOk made HasCount → IfOk made (λ r. IsRead keys live claims folder folder (walk n names) r buffer buffer)
  walked_ok (Ok r) n names buffer is form own count =
      plain_read keys live claims folder folder (walk n names) r buffer (reading_keeps (walk n names) (plain_reply r) tt) refl is form own count
  walked_ok (Err e) n names buffer is form own count = tt

  same_buffer : (made : Result Reply AllocError) (buffer : List ℕ) → OnErr made (buffer ≡ buffer)
  same_buffer (Ok r) buffer = tt
  same_buffer (Err e) buffer = refl

  pub walk_read : (n : ℕ) (names : List (List ℕ)) (made : Result Reply AllocError) (reply : Reply) (buffer : List ℕ) → reply ≡ result_unwrap_or made (replies.Refused refusals.OutOfMemory)
      → IfOk made (λ r. IsStepOf live (walk n names) (says (plain_reply r))) → IfOk made (λ r. IsReplyTo (walk n names) (plain_reply r) []) → IfOk made (λ r. IsOwn (plain_reply r)) → IfOk made HasCount → OnErr made (IsSome (node_of live n))
      → IsRead keys live claims folder folder (walk n names) reply buffer buffer
  walk_read n names made reply buffer or is form own count there =
      or_lacks_memory keys live claims folder folder (walk n names) made reply buffer buffer or (same_buffer made buffer) tt (walk_there made n names there)
      (walked_ok made n names buffer is form own count)

  -- ---- lists

  list_there : (made : Result Reply AllocError) (n most : ℕ) (after : Option (List ℕ)) → OnErr made (IsSome (node_of live n))
      → OnErr made ((contents : ℕ → Content) (second : ℕ) → (step (live_rows contents live) (list n after most) second).answer ≢ refuses refusals.Removed)
  list_there (Ok r) n most after there = tt
  list_there (Err e) n most after there = λ contents second.
      let node = some_is (node_of live n) there in
      list_not_removed (live_rows contents live) n most second after (live_row contents (n, node.0)) (row_there contents live n node.0 node.1)

  module _ (n most : ℕ) (after : Option (List ℕ)) (buffer buffer' : List ℕ) (sizes : (d : Disk) (contents : ℕ → Content) → StandsOn (sealing_of keys) d live claims contents → AreSizes live contents) where
    abbrev Answers : Reply → Type 0
    Answers r = IsSizedStepOf live (list n after most) (answer_in (list n after most) (plain_reply r) buffer')

    abbrev Formed : Reply → Type 0
    Formed r = IsReplyTo (list n after most) (plain_reply r) (bytes_put (list n after most) (plain_reply r) buffer')

    abbrev Rests : Reply → Type 0
    Rests r = KeepsRest (list n after most) (plain_reply r) buffer buffer'

    listed_ok : (made : Result Reply AllocError) → IfOk made Answers → IfOk made Formed → IfOk made Rests → IfOk made (λ r. IsOwn (plain_reply r)) → IfOk made HasCount
        → IfOk made (λ r. IsRead keys live claims folder folder (list n after most) r buffer buffer')
    listed_ok (Ok r) is form rest own count =
        sized_read keys live claims folder folder (list n after most) r buffer buffer' tt sizes is form rest own count
    listed_ok (Err e) is form rest own count = tt

  pub list_read : (n most : ℕ) (after : Option (List ℕ)) (made : Result Reply AllocError) (reply : Reply) (buffer buffer' : List ℕ) → reply ≡ result_unwrap_or made (replies.Refused refusals.OutOfMemory)
      → (sizes : (d : Disk) (contents : ℕ → Content) → StandsOn (sealing_of keys) d live claims contents → AreSizes live contents)
      → IfOk made (λ r. IsSizedStepOf live (list n after most) (answer_in (list n after most) (plain_reply r) buffer'))
      → IfOk made (λ r. IsReplyTo (list n after most) (plain_reply r) (bytes_put (list n after most) (plain_reply r) buffer')) → IfOk made (λ r. KeepsRest (list n after most) (plain_reply r) buffer buffer')
      → IfOk made (λ r. IsOwn (plain_reply r)) → IfOk made HasCount → OnErr made (buffer' ≡ buffer) → OnErr made (IsSome (node_of live n))
      → IsRead keys live claims folder folder (list n after most) reply buffer buffer'
  list_read n most after made reply buffer buffer' or sizes is form rest own count same there =
      or_lacks_memory keys live claims folder folder (list n after most) made reply buffer buffer' or same tt (list_there made n most after there)
      (listed_ok n most after buffer buffer' sizes made is form rest own count)
