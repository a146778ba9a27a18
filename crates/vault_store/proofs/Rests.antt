-- After a reply a vault is at rest again.
use Rattle.std.proofs.Common.{◌≡◌, ◌⊎◌, ℕ, List, [], OnOk, Option, Some, None, IsSome, Result, Ok, Err, refl, sym, subst, inl, inr}
use Rattle.std.specs.Option.{option_map}
use Rattle.outside.specs.Calls.{Changes, Told}
use Rattle.outside.specs.Disk.{Disk}
use Rattle.outside.specs.Images.{Log, now}
use Rattle.outside.specs.Views.{FolderView, EntropyView}
use Rattle.outside.proofs.Told.{told_both, told_new, told_then, changed_from}
use Rattle.deeds.specs.Deeds.{PlainDeed}
use Rattle.chunk_journal.specs.Journal.{HasCommitted, IsQuiet}
use Rattle.pending_files.specs.Laid.{CanWait, laid, laid_log}
use Rattle.pending_files.proofs.Laying.{none_waits, same_told}
use Rattle.vault_keys.specs.Keys.{KeyPair}
use Rattle.tree_model.specs.declared.reply.Reply.{Reply}
use Rattle.tree_model.specs.Rows.{Content}
use Rattle.tree_model.specs.Asked.{PlainRequest}
use Rattle.tree_model.specs.Step.{Answer}
use Rattle.tree_model.specs.History.{rows_then, answer_of}
use Rattle.clear_tree.specs.Walk.{Sealing}
use Rattle.tree_loading.specs.Format.{sealing_of}
use Rattle.live_tree.specs.Held.{HeldTree, live_rows}
use Rattle.file_changes.specs.Waiting.{IsAtRestOver}
use Rattle.node_changes.specs.Changed.{IsAtRest, StandsOn, ShowsRows, HasChanged}
use Rattle.store_laws.specs.Store.{StoreView}
use Rattle.store_laws.specs.Turns.{Turn, IsQuietTurn, IsChangedTurn, made_of}
use Rattle.node_changes.proofs.Beside.{stands_beside}
use Rattle.vault_store.specs.declared.answering.Broken.{Broken}
use Rattle.vault_store.specs.Open.{running, counted}
use Rattle.vault_store.specs.Outcome.{IsWork}

-- ---- with nothing that waits

over_nothing : (s : Sealing) (live : HeldTree) (claims : List (List ℕ × ℕ)) (log : Log) → IsAtRest s live claims log → IsAtRestOver s live claims [] log
over_nothing s live claims log is = record { quiet = is.quiet; waits = none_waits (now log); contents = is.contents; stands = is.stands }

pub rests_idle : (s : Sealing) (live : HeldTree) (claims : List (List ℕ × ℕ)) (waiting : List PlainDeed) (log : Option Log) → waiting ≡ [] → Told log (IsAtRest s live claims) → Told log (IsAtRestOver s live claims waiting)
rests_idle s live claims waiting log none rest =
    subst (λ (w : List PlainDeed). Told log (IsAtRestOver s live claims w)) (sym none) (told_then log (IsAtRest s live claims) (IsAtRestOver s live claims []) rest (over_nothing s live claims))

-- ---- once what waits is committed

flushed_on : (s : Sealing) (live : HeldTree) (claims : List (List ℕ × ℕ)) (waiting : List PlainDeed) (a b : Log) → IsAtRestOver s live claims waiting a → HasCommitted waiting a b → IsAtRest s live claims b
flushed_on s live claims waiting a b rest committed = record {
  quiet = committed.at_rest;
  contents = rest.contents;
  stands = stands_beside s (laid waiting (now a)) (now b) live claims rest.contents rest.stands committed.at_rest.steady.tree (committed.after (laid waiting (now a)) rest.waits.does);
}

pub rests_flushed : (s : Sealing) (live : HeldTree) (claims : List (List ℕ × ℕ)) (waiting : List PlainDeed) (before after : Option Log) → Told before (IsAtRestOver s live claims waiting) → Changes before after (HasCommitted waiting) → Told after (IsAtRest s live claims)
rests_flushed s live claims waiting before after rest committed =
    told_new before after (λ a b. IsAtRest s live claims b) (IsAtRest s live claims) (λ a b is. is)
    (changed_from before after (IsAtRestOver s live claims waiting) (HasCommitted waiting) (λ a b. IsAtRest s live claims b) (flushed_on s live claims waiting) rest committed)

-- what reads give is as it was: so are what waits and the folder
pub rests_still : (s : Sealing) (live : HeldTree) (claims : List (List ℕ × ℕ)) (waiting waiting' : List PlainDeed) (before after : Option Log) → option_map (laid_log waiting') after ≡ option_map (laid_log waiting) before
    → Told before (IsAtRestOver s live claims waiting) → Told after (IsAtRestOver s live claims waiting')
rests_still s live claims waiting waiting' before after same rest =
    let both = same_told waiting' waiting after before same in by after both.1 (subst (λ (o : Option Log). Told o (IsAtRestOver s live claims waiting)) (sym both.0) rest)
  where
    by : (log : Option Log) → (IsSome log → waiting' ≡ waiting) → Told log (IsAtRestOver s live claims waiting) → Told log (IsAtRestOver s live claims waiting')
    by None waits rest = tt
    by (Some log) waits rest = subst (λ (w : List PlainDeed). IsAtRestOver s live claims w log) (sym (waits refl)) rest

-- what a vault at rest has
pub rest_quiet : (s : Sealing) (live : HeldTree) (claims : List (List ℕ × ℕ)) (waiting : List PlainDeed) (log : Option Log) → Told log (IsAtRestOver s live claims waiting) → Told log IsQuiet
rest_quiet s live claims waiting log rest = told_then log (IsAtRestOver s live claims waiting) IsQuiet rest (λ l is. is.quiet)

pub rest_waits : (s : Sealing) (live : HeldTree) (claims : List (List ℕ × ℕ)) (waiting : List PlainDeed) (log : Option Log) → Told log (IsAtRestOver s live claims waiting) → Told log (λ log. CanWait waiting (now log))
rest_waits s live claims waiting log rest = told_then log (IsAtRestOver s live claims waiting) (λ log. CanWait waiting (now log)) rest (λ l is. is.waits)

-- ---- after a request's own work

-- a committed change leaves it so
rests_changed : (s : Sealing) (request : PlainRequest) (second : ℕ) (answer : Answer) (live live' : HeldTree) (claims claims' : List (List ℕ × ℕ)) (a b : Log) → IsAtRest s live claims a
    → HasChanged s request second answer live live' claims claims' a b → IsAtRest s live' claims' b
rests_changed s request second answer live live' claims claims' a b rest is =
    let shown : ShowsRows s _ is.makes.after live' claims' = is.makes.stepped rest.contents rest.stands in
    record {
      quiet = is.committed.at_rest;
      contents = shown.contents;
      stands = stands_beside s is.makes.after (now b) live' claims' shown.contents shown.stands is.committed.at_rest.steady.tree (is.committed.after is.makes.after is.makes.does);
    }

module _ (keys keys' : KeyPair) (live live' : HeldTree) (claims claims' : List (List ℕ × ℕ)) (entries : ℕ) (before after : FolderView) (source source' : EntropyView) where
  abbrev s : Sealing
  s = sealing_of keys

  abbrev old : StoreView
  old = running keys live claims entries

  abbrev new : StoreView
  new = running keys' live' claims' entries

  module _ (turn : Turn) (rest : Told before.log (IsAtRest s live claims)) where
    abbrev ShownOn : Disk → Type 0
    ShownOn d = (contents : ℕ → Content) → StandsOn s d live claims contents → ShowsRows s (rows_then (live_rows contents live) (made_of turn before after source source')) d live' claims'

    rests_quiet : IsQuietTurn old (counted new) before after source source' turn → Told after.log (IsAtRest s live' claims')
    rests_quiet is =
        subst (λ (o : Option Log). Told o (IsAtRest s live' claims')) (sym is.log)
        (told_both before.log (IsAtRest s live claims) (λ log. ShownOn (now log)) (IsAtRest s live' claims') rest is.shown
        (λ log rest shown.
        let shows = shown rest.contents rest.stands in
        record { quiet = rest.quiet; contents = shows.contents; stands = shows.stands }))

    abbrev ChangedTo : Log → Log → Type 0
    ChangedTo a b = HasChanged s turn.asked.request turn.asked.second (answer_of (made_of turn before after source source')) live live' claims claims' a b

    abbrev RestsAfter : Log → Log → Type 0
    RestsAfter a b = IsAtRest s live' claims' b

    rests_after : IsChangedTurn old (counted new) before after source source' turn → Told after.log (IsAtRest s live' claims')
    rests_after is =
        told_new before.log after.log RestsAfter (IsAtRest s live' claims') (λ a b is. is)
        (changed_from before.log after.log (IsAtRest s live claims) ChangedTo RestsAfter
        (λ a b rest is. rests_changed s turn.asked.request turn.asked.second (answer_of (made_of turn before after source source')) live live' claims claims' a b rest is) rest is.changed)

    rests_turn : IsQuietTurn old (counted new) before after source source' turn ⊎ IsChangedTurn old (counted new) before after source source' turn → Told after.log (IsAtRest s live' claims')
    rests_turn (inl quiet) = rests_quiet quiet
    rests_turn (inr changed) = rests_after changed

  pub rests : (request : PlainRequest) (second : ℕ) (result : Result Reply Broken) (buffer buffer' : List ℕ) (waiting : List PlainDeed) → keys' ≡ keys → waiting ≡ [] → Told before.log (IsAtRest (sealing_of keys) live claims)
      → IsWork old new before after source source' request second result buffer buffer' → OnOk result (Told after.log (IsAtRestOver (sealing_of keys') live' claims' waiting))
  rests request second (Ok reply) buffer buffer' waiting same none rest is =
      rests_idle (sealing_of keys') live' claims' waiting after.log none
      (subst (λ (k : KeyPair). Told after.log (IsAtRest (sealing_of k) live' claims')) (sym same) (rests_turn is.turn.turn rest is.turn.is))
  rests request second (Err broken) buffer buffer' waiting same none rest is = tt
