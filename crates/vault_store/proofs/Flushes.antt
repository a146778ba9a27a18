-- Turns in which what waits is committed, or is to be.
use Rattle.std.proofs.Common.{◌≡◌, ℕ, suc, ◌≤◌, List, [], Bool, true, false, cond, Option, Some, None, IsNone, IsErr, OnOk, Result, Ok, Err, refl, sym, ap, subst, ◌∙◌, inl, inr, true≢false, arith}
use Rattle.std.specs.Option.{option_map}
use Rattle.outside.specs.Calls.{Changes, Rose, Told}
use Rattle.outside.specs.Disk.{Disk, Path as HostPath}
use Rattle.outside.specs.Images.{Log, disk_in, now}
use Rattle.outside.specs.Views.{FolderView, EntropyView}
use Rattle.outside.proofs.Told.{changed_by, told_always, told_then}
use Rattle.deeds.specs.Deeds.{PlainDeed}
use Rattle.chunk_journal.specs.Journal.{AnyMoment, HasCommitted}
use Rattle.pending_files.specs.Laid.{CanWait, laid, laid_log}
use Rattle.vault_keys.specs.Keys.{KeyPair}
use Rattle.tree_model.specs.declared.refusal.Refusal.{Refusal}
use Rattle.tree_model.specs.declared.refusal.Refusal.TheVariants as refusals
use Rattle.tree_model.specs.declared.reply.Reply.{Reply}
use Rattle.tree_model.specs.declared.reply.Reply.TheVariants as replies
use Rattle.tree_model.specs.Rows.{Content, Rows}
use Rattle.tree_model.specs.Asked.{Asked, PlainReply, PlainRequest, remove, sync, HasCount, IsReplyTo, asked_of, bytes_put, plain_reply, refused}
use Rattle.tree_model.specs.Step.{Answer, early_refusal, refuses, says, step}
use Rattle.tree_model.specs.History.{Made, is_refusal, is_stopped, places, HasCause, IsAnswered, MayCommit}
use Rattle.clear_tree.specs.Walk.{Sealing}
use Rattle.tree_loading.specs.Format.{sealing_of}
use Rattle.live_tree.specs.Held.{HeldTree, live_rows}
use Rattle.file_changes.specs.Waiting.{HasPut, IsAtRestOver, IsFlush, IsNotFlushed}
use Rattle.file_changes.specs.Causes.{ContentCause}
use Rattle.file_changes.proofs.Untold.{still_untold, untold}
use Rattle.live_tree_laws.specs.Strays.{KeepsStrays}
use Rattle.node_changes.specs.Within.{AreWithin}
use Rattle.node_changes.specs.declared.tree.VaultTree.{VaultTree}
use Rattle.node_changes.specs.declared.error.ChangeErr.{ChangeErr}
use Rattle.node_changes.specs.declared.error.ChangeErr.TheVariants as change_errs
use Rattle.node_changes.specs.Causes.{ErrCause, IfBroken, IfRefused, IsUnchanged, RefusalCause}
use Rattle.node_changes.specs.Changed.{IsLate, IsStepAnswer, MayRefuse, StandsOn, ShowsRows}
use Rattle.node_changes.specs.Placed.{taken_for}
use Rattle.node_changes.specs.Removal.{IsRemovalRefusal}
use Rattle.crash_laws.specs.Stable.{is_kept}
use Rattle.store_laws.specs.Store.{StoreView, bounded}
use Rattle.store_laws.specs.Turns.{IsFlushed, IsQuietTurn, IsTurn, Turn, made_of}
use Rattle.node_changes.proofs.Committing.{early_step}
use Rattle.vault_store.specs.declared.answering.Broken.{Broken}
use Rattle.vault_store.specs.declared.flushing.Unflushed.{Unflushed}
use Rattle.vault_store.specs.declared.flushing.Unflushed.TheVariants as unflushed
use Rattle.vault_store.specs.Open.{running, counted, view_of}
use Rattle.vault_store.specs.Outcome.{HasNotFlushed, HasReply, IsFormed, IsFrom, IsOutcome}
use Rattle.vault_store.specs.Quiet.{IsStill}
use Rattle.tree_answers.specs.Answers.{IsOwn, IsStepOf}
use Rattle.vault_store.proofs.ContentTurns.{content_refused}
use Rattle.vault_store.proofs.Lookups.{looked_up, plain_read, reading_keeps}
use Rattle.vault_store.proofs.Replies.{no_bytes, said_unplaced}
use Rattle.vault_store.proofs.Turns.{IsCome, come_undrawn, draws_made, refused_reply, told_path, told_path_is}
use Rattle.vault_store.proofs.Waiting.{over, refused_outcome, same_over, told_shown}

-- a store of a vault that runs
abbrev pub waits_in : KeyPair → HeldTree → List (List ℕ × ℕ) → List PlainDeed → ℕ → StoreView
waits_in keys live claims waiting entries = record { keys = keys; live = live; claims = claims; waiting = waiting; entries = entries; stopped = None }

module _ (keys keys' : KeyPair) (live live' : HeldTree) (claims claims' : List (List ℕ × ℕ)) (waiting waiting' : List PlainDeed) (entries : ℕ) (before after : FolderView) (source source' : EntropyView) (request : PlainRequest) (second : ℕ) where
  abbrev s : Sealing
  s = sealing_of keys

  abbrev old : StoreView
  old = waits_in keys live claims waiting entries

  abbrev new : StoreView
  new = waits_in keys' live' claims' waiting' entries

  abbrev path_on : Disk → Option HostPath
  path_on d = taken_for s d live request None

  -- a turn from a store with the same tree on, whatever waits there, over a folder on
  module _ (between : List PlainDeed) (amid : FolderView) (come : IsCome keys keys' amid after source source' request None) where
    abbrev turn : PlainReply → Bool → Turn
    turn reply failed = record {
      asked = record { request = request; second = second; reply = reply; bytes = [] };
      drawn = None;
      taken = told_path (disk_in amid.log) path_on None;
      commit_failed = failed;
    }

    abbrev made : PlainReply → Bool → Made
    made reply failed = made_of (turn reply failed) amid after source source'

    turn_from : (stopped : Option ℕ) (reply : PlainReply) (failed : Bool) → HasCause (made reply failed) reply → is_stopped reply ≡ false
        → IsTurn (waits_in keys live claims between entries) (record { keys = keys'; live = live'; claims = claims'; waiting = waiting'; entries = bounded (suc entries); stopped = stopped }) amid after source source' (turn reply failed)
    turn_from stopped reply failed cause unstopped = record {
      running = refl;
      keys = come.keys_are;
      entries = refl;
      folder = come.folder;
      entropy = come.entropy;
      cause = cause;
      unstopped = unstopped;
      may_draw = come.may_draw;
      drawn = draws_made (made reply failed) source.drawn source'.drawn come.unspent come.drawn_is;
      taken = told_path_is (disk_in amid.log) path_on None;
    }

  -- ---- what waits can't be committed

  fault_asked : (buffer : List ℕ) → ◌≡◌ {A = Asked} (record { request = request; second = second; reply = refused refusals.DeviceFault; bytes = [] }) (asked_of request second (refused refusals.DeviceFault) buffer)
  fault_asked buffer = ap (λ (bytes : List ℕ). record { request = request; second = second; reply = refused refusals.DeviceFault; bytes = bytes }) (sym (no_bytes request refusals.DeviceFault buffer))

  pub not_flushed : (buffer : List ℕ) → IsCome keys keys' before after source source' request None → live' ≡ live → Rose before.faults after.faults → MayCommit request
      → Told before.log (λ log. IsLate s request (laid waiting (now log)) live claims) → Changes before.log after.log (AnyMoment waiting)
      → HasNotFlushed old new before after source source' request second buffer buffer
  not_flushed buffer come same rose can late any = record {
    turn = record {
      turn = turn waiting before come (refused refusals.DeviceFault) true;
      same = fault_asked buffer;
      is = record {
        is_turn = turn_from waiting before come (Some entries) (refused refusals.DeviceFault) true rose refl;
        stops = record { named = refl; failed = refl; reply = refl; may_commit = can };
        live = same;
        allowed = told_shown waiting before.log
            (λ d. (contents : ℕ → Content) → StandsOn s d live claims contents → IsAnswered (live_rows contents live) (made waiting before come (refused refusals.DeviceFault) true))
            (told_late before.log late);
        any_moment = any;
      };
    };
    buffer_is = refl;
  }
    where
      told_late : (log : Option Log) → Told log (λ log. IsLate s request (laid waiting (now log)) live claims)
          → Told log (λ log. (contents : ℕ → Content) → StandsOn s (laid waiting (now log)) live claims contents → IsAnswered (live_rows contents live) (made waiting before come (refused refusals.DeviceFault) true))
      told_late None late = tt
      told_late (Some log) late = λ contents stands. inr (inl (refl, late contents stands))

  -- ---- a change waits

  -- what a put comes to, over what waited and the log then
  record IsPutOver (reply : PlainReply) (middle : List PlainDeed) (log : Log) : Type 0 where
    pub waits : CanWait waiting' (now log)
    pub within : AreWithin middle → AreWithin waiting'
    pub strays : (contents : ℕ → Content) → StandsOn s (laid middle (now log)) live claims contents → KeepsStrays s (laid middle (now log)) (laid waiting' (now log))
    pub answer_is : IsStepAnswer s request second (says reply) (laid middle (now log)) live claims
    pub stepped : (contents : ℕ → Content) → StandsOn s (laid middle (now log)) live claims contents
        → ShowsRows s (step (live_rows contents live) request second).rows (laid waiting' (now log)) live' claims'

  put_over : (reply : PlainReply) (middle : List PlainDeed) (log : Option Log) (x y : Log) (put : HasPut s request second (says reply) live live' claims claims' waiting waiting' x y) → put.middle ≡ middle → log ≡ Some y → Told log (IsPutOver reply middle)
  put_over reply middle log x y put same is =
      subst (λ (o : Option Log). Told o (IsPutOver reply middle)) (sym is)
      (subst (λ (w : List PlainDeed). IsPutOver reply w y) same (record { waits = put.waits; within = put.within; strays = put.strays; answer_is = put.answer_is; stepped = put.stepped }))

  module _ (reply : Reply) (buffer : List ℕ) (formed : IsFormed request reply buffer buffer) (none : bytes_put request (plain_reply reply) buffer ≡ []) (accepted : is_refusal (plain_reply reply) ≡ false)
      (unstopped : is_stopped (plain_reply reply) ≡ false) (loose : is_kept request (plain_reply reply) ≡ false) (cause : (made : Made) → HasCause made (plain_reply reply)) (unplaced : (rows : Rows) → places rows request ≡ false) where
    module _ (middle : List PlainDeed) (amid : FolderView) (come : IsCome keys keys' amid after source source' request None) where
      abbrev Shows : Bool → Log → Type 0
      Shows refusal log = (contents : ℕ → Content) → StandsOn s (laid middle (now log)) live claims contents
          → ShowsRows s (cond refusal (live_rows contents live) (step (live_rows contents live) request second).rows) (laid waiting' (now log)) live' claims'

      put_turn : after.log ≡ amid.log → Told amid.log (IsPutOver (plain_reply reply) middle)
          → IsQuietTurn (waits_in keys live claims middle entries) (counted new) amid after source source' (turn middle amid come (plain_reply reply) false)
      put_turn same put = record {
        is_turn = turn_from middle amid come None (plain_reply reply) false (cause (made middle amid come (plain_reply reply) false)) unstopped;
        goes_on = refl;
        whole = refl;
        log = same;
        allowed = told_shown middle amid.log
            (λ d. (contents : ℕ → Content) → StandsOn s d live claims contents → IsAnswered (live_rows contents live) (made middle amid come (plain_reply reply) false))
            (told_then amid.log (IsPutOver (plain_reply reply) middle)
            (λ log. (contents : ℕ → Content) → StandsOn s (laid middle (now log)) live claims contents → IsAnswered (live_rows contents live) (made middle amid come (plain_reply reply) false)) put
            (λ log put contents stands.
            inl (sym (put.answer_is contents stands)
            ∙ sym (said_unplaced (live_rows contents live) request (told_path (disk_in amid.log) path_on None) (step (live_rows contents live) request second).answer (unplaced (live_rows contents live))))));
        waits = told_then amid.log (IsPutOver (plain_reply reply) middle) (λ log. CanWait waiting' (now log)) put (λ log put. put.waits);
        within = told_then amid.log (IsPutOver (plain_reply reply) middle) (λ log. AreWithin middle → AreWithin waiting') put (λ log put. put.within);
        strays = told_then amid.log (IsPutOver (plain_reply reply) middle)
            (λ log. (contents : ℕ → Content) → StandsOn s (laid middle (now log)) live claims contents → KeepsStrays s (laid middle (now log)) (laid waiting' (now log))) put (λ log put. put.strays);
        shown = told_then amid.log (IsPutOver (plain_reply reply) middle) (Shows (is_refusal (plain_reply reply))) put
            (λ log put. subst (λ (b : Bool). Shows b log) (sym accepted) put.stepped);
        kept = λ yes. absurd (true≢false (sym yes ∙ loose));
      }

      put_reply : after.log ≡ amid.log → Told amid.log (IsPutOver (plain_reply reply) middle) → HasReply (waits_in keys live claims middle entries) new amid after source source' request second reply buffer buffer
      put_reply same put = record {
        formed = formed;
        turn = record {
          turn = turn middle amid come (plain_reply reply) false;
          same = ap (λ (bytes : List ℕ). record { request = request; second = second; reply = plain_reply reply; bytes = bytes }) (sym none);
          is = inl (put_turn same put);
        };
      }

    -- with what waited before, or after that was committed
    module _ (come : IsCome keys keys' before after source source' request None) where
      abbrev Replies : StoreView → FolderView → Type 0
      Replies between amid = HasReply between new amid after source source' request second reply buffer buffer

      abbrev Puts : Log → Log → Type 0
      Puts x y = HasPut s request second (says (plain_reply reply)) live live' claims claims' waiting waiting' x y

      come_after : IsCome keys keys' after after source source' request None
      come_after = record { keys_are = come.keys_are; folder = omega arith; entropy = come.entropy; may_draw = come.may_draw; drawn_is = come.drawn_is; unspent = come.unspent }

      put_flushed : (x y : Log) → before.log ≡ Some x → after.log ≡ Some y → IsFlush waiting x y → IsFlushed old (waits_in keys live claims [] entries) before after
      put_flushed x y was is flush = record {
        running = refl;
        new_is = refl;
        faults = come.folder;
        committed = subst (λ (o : Option Log). Changes o after.log (HasCommitted waiting)) (sym was) (subst (λ (o : Option Log). Changes (Some x) o (HasCommitted waiting)) (sym is) flush.committed);
        any_moment = subst (λ (o : Option Log). Changes o after.log (AnyMoment waiting)) (sym was) (subst (λ (o : Option Log). Changes (Some x) o (AnyMoment waiting)) (sym is) flush.any_moment);
      }

      put_from : (a b : Option Log) → before.log ≡ a → after.log ≡ b → Changes a b Puts → IsFrom old before Replies
      put_from None None was is put = record {
        between = old;
        amid = before;
        flushed = inl (refl, refl);
        is = put_reply waiting before come (is ∙ sym was) (subst (λ (o : Option Log). Told o (IsPutOver (plain_reply reply) waiting)) (sym was) tt);
      }
      put_from None (Some y) was is put = absurd put
      put_from (Some x) None was is put = absurd put
      put_from (Some x) (Some y) was is put =
          elim put.flushed [
            | inl same ↦
                let here : after.log ≡ before.log = is ∙ ap Some same.1 ∙ sym was in
                record { between = old; amid = before; flushed = inl (refl, refl); is = put_reply waiting before come here (put_over (plain_reply reply) waiting before.log x y put same.0 (was ∙ sym (ap Some same.1))) }
            | inr flush ↦
                record {
                  between = waits_in keys live claims [] entries;
                  amid = after;
                  flushed = inr (put_flushed x y was is flush.1);
                  is = put_reply [] after come_after refl (put_over (plain_reply reply) [] after.log x y put flush.0 is);
                }
          ]

      pub written : Changes before.log after.log Puts → IsFrom old before Replies
      written put = put_from before.log after.log refl refl put

-- ---- a change that waits isn't made

told_first : (a b : Option Log) (P : Log → Log → Type 0) (Q : Log → Type 0) → ((x y : Log) → P x y → Q x) → Changes a b P → Told a Q
told_first None b P Q h p = tt
told_first (Some x) None P Q h p = absurd p
told_first (Some x) (Some y) P Q h p = h x y p

module _ (keys keys' : KeyPair) (live live' : HeldTree) (claims claims' : List (List ℕ × ℕ)) (waiting waiting' : List PlainDeed) (entries : ℕ) (before after : FolderView) (source source' : EntropyView) (request : PlainRequest) (second : ℕ)
    (come : IsCome keys keys' before after source source' request None) (can : Told before.log (λ log. CanWait waiting (now log))) where
  abbrev Fails : Log → Log → Type 0
  Fails x y = IsNotFlushed (sealing_of keys) request live claims waiting x y

  abbrev Comes : Result Reply Broken → List ℕ → Type 0
  Comes result buffer = IsOutcome (waits_in keys live claims waiting entries) (waits_in keys' live' claims' waiting' entries) before after source source' request second result buffer buffer

  come_over : IsCome keys keys' (over waiting before) (over waiting' after) source source' request None
  come_over = record { keys_are = come.keys_are; folder = come.folder; entropy = come.entropy; may_draw = come.may_draw; drawn_is = come.drawn_is; unspent = come.unspent }

  unchanged_over : IsUnchanged live live' claims claims' before.log after.log → Told before.log (λ log. waiting' ≡ waiting) → IsUnchanged live live' claims claims' (over waiting before).log (over waiting' after).log
  unchanged_over same waits = record { live = same.live; claims = same.claims; log = same_over waiting waiting' before.log after.log same.log waits }

  pub put_err : (error : ChangeErr) (result : Result Reply Broken) (buffer : List ℕ) → IfRefused error (λ refusal. result ≡ Ok (replies.Refused refusal)) → IfBroken error (IsErr result)
      → IfRefused error (λ refusal. IsUnchanged live live' claims claims' before.log after.log) → IfRefused error (λ refusal. Told before.log (λ log. waiting' ≡ waiting))
      → ErrCause request (Rose before.faults after.faults) (Rose source.faults source'.faults) error → IfRefused error (ContentCause (Rose before.faults after.faults) (Rose source.faults source'.faults))
      → IfRefused error (λ refusal. Told (disk_in (option_map (laid_log waiting) before.log)) (λ d. MayRefuse (sealing_of keys) request second None refusal d live claims))
      → MayCommit request → live' ≡ live → IfBroken error (Changes before.log after.log Fails) → Comes result buffer
  put_err (change_errs.Refused refusal) result buffer is broken same waits cause own may commits kept failed =
      subst (λ (r : Result Reply Broken). Comes r buffer) (sym is)
      (refused_outcome (waits_in keys live claims waiting entries) (waits_in keys' live' claims' waiting' entries) before after source source' request second can refusal buffer
      (content_refused keys keys' live live' claims claims' entries (over waiting before) (over waiting' after) source source' request second come_over refusal buffer (unchanged_over same waits) cause own may))
  put_err change_errs.Broken (Ok reply) buffer is broken same waits cause own may commits kept failed = let no : false ≡ true = broken in absurd cc
  put_err change_errs.Broken (Err b) buffer is broken same waits cause own may commits kept failed =
      inl (not_flushed keys keys' live live' claims claims' waiting waiting' entries before after source source' request second buffer come kept cause commits
      (told_first before.log after.log Fails (λ log. IsLate (sealing_of keys) request (laid waiting (now log)) live claims) (λ x y is. is.late) failed)
      (changed_by before.log after.log Fails (AnyMoment waiting) (λ x y is. is.any_moment) failed))

-- A folder that tells nothing, of which a fault was counted: the request is refused as that, and what waited may be dropped.
pub dropped : (tree tree' : VaultTree) (waiting waiting' : List PlainDeed) (entries : ℕ) (before after : FolderView) (source : EntropyView) (request : PlainRequest) (second : ℕ) (buffer : List ℕ) → tree' ≡ tree → before.log ≡ None → after.log ≡ None
    → before.faults ≤ after.faults → Rose before.faults after.faults → IsOutcome (view_of tree waiting entries None) (view_of tree' waiting' entries None) before after source source request second (Ok (replies.Refused refusals.DeviceFault)) buffer buffer
dropped tree tree' waiting waiting' entries before after source request second buffer same none none' later rose =
    refused_outcome (view_of tree waiting entries None) (view_of tree' waiting' entries None) before after source source request second (untold before.log _ none) refusals.DeviceFault buffer
    (content_refused tree.keys tree'.keys tree.live tree'.live tree.claims tree'.claims entries (over waiting before) (over waiting' after) source source request second
    (come_undrawn tree.keys tree'.keys (over waiting before) (over waiting' after) source request (ap (λ (t : VaultTree). t.keys) same) later) refusals.DeviceFault buffer
    (record {
      live = ap (λ (t : VaultTree). t.live) same;
      claims = ap (λ (t : VaultTree). t.claims) same;
      log = same_over waiting waiting' before.log after.log (none' ∙ sym none) (untold before.log _ none);
    }) rose rose
    (told_shown waiting before.log (λ d. MayRefuse (sealing_of tree.keys) request second None refusals.DeviceFault d tree.live tree.claims) (untold before.log _ none)))

-- what waited isn't all committed
pub flush_err : (tree tree' : VaultTree) (waiting waiting' : List PlainDeed) (entries : ℕ) (before after : FolderView) (source : EntropyView) (request : PlainRequest) (second : ℕ) (cause : Unflushed) (result : Result Reply Broken) (buffer : List ℕ)
    → (cause ≡ unflushed.Broken → IsErr result) → (cause ≡ unflushed.Dropped → result ≡ Ok (replies.Refused refusals.DeviceFault)) → (cause ≡ unflushed.Dropped → before.log ≡ None) → tree' ≡ tree
    → before.faults ≤ after.faults → Rose before.faults after.faults → MayCommit request → ((d : Disk) → IsLate (sealing_of tree.keys) request d tree.live tree.claims) → Changes before.log after.log (AnyMoment waiting)
    → IsOutcome (view_of tree waiting entries None) (view_of tree' waiting' entries None) before after source source request second result buffer buffer
flush_err tree tree' waiting waiting' entries before after source request second unflushed.Broken (Ok reply) buffer broken drops none same later rose can late any = let no : false ≡ true = broken refl in absurd cc
flush_err tree tree' waiting waiting' entries before after source request second unflushed.Broken (Err b) buffer broken drops none same later rose can late any =
    inl (not_flushed tree.keys tree'.keys tree.live tree'.live tree.claims tree'.claims waiting waiting' entries before after source source request second buffer
    (come_undrawn tree.keys tree'.keys before after source request (ap (λ (t : VaultTree). t.keys) same) later) (ap (λ (t : VaultTree). t.live) same) rose can
    (told_always before.log (λ log. IsLate (sealing_of tree.keys) request (laid waiting (now log)) tree.live tree.claims) (λ log. late (laid waiting (now log)))) any)
flush_err tree tree' waiting waiting' entries before after source request second unflushed.Dropped result buffer broken drops none same later rose can late any =
    subst (λ (r : Result Reply Broken). IsOutcome (view_of tree waiting entries None) (view_of tree' waiting' entries None) before after source source request second r buffer buffer) (sym (drops refl))
    (dropped tree tree' waiting waiting' entries before after source request second buffer same (none refl) (still_untold before.log after.log (AnyMoment waiting) (none refl) any) later rose)

-- and where that is answered the vault is at rest
pub rests_unflushed : (s : Sealing) (live : HeldTree) (claims : List (List ℕ × ℕ)) (waiting waiting' : List PlainDeed) (before after : Option Log) (cause : Unflushed) (result : Result Reply Broken) → (cause ≡ unflushed.Broken → IsErr result)
    → (cause ≡ unflushed.Dropped → before ≡ None) → Changes before after (AnyMoment waiting) → OnOk result (Told after (IsAtRestOver s live claims waiting'))
rests_unflushed s live claims waiting waiting' before after cause (Err b) broken none any = tt
rests_unflushed s live claims waiting waiting' before after unflushed.Broken (Ok reply) broken none any = let no : false ≡ true = broken refl in absurd cc
rests_unflushed s live claims waiting waiting' before after unflushed.Dropped (Ok reply) broken none any = untold after (IsAtRestOver s live claims waiting') (still_untold before after (AnyMoment waiting) (none refl) any)

-- ---- removals that are refused early

removal_may : (form : Sealing) (number second : ℕ) (taken : Option HostPath) (refusal : Refusal) (d : Disk) (live : HeldTree) (claims : List (List ℕ × ℕ)) → RefusalCause (remove number) ⊥ ⊥ refusal
    → IsStepAnswer form (remove number) second (refuses refusal) d live claims → MayRefuse form (remove number) second taken refusal d live claims
removal_may form number second taken refusals.DeviceFault d live claims cause is = absurd cause
removal_may form number second taken refusals.RandomFault d live claims cause is = absurd cause
removal_may form number second taken refusals.OutOfMemory d live claims cause is =
    λ contents stands no.
    let both : refuses refusals.OutOfMemory ≡ refuses refusals.Removed = sym (is contents stands) ∙ no in
    let replies : refused refusals.OutOfMemory ≡ refused refusals.Removed = ap (λ (a : Answer). a.reply) both in
    absurd cc
removal_may form number second taken (refusals.PlaceTaken path) d live claims cause is = absurd cause
removal_may form number second taken refusal d live claims cause is = is

cause_rises : (number : ℕ) (folder entropy : Type 0) (refusal : Refusal) → RefusalCause (remove number) ⊥ ⊥ refusal → RefusalCause (remove number) folder entropy refusal
cause_rises number folder entropy refusals.DeviceFault cause = absurd cause
cause_rises number folder entropy refusals.RandomFault cause = absurd cause
cause_rises number folder entropy refusal cause = cause

not_placed : (number : ℕ) (refusal : Refusal) (path : HostPath) → RefusalCause (remove number) ⊥ ⊥ refusal → refusal ≡ refusals.PlaceTaken path → ⊥
not_placed number refusal path cause is = subst (λ (r : Refusal). RefusalCause (remove number) ⊥ ⊥ r) is cause

pub removal_refused : (keys : KeyPair) (live : HeldTree) (claims : List (List ℕ × ℕ)) (entries : ℕ) (folder : FolderView) (source : EntropyView) (number second : ℕ) (refusal : Refusal) (buffer : List ℕ)
    → RefusalCause (remove number) ⊥ ⊥ refusal → IsRemovalRefusal live number (Some refusal)
    → IsStill (running keys live claims entries) (running keys live claims entries) folder folder source source (remove number) second (replies.Refused refusal) buffer buffer
removal_refused keys live claims entries folder source number second refusal buffer cause is =
    refused_reply keys keys live live claims claims entries folder folder source source (remove number) second None refusal buffer
    (come_undrawn keys keys folder folder source (remove number) refl (omega arith)) (record { live = refl; claims = refl; log = refl })
    (cause_rises number (Rose folder.faults folder.faults) (Rose source.faults source.faults) refusal cause)
    (told_always (disk_in folder.log) _ (λ d contents stands path e. absurd (not_placed number refusal path cause e)))
    (told_always (disk_in folder.log) _ (λ d. removal_may (sealing_of keys) number second None refusal d live claims cause (λ contents stands. early_step (live_rows contents live) (remove number) second refusal (is contents))))

-- ---- syncs

pub sync_reply : (keys : KeyPair) (live live' : HeldTree) (claims : List (List ℕ × ℕ)) (entries : ℕ) (folder : FolderView) (source : EntropyView) (number second : ℕ) (reply : Reply) (buffer : List ℕ) → live ≡ live'
    → IsStepOf live (sync number) (says (plain_reply reply)) → IsReplyTo (sync number) (plain_reply reply) [] → IsOwn (plain_reply reply) → HasCount reply
    → IsStill (running keys live' claims entries) (running keys live' claims entries) folder folder source source (sync number) second reply buffer buffer
sync_reply keys live live' claims entries folder source number second reply buffer same is form own has =
    looked_up keys live live' claims entries folder source (sync number) (sync number) second reply buffer buffer same refl (record { never = λ may. may; path = λ s d live. refl })
    (plain_read keys live claims folder folder (sync number) reply buffer (reading_keeps (sync number) (plain_reply reply) tt) refl is form own has)

refused_is : (reply : Reply) → ((refusal : Refusal) → reply ≡ replies.Refused refusal → ⊥) → (refusal : Refusal) → plain_reply reply ≡ refused refusal → ⊥
refused_is (replies.Refused other) not refusal is = not other refl
refused_is reply not refusal is = absurd cc

-- if a sync isn't refused, nothing refuses it early
pub sync_late : (live : HeldTree) (number : ℕ) (contents : ℕ → Content) (reply : Reply) → IsStepOf live (sync number) (says (plain_reply reply)) → ((refusal : Refusal) → reply ≡ replies.Refused refusal → ⊥)
    → IsNone (early_refusal (live_rows contents live) (sync number))
sync_late live number contents reply is not = by (early_refusal (live_rows contents live) (sync number)) refl
  where
    by : (o : Option Refusal) → early_refusal (live_rows contents live) (sync number) ≡ o → IsNone o
    by None none = refl
    by (Some refusal) early =
        let both : says (plain_reply reply) ≡ refuses refusal = is contents 0 ∙ early_step (live_rows contents live) (sync number) 0 refusal early in
        absurd (refused_is reply not refusal (ap (λ (a : Answer). a.reply) both))
