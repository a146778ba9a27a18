-- Replies after which everything is as it was.
use Rattle.std.proofs.Common.{◌≡◌, ◌≢◌, ◌⊎◌, ℕ, ◌≤◌, List, [], false, cond, Option, None, IsNone, IfOk, OnErr, Result, Ok, Err, refl, sym, ap, subst, ◌∙◌, inl, inr, arith}
use Rattle.std.specs.Result.{result_unwrap_or}
use Rattle.std.specs.declared.alloc.AllocError.{AllocError}
use Rattle.outside.specs.Calls.{Rose, Told}
use Rattle.outside.specs.Disk.{Disk, Path as HostPath}
use Rattle.outside.specs.Images.{disk_in}
use Rattle.outside.specs.Views.{FolderView, EntropyView}
use Rattle.outside.proofs.Told.{told_always, told_then}
use Rattle.vault_keys.specs.Keys.{KeyPair}
use Rattle.tree_model.specs.declared.refusal.Refusal.{Refusal}
use Rattle.tree_model.specs.declared.refusal.Refusal.TheVariants as refusals
use Rattle.tree_model.specs.declared.reply.Reply.{Reply}
use Rattle.tree_model.specs.declared.reply.Reply.TheVariants as replies
use Rattle.tree_model.specs.Rows.{Content, Rows}
use Rattle.tree_model.specs.Asked.{PlainReply, PlainRequest, qid, walked, count, stat, done, refused, asked_of, bytes_put, is_exhausted, plain_reply, IsReplyTo, HasCount, KeepsRest}
use Rattle.tree_model.specs.Step.{Answer, early_refusal, refuses, says, step, IsReading}
use Rattle.tree_model.proofs.Steps.{step_reads}
use Rattle.tree_model.specs.History.{Made, answer_of, is_refusal, is_stopped, rows_then, HasCause, IsAnswered, MayLackMemory, MayPlace}
use Rattle.clear_tree.specs.Walk.{Sealing}
use Rattle.tree_loading.specs.Format.{sealing_of}
use Rattle.version_laws.specs.RowVersions.{wrapped}
use Rattle.live_tree.specs.Held.{HeldTree, live_rows}
use Rattle.tree_answers.specs.Answers.{AreSizes, IsOwn, IsStepOf, IsSizedStepOf, answer_in}
use Rattle.node_changes.specs.Causes.{RefusalCause}
use Rattle.node_changes.specs.Changed.{StandsOn, ShowsRows}
use Rattle.node_changes.specs.Placed.{taken_for}
use Rattle.store_laws.specs.Turns.{Turn, made_of}
use Rattle.vault_store.specs.Open.{running, counted}
use Rattle.vault_store.specs.Quiet.{IsStill, IsStillTurn}
use Rattle.vault_store.proofs.Replies.{enters, has_cause, no_bytes, not_stopped, own_cause, said_untaken}
use Rattle.vault_store.proofs.Turns.{come_undrawn, turn_is}

-- ---- answers without a place

abbrev pub IsAnswerIn : Rows → PlainRequest → ℕ → Answer → Type 0
IsAnswerIn rows request second answer =
    (answer ≡ (step rows request second).answer)
    ⊎ ((answer ≡ refuses refusals.DeviceFault) × IsNone (early_refusal rows request))
    ⊎ ((answer ≡ refuses refusals.OutOfMemory) × ((step rows request second).answer ≢ refuses refusals.Removed))

is_answered : (rows : Rows) (made : Made) → made.taken ≡ None → IsAnswerIn rows made.asked.request made.asked.second (answer_of made) → IsAnswered rows made
is_answered rows made none may =
    let said : Answer = (step rows made.asked.request made.asked.second).answer in
    elim may [
      | inl step ↦ inl (step ∙ sym (said_untaken rows made.asked.request made.taken said none))
      | inr fault ↦ elim fault [ inl device ↦ inr (inl device) | inr memory ↦ inr (inr (inr memory)) ]
    ]

-- ---- causes

abbrev pub ReplyCause : PlainRequest → ℕ → ℕ → PlainReply → Type 0
ReplyCause request before now (refused refusal) = RefusalCause request (Rose before now) ⊥ refusal
ReplyCause request before now (qid q) = Unit {0}
ReplyCause request before now (walked qids) = Unit {0}
ReplyCause request before now (count n) = Unit {0}
ReplyCause request before now (stat n) = Unit {0}
ReplyCause request before now done = Unit {0}

abbrev pub KeepsRows : PlainRequest → PlainReply → Type 0
KeepsRows request (refused refusal) = Unit {0}
KeepsRows request (qid q) = IsReading request
KeepsRows request (walked qids) = IsReading request
KeepsRows request (count n) = IsReading request
KeepsRows request (stat n) = IsReading request
KeepsRows request done = IsReading request

undrawn : (request : PlainRequest) (folder entropy : Type 0) (refusal : Refusal) → RefusalCause request folder ⊥ refusal → RefusalCause request folder entropy refusal
undrawn request folder entropy refusals.RandomFault cause = absurd cause
undrawn request folder entropy refusal cause = cause

reply_cause : (made : Made) (reply : PlainReply) → ReplyCause made.asked.request made.folder.before made.folder.after reply → (MayPlace made.asked.request → ⊥) → HasCause made reply
reply_cause made (qid q) cause unplaced = tt
reply_cause made (walked qids) cause unplaced = tt
reply_cause made (count n) cause unplaced = tt
reply_cause made (stat n) cause unplaced = tt
reply_cause made done cause unplaced = tt
reply_cause made (refused refusal) cause unplaced =
    has_cause made refusal (undrawn made.asked.request (Rose made.folder.before made.folder.after) (Rose made.entropy.before made.entropy.after) refusal cause) (λ may path is. absurd (unplaced may))

reply_unstopped : (request : PlainRequest) (before now : ℕ) (reply : PlainReply) → ReplyCause request before now reply → is_stopped reply ≡ false
reply_unstopped request before now (qid q) cause = refl
reply_unstopped request before now (walked qids) cause = refl
reply_unstopped request before now (count n) cause = refl
reply_unstopped request before now (stat n) cause = refl
reply_unstopped request before now done cause = refl
reply_unstopped request before now (refused refusal) cause = not_stopped request (Rose before now) ⊥ refusal cause

reply_enters : (request : PlainRequest) (before now : ℕ) (reply : PlainReply) → ReplyCause request before now reply → is_exhausted reply ≡ false
reply_enters request before now (qid q) cause = refl
reply_enters request before now (walked qids) cause = refl
reply_enters request before now (count n) cause = refl
reply_enters request before now (stat n) cause = refl
reply_enters request before now done cause = refl
reply_enters request before now (refused refusal) cause = enters request (Rose before now) ⊥ refusal cause

pub own_reply : (request : PlainRequest) (before now : ℕ) (reply : PlainReply) → IsOwn reply → ReplyCause request before now reply
own_reply request before now (qid q) own = tt
own_reply request before now (walked qids) own = tt
own_reply request before now (count n) own = tt
own_reply request before now (stat n) own = tt
own_reply request before now done own = tt
own_reply request before now (refused refusal) own = own_cause request (Rose before now) ⊥ refusal own

pub reading_keeps : (request : PlainRequest) (reply : PlainReply) → IsReading request → KeepsRows request reply
reading_keeps request (qid q) reads = reads
reading_keeps request (walked qids) reads = reads
reading_keeps request (count n) reads = reads
reading_keeps request (stat n) reads = reads
reading_keeps request done reads = reads
reading_keeps request (refused refusal) reads = tt

stays : (rows : Rows) (request : PlainRequest) (second : ℕ) (reply : PlainReply) → KeepsRows request reply → cond (is_refusal reply) rows (step rows request second).rows ≡ rows
stays rows request second (refused refusal) keeps = refl
stays rows request second (qid q) keeps = step_reads rows request second keeps
stays rows request second (walked qids) keeps = step_reads rows request second keeps
stays rows request second (count n) keeps = step_reads rows request second keeps
stays rows request second (stat n) keeps = step_reads rows request second keeps
stays rows request second done keeps = step_reads rows request second keeps

-- ---- kept replies

-- a request that no place is asked for
pub record IsUnplaced (request : PlainRequest) : Type 0 where
  pub never : MayPlace request → ⊥
  pub path : (s : Sealing) (d : Disk) (live : HeldTree) → taken_for s d live request None ≡ None

module _ (keys : KeyPair) (live : HeldTree) (claims : List (List ℕ × ℕ)) (before after : FolderView) (request : PlainRequest) where
  abbrev s : Sealing
  s = sealing_of keys

  -- what is said of a reply, whenever it was asked
  pub record IsRead (reply : Reply) (buffer buffer' : List ℕ) : Type 0 where
    pub answer : (second : ℕ) → Told (disk_in before.log) (λ d. (contents : ℕ → Content) → StandsOn s d live claims contents
        → IsAnswerIn (live_rows contents live) request second (answer_in request (plain_reply reply) buffer'))
    pub caused : ReplyCause request before.faults after.faults (plain_reply reply)
    pub rows : KeepsRows request (plain_reply reply)
    pub form : IsReplyTo request (plain_reply reply) (bytes_put request (plain_reply reply) buffer')
    pub count : HasCount reply
    pub rest : KeepsRest request (plain_reply reply) buffer buffer'

  module _ (entries second : ℕ) (reply : Reply) (buffer buffer' : List ℕ) (is : IsRead reply buffer buffer') (unplaced : IsUnplaced request) (later : before.faults ≤ after.faults) (same : after.log ≡ before.log) where
    abbrev turn : Turn
    turn = record { asked = asked_of request second (plain_reply reply) buffer'; drawn = None; taken = None; commit_failed = false }

    abbrev made : EntropyView → Made
    made source = made_of turn before after source source

    kept_turn : (source : EntropyView) → IsStillTurn (running keys live claims entries) (counted (running keys live claims entries)) before after source source turn
    kept_turn source = record {
      is_turn = turn_is keys keys live live claims claims entries before after source source request second None (plain_reply reply) (bytes_put request (plain_reply reply) buffer') None None false
          (come_undrawn keys keys before after source request refl later) (reply_cause (made source) (plain_reply reply) is.caused unplaced.never) (reply_unstopped request before.faults after.faults (plain_reply reply) is.caused)
          (told_always (disk_in before.log) (λ d. ◌≡◌ {A = Option HostPath} None (taken_for s d live request None)) (λ d. sym (unplaced.path s d live)));
      goes_on = refl;
      whole = refl;
      log = same;
      allowed = told_then (disk_in before.log)
          (λ d. (contents : ℕ → Content) → StandsOn s d live claims contents → IsAnswerIn (live_rows contents live) request second (answer_in request (plain_reply reply) buffer'))
          (λ d. (contents : ℕ → Content) → StandsOn s d live claims contents → IsAnswered (live_rows contents live) (made source)) (is.answer second)
          (λ d may contents stands. is_answered (live_rows contents live) (made source) refl (may contents stands));
      shown = told_always (disk_in before.log) (λ d. (contents : ℕ → Content) → StandsOn s d live claims contents → ShowsRows s (rows_then (live_rows contents live) (made source)) d live claims)
          (λ d contents stands. record { contents = contents; stands = stands; shows = ap wrapped (sym (stays (live_rows contents live) request second (plain_reply reply) is.rows)) });
    }

    pub kept_reply : (source : EntropyView) → IsStill (running keys live claims entries) (running keys live claims entries) before after source source request second reply buffer buffer'
    kept_reply source = record {
      formed = record { form = is.form; count = is.count; enters = reply_enters request before.faults after.faults (plain_reply reply) is.caused; rest = is.rest };
      turn = record { turn = turn; same = refl; is = kept_turn source };
    }

  -- ---- by what is said of answers

  -- whatever the files hold at their lengths
  pub sized_read : (reply : Reply) (buffer buffer' : List ℕ) → IsReading request → ((d : Disk) (contents : ℕ → Content) → StandsOn s d live claims contents → AreSizes live contents)
      → IsSizedStepOf live request (answer_in request (plain_reply reply) buffer') → IsReplyTo request (plain_reply reply) (bytes_put request (plain_reply reply) buffer') → KeepsRest request (plain_reply reply) buffer buffer' → IsOwn (plain_reply reply)
      → HasCount reply → IsRead reply buffer buffer'
  sized_read reply buffer buffer' reads sizes is form rest own has = record {
    answer = λ second. told_always (disk_in before.log)
        (λ d. (contents : ℕ → Content) → StandsOn s d live claims contents → IsAnswerIn (live_rows contents live) request second (answer_in request (plain_reply reply) buffer'))
        (λ d contents stands. inl (is contents (sizes d contents stands) second));
    caused = own_reply request before.faults after.faults (plain_reply reply) own;
    rows = reading_keeps request (plain_reply reply) reads;
    form = form;
    count = has;
    rest = rest;
  }

  -- whatever they hold
  pub plain_read : (reply : Reply) (buffer : List ℕ) → KeepsRows request (plain_reply reply) → bytes_put request (plain_reply reply) buffer ≡ []
      → IsStepOf live request (says (plain_reply reply)) → IsReplyTo request (plain_reply reply) [] → IsOwn (plain_reply reply) → HasCount reply → IsRead reply buffer buffer
  plain_read reply buffer keeps none is form own has = record {
    answer = λ second. told_always (disk_in before.log)
        (λ d. (contents : ℕ → Content) → StandsOn s d live claims contents → IsAnswerIn (live_rows contents live) request second (answer_in request (plain_reply reply) buffer))
        (λ d contents stands. inl (ap (λ (bytes : List ℕ). record { reply = plain_reply reply; bytes = bytes }) none ∙ is contents second));
    caused = own_reply request before.faults after.faults (plain_reply reply) own;
    rows = keeps;
    form = subst (λ (bytes : List ℕ). IsReplyTo request (plain_reply reply) bytes) (sym none) form;
    count = has;
    rest = refl;
  }

  refused_answer : (refusal : Refusal) (buffer : List ℕ) → answer_in request (refused refusal) buffer ≡ refuses refusal
  refused_answer refusal buffer = ap (λ (bytes : List ℕ). record { reply = refused refusal; bytes = bytes }) (no_bytes request refusal buffer)

  -- lack of memory for a node that is there
  pub memory_read : (buffer : List ℕ) → MayLackMemory request → ((contents : ℕ → Content) (second : ℕ) → (step (live_rows contents live) request second).answer ≢ refuses refusals.Removed)
      → IsRead (replies.Refused refusals.OutOfMemory) buffer buffer
  memory_read buffer may other = record {
    answer = λ second. told_always (disk_in before.log)
        (λ d. (contents : ℕ → Content) → StandsOn s d live claims contents → IsAnswerIn (live_rows contents live) request second (answer_in request (refused refusals.OutOfMemory) buffer))
        (λ d contents stands. inr (inr (refused_answer refusals.OutOfMemory buffer, other contents second)));
    caused = may;
    rows = tt;
    form = tt;
    count = tt;
    rest = refl;
  }

  -- a reply, or lack of memory for it
  pub or_lacks_memory : (made : Result Reply AllocError) (reply : Reply) (buffer buffer' : List ℕ) → reply ≡ result_unwrap_or made (replies.Refused refusals.OutOfMemory) → OnErr made (buffer' ≡ buffer)
      → MayLackMemory request → OnErr made ((contents : ℕ → Content) (second : ℕ) → (step (live_rows contents live) request second).answer ≢ refuses refusals.Removed)
      → IfOk made (λ r. IsRead r buffer buffer') → IsRead reply buffer buffer'
  or_lacks_memory (Ok r) reply buffer buffer' is same may other read = subst (λ (r : Reply). IsRead r buffer buffer') (sym is) read
  or_lacks_memory (Err e) reply buffer buffer' is same may other read =
      subst (λ (r : Reply). IsRead r buffer buffer') (sym is)
      (subst (λ (b : List ℕ). IsRead (replies.Refused refusals.OutOfMemory) buffer b) (sym same) (memory_read buffer may other))

-- the same of the request as it was asked
pub kept_here : (keys keys' : KeyPair) (live live' : HeldTree) (claims : List (List ℕ × ℕ)) (entries : ℕ) (before after : FolderView) (source : EntropyView) (request known : PlainRequest) (second : ℕ) (reply : Reply) (buffer buffer' : List ℕ)
    → keys ≡ keys' → live ≡ live' → request ≡ known → IsStill (running keys live claims entries) (running keys live claims entries) before after source source known second reply buffer buffer'
    → IsStill (running keys' live' claims entries) (running keys' live' claims entries) before after source source request second reply buffer buffer'
kept_here keys keys' live live' claims entries before after source request known second reply buffer buffer' same_keys same_live same is =
    subst (λ (k : KeyPair). IsStill (running k live' claims entries) (running k live' claims entries) before after source source request second reply buffer buffer') same_keys
    (subst (λ (l : HeldTree). IsStill (running keys l claims entries) (running keys l claims entries) before after source source request second reply buffer buffer') same_live
    (subst (λ (r : PlainRequest). IsStill (running keys live claims entries) (running keys live claims entries) before after source source r second reply buffer buffer') (sym same) is))

-- the reply to a known request whose node is looked at in memory alone
pub looked_up : (keys : KeyPair) (live live' : HeldTree) (claims : List (List ℕ × ℕ)) (entries : ℕ) (folder : FolderView) (source : EntropyView) (request known : PlainRequest) (second : ℕ) (reply : Reply) (buffer buffer' : List ℕ) → live ≡ live'
    → request ≡ known → IsUnplaced known → IsRead keys live claims folder folder known reply buffer buffer'
    → IsStill (running keys live' claims entries) (running keys live' claims entries) folder folder source source request second reply buffer buffer'
looked_up keys live live' claims entries folder source request known second reply buffer buffer' same_live same unplaced is =
    kept_here keys keys live live' claims entries folder folder source request known second reply buffer buffer' refl same_live same
    (kept_reply keys live claims folder folder known entries second reply buffer buffer' is unplaced (omega arith) refl source)
