-- The turns of a store that runs: what a request came to.
use Rattle.std.proofs.Common.{◌≡◌, ℕ, suc, ◌≤◌, List, [], ◌++◌, Bool, true, false, Option, Some, None, IsSome, IsErr, Result, Ok, Err, refl, sym, ap, subst, ◌∙◌, inl, inr, arith}
use Rattle.std.proofs.lemmas.List.{append-nil}
use Rattle.std.proofs.lemmas.Option.{same_Some}
use Rattle.outside.specs.Calls.{Changes, Rose, Told}
use Rattle.outside.specs.Disk.{Disk, Path as HostPath}
use Rattle.outside.specs.Images.{Log, disk_in, now}
use Rattle.outside.specs.Views.{FolderView, EntropyView}
use Rattle.outside.proofs.Told.{changed_by, told_always, told_from, told_then, unchanged}
use Rattle.vault_keys.specs.Keys.{KeyPair}
use Rattle.tree_model.specs.declared.refusal.Refusal.{Refusal}
use Rattle.tree_model.specs.declared.refusal.Refusal.TheVariants as refusals
use Rattle.tree_model.specs.declared.reply.Reply.{Reply}
use Rattle.tree_model.specs.declared.reply.Reply.TheVariants as replies
use Rattle.tree_model.specs.Rows.{Content, Rows}
use Rattle.tree_model.specs.Asked.{PlainChange, PlainReply, PlainRequest, change as change_request, done, asked_of, bytes_put, plain_reply, refused}
use Rattle.tree_model.specs.Step.{Answer, says, step}
use Rattle.tree_model.specs.History.{Made, is_refusal, is_stopped, places, rows_then, HasCause, IsAnswered, MayCommit, MayDraw, MayPlace}
use Rattle.clear_tree.specs.Walk.{Sealing}
use Rattle.tree_loading.specs.Format.{sealing_of}
use Rattle.live_tree.specs.Held.{HeldTree, live_rows}
use Rattle.node_changes.specs.declared.error.ChangeErr.{ChangeErr}
use Rattle.node_changes.specs.declared.error.ChangeErr.TheVariants as change_errs
use Rattle.node_changes.specs.Causes.{ErrCause, IfBroken, IfRefused, IsUnchanged, RefusalCause}
use Rattle.node_changes.specs.Changed.{StandsOn, ShowsRows, HasChanged, MayHaveChanged, MayRefuse}
use Rattle.node_changes.specs.Creation.{HasCreated, IsDraw, MayHaveCreated}
use Rattle.node_changes.specs.Placed.{GoesOn, IfDrawn, IsIdentifierOf, taken_for}
use Rattle.node_changes.specs.Renaming.{HasRenamed}
use Rattle.store_laws.specs.Store.{StoreView, bounded}
use Rattle.store_laws.specs.Turns.{Draws, IsTakenFor, IsTurn, IsChangedTurn, Turn, made_of}
use Rattle.vault_store.specs.declared.answering.Broken.{Broken}
use Rattle.vault_store.specs.Open.{running, counted}
use Rattle.vault_store.specs.Outcome.{IsFormed, IsWork, HasReply, HasBroken}
use Rattle.vault_store.specs.Quiet.{IsStill, IsStillTurn}
use Rattle.vault_store.proofs.Waiting.{idle_reply, told_idle}
use Rattle.vault_store.proofs.Replies.{has_cause, not_stopped, enters, no_bytes, named_place, may_refuse, said_untaken}

-- ---- what is told

pub told_at : {X : Type 0} (o : Option X) (P : X → Type 0) (x : X) → o ≡ Some x → Told o P → P x
told_at {X = X} o P x is told = subst (λ (o : Option X). Told o P) is told

-- of the disk before a change
pub told_before : (a b : Option Log) (P : Log → Log → Type 0) (Q : Disk → Type 0) → ((x y : Log) → P x y → Q (now x)) → Changes a b P → Told (disk_in a) Q
told_before None None P Q h p = tt
told_before None (Some y) P Q h p = absurd p
told_before (Some x) None P Q h p = absurd p
told_before (Some x) (Some y) P Q h p = h x y p

-- the path that a disk tells, or another if none is told
abbrev pub told_path : Option Disk → (Disk → Option HostPath) → Option HostPath → Option HostPath
told_path None f other = other
told_path (Some d) f other = f d

pub told_path_is : (o : Option Disk) (f : Disk → Option HostPath) (other : Option HostPath) → Told o (λ d. told_path o f other ≡ f d)
told_path_is None f other = tt
told_path_is (Some d) f other = refl

-- ---- what is drawn

pub record HasDrawn (drawn : Option (List ℕ)) (old new : List ℕ) : Type 0 where
  pub more : List ℕ
  pub on : new ≡ old ++ more
  pub identifier : IfDrawn drawn (λ identifier. IsIdentifierOf identifier old new)

pub not_drawn : (source : EntropyView) → Changes source.drawn source.drawn (HasDrawn None)
not_drawn source = unchanged source.drawn source.drawn (HasDrawn None) refl (λ x. record { more = []; on = sym (append-nil x); identifier = tt })

-- of a node that was made
pub draws : (is_dir : Bool) (drawn : Option (List ℕ)) (drew drew' : Option (List ℕ)) → IsDraw is_dir drawn drew drew' → Changes drew drew' (HasDrawn drawn)
draws is_dir drawn drew drew' is = go drew drew' is.first is.more
  where
    go : (a b : Option (List ℕ)) → Changes a b (λ old new. IfDrawn drawn (λ identifier. IsIdentifierOf identifier old new)) → Changes a b GoesOn → Changes a b (HasDrawn drawn)
    go None None first more = tt
    go None (Some y) first more = absurd first
    go (Some x) None first more = absurd first
    go (Some x) (Some y) first more = record { more = more.0; on = more.1; identifier = first }

-- if an identifier may be drawn and none is named, nothing was
pub draws_made : (made : Made) (drew drew' : Option (List ℕ)) → (made.drawn ≡ None → MayDraw made.asked.request → drew' ≡ drew) → Changes drew drew' (HasDrawn made.drawn) → Changes drew drew' (Draws made)
draws_made made None None unspent is = tt
draws_made made None (Some y) unspent is = absurd is
draws_made made (Some x) None unspent is = absurd is
draws_made made (Some x) (Some y) unspent is = record { more = is.more; on = is.on; identifier = is.identifier; unspent = λ none may. same_Some y x (unspent none may) }

-- ---- turns

-- what each turn has
pub record IsCome (keys keys' : KeyPair) (before after : FolderView) (source source' : EntropyView) (request : PlainRequest) (drawn : Option (List ℕ)) : Type 0 where
  pub keys_are : keys' ≡ keys
  pub folder : before.faults ≤ after.faults
  pub entropy : source.faults ≤ source'.faults
  pub may_draw : IsSome drawn → MayDraw request
  pub drawn_is : Changes source.drawn source'.drawn (HasDrawn drawn)
  pub unspent : drawn ≡ None → MayDraw request → source'.drawn ≡ source.drawn

-- if nothing is drawn
pub come_undrawn : (keys keys' : KeyPair) (before after : FolderView) (source : EntropyView) (request : PlainRequest) → keys' ≡ keys → before.faults ≤ after.faults
    → IsCome keys keys' before after source source request None
come_undrawn keys keys' before after source request same later = record {
  keys_are = same;
  folder = later;
  entropy = omega arith;
  may_draw = λ some. let no : false ≡ true = some in absurd cc;
  drawn_is = not_drawn source;
  unspent = λ none may. refl;
}

module _ (keys keys' : KeyPair) (live live' : HeldTree) (claims claims' : List (List ℕ × ℕ)) (entries : ℕ) (before after : FolderView) (source source' : EntropyView) (request : PlainRequest) (second : ℕ) where
  abbrev s : Sealing
  s = sealing_of keys

  abbrev old : StoreView
  old = running keys live claims entries

  abbrev new : StoreView
  new = running keys' live' claims' entries

  abbrev pub turn_of : PlainReply → List ℕ → Option (List ℕ) → Option HostPath → Bool → Turn
  turn_of reply bytes drawn taken failed = record {
    asked = record { request = request; second = second; reply = reply; bytes = bytes };
    drawn = drawn;
    taken = taken;
    commit_failed = failed;
  }

  abbrev pub made : PlainReply → List ℕ → Option (List ℕ) → Option HostPath → Bool → Made
  made reply bytes drawn taken failed = made_of (turn_of reply bytes drawn taken failed) before after source source'

  abbrev AllowedAs : Made → Type 0
  AllowedAs m = Told (disk_in before.log) (λ d. (contents : ℕ → Content) → StandsOn s d live claims contents → IsAnswered (live_rows contents live) m)

  abbrev HasCome : Option (List ℕ) → Type 0
  HasCome drawn = IsCome keys keys' before after source source' request drawn

  pub turn_is : (stopped : Option ℕ) (reply : PlainReply) (bytes : List ℕ) (drawn : Option (List ℕ)) (taken : Option HostPath) (failed : Bool) → HasCome drawn → HasCause (made reply bytes drawn taken failed) reply → is_stopped reply ≡ false
      → IsTakenFor old before request drawn taken
      → IsTurn old (record { keys = keys'; live = live'; claims = claims'; waiting = []; entries = bounded (suc entries); stopped = stopped }) before after source source' (turn_of reply bytes drawn taken failed)
  turn_is stopped reply bytes drawn taken failed come cause unstopped place = record {
    running = refl;
    keys = come.keys_are;
    entries = refl;
    folder = come.folder;
    entropy = come.entropy;
    cause = cause;
    unstopped = unstopped;
    may_draw = come.may_draw;
    drawn = draws_made (made reply bytes drawn taken failed) source.drawn source'.drawn come.unspent come.drawn_is;
    taken = place;
  }

  -- ---- nothing is changed

  moved : (rows : Rows) (d : Disk) → live' ≡ live → claims' ≡ claims → ShowsRows s rows d live claims → ShowsRows s rows d live' claims'
  moved rows d same_live same_claims is =
      subst (λ (l : HeldTree). ShowsRows s rows d l claims') (sym same_live) (subst (λ (c : List (List ℕ × ℕ)). ShowsRows s rows d live c) (sym same_claims) is)

  -- a refusal of a request
  refusal_turn : (refusal : Refusal) (drawn : Option (List ℕ)) (taken : Option HostPath) → HasCome drawn → IsUnchanged live live' claims claims' before.log after.log
      → RefusalCause request (Rose before.faults after.faults) (Rose source.faults source'.faults) refusal
      → (MayPlace request → (path : HostPath) → refusal ≡ refusals.PlaceTaken path → taken ≡ Some path) → IsTakenFor old before request drawn taken → AllowedAs (made (refused refusal) [] drawn taken false)
      → IsStillTurn old (counted new) before after source source' (turn_of (refused refusal) [] drawn taken false)
  refusal_turn refusal drawn taken come same cause named place allowed = record {
    is_turn = turn_is None (refused refusal) [] drawn taken false come (has_cause (made (refused refusal) [] drawn taken false) refusal cause named)
        (not_stopped request (Rose before.faults after.faults) (Rose source.faults source'.faults) refusal cause) place;
    goes_on = refl;
    whole = refl;
    log = same.log;
    allowed = allowed;
    shown = told_always (disk_in before.log)
        (λ d. (contents : ℕ → Content) → StandsOn s d live claims contents → ShowsRows s (rows_then (live_rows contents live) (made (refused refusal) [] drawn taken false)) d live' claims')
        (λ d contents stands. moved (live_rows contents live) d same.live same.claims (record { contents = contents; stands = stands; shows = refl }));
  }

  refusal_asked : (refusal : Refusal) (buffer : List ℕ) → (turn_of (refused refusal) [] None None false).asked ≡ asked_of request second (refused refusal) buffer
  refusal_asked refusal buffer = ap (λ (bytes : List ℕ). record { request = request; second = second; reply = refused refusal; bytes = bytes }) (sym (no_bytes request refusal buffer))

  pub refusal_reply : (refusal : Refusal) (drawn : Option (List ℕ)) (taken : Option HostPath) (buffer : List ℕ) → HasCome drawn → IsUnchanged live live' claims claims' before.log after.log
      → RefusalCause request (Rose before.faults after.faults) (Rose source.faults source'.faults) refusal
      → (MayPlace request → (path : HostPath) → refusal ≡ refusals.PlaceTaken path → taken ≡ Some path) → IsTakenFor old before request drawn taken → AllowedAs (made (refused refusal) [] drawn taken false)
      → IsStill old new before after source source' request second (replies.Refused refusal) buffer buffer
  refusal_reply refusal drawn taken buffer come same cause named place allowed = record {
    formed = record { form = tt; count = tt; enters = enters request (Rose before.faults after.faults) (Rose source.faults source'.faults) refusal cause; rest = refl };
    turn = record {
      turn = turn_of (refused refusal) [] drawn taken false;
      same = refusal_asked refusal buffer;
      is = refusal_turn refusal drawn taken come same cause named place allowed;
    };
  }

  -- ---- a change that is refused

  module _ (drawn : Option (List ℕ)) where
    abbrev path_on : Disk → Option HostPath
    path_on d = taken_for s d live request drawn

    abbrev MayOn : Refusal → Disk → Type 0
    MayOn refusal d = MayRefuse s request second (path_on d) refusal d live claims

    named : (o : Option Disk) (refusal : Refusal) (path : HostPath) → Told o (MayOn refusal) → refusal ≡ refusals.PlaceTaken path → told_path o path_on (named_place refusal) ≡ Some path
    named None refusal path may is = ap named_place is
    named (Some d) refusal path may is = let moved : MayOn (refusals.PlaceTaken path) d = subst (λ (r : Refusal). MayOn r d) is may in moved.0

    abbrev taken_at : Refusal → Option HostPath
    taken_at refusal = told_path (disk_in before.log) path_on (named_place refusal)

    -- if the place is taken that it names, the request would put a node there
    abbrev Places : Refusal → Type 0
    Places refusal = Told (disk_in before.log) (λ d. (contents : ℕ → Content) → StandsOn s d live claims contents → (path : HostPath) → refusal ≡ refusals.PlaceTaken path → places (live_rows contents live) request ≡ true)

    refusal_allowed : (refusal : Refusal) → Places refusal → Told (disk_in before.log) (MayOn refusal) → AllowedAs (made (refused refusal) [] drawn (taken_at refusal) false)
    refusal_allowed refusal placed may =
        told_from (disk_in before.log)
        (λ d. (contents : ℕ → Content) → StandsOn s d live claims contents → IsAnswered (live_rows contents live) (made (refused refusal) [] drawn (taken_at refusal) false))
        (λ d is contents stands.
        let path : taken_at refusal ≡ path_on d = ap (λ (o : Option Disk). told_path o path_on (named_place refusal)) is in
        may_refuse s d live claims contents (made (refused refusal) [] drawn (taken_at refusal) false) refusal stands refl
        (told_at (disk_in before.log) (λ d. (contents : ℕ → Content) → StandsOn s d live claims contents → (path : HostPath) → refusal ≡ refusals.PlaceTaken path → places (live_rows contents live) request ≡ true) d is placed contents stands)
        (subst (λ (o : Option HostPath). MayRefuse s request second o refusal d live claims) (sym path) (told_at (disk_in before.log) (MayOn refusal) d is may)))

    pub refused_reply : (refusal : Refusal) (buffer : List ℕ) → HasCome drawn → IsUnchanged live live' claims claims' before.log after.log
        → RefusalCause request (Rose before.faults after.faults) (Rose source.faults source'.faults) refusal → Places refusal → Told (disk_in before.log) (MayOn refusal)
        → IsStill old new before after source source' request second (replies.Refused refusal) buffer buffer
    refused_reply refusal buffer come same cause placed may =
        refusal_reply refusal drawn (taken_at refusal) buffer come same cause (λ can path is. named (disk_in before.log) refusal path may is)
        (told_path_is (disk_in before.log) path_on (named_place refusal)) (refusal_allowed refusal placed may)

    -- ---- a change that is committed

    abbrev ChangedTo : PlainReply → Log → Log → Type 0
    ChangedTo reply a b = HasChanged s request second (says reply) live live' claims claims' a b

    changed_allowed : (reply : PlainReply) → Changes before.log after.log (ChangedTo reply) → AllowedAs (made reply [] drawn None false)
    changed_allowed reply change =
        told_before before.log after.log (ChangedTo reply) (λ d. (contents : ℕ → Content) → StandsOn s d live claims contents → IsAnswered (live_rows contents live) (made reply [] drawn None false))
        (λ a b is contents stands. inl (sym (is.answer_is contents stands) ∙ sym (said_untaken (live_rows contents live) request None (step (live_rows contents live) request second).answer refl))) change

    changed_turn : (reply : PlainReply) → HasCome drawn → is_refusal reply ≡ false → is_stopped reply ≡ false → HasCause (made reply [] drawn None false) reply → Told (disk_in before.log) (λ d. path_on d ≡ None)
        → Changes before.log after.log (ChangedTo reply) → IsChangedTurn old (counted new) before after source source' (turn_of reply [] drawn None false)
    changed_turn reply come accepted unstopped cause untaken change = record {
      is_turn = turn_is None reply [] drawn None false come cause unstopped
          (told_then (disk_in before.log) (λ d. path_on d ≡ None) (λ d. None ≡ path_on d) untaken (λ d none. sym none));
      none = (refl, refl);
      goes_on = refl;
      whole = refl;
      accepted = accepted;
      allowed = told_idle before.log _ (changed_allowed reply change);
      changed = change;
    }

    pub changed_reply : (reply : Reply) (buffer : List ℕ) → HasCome drawn → is_refusal (plain_reply reply) ≡ false → is_stopped (plain_reply reply) ≡ false → HasCause (made (plain_reply reply) [] drawn None false) (plain_reply reply)
        → IsFormed request reply buffer buffer → bytes_put request (plain_reply reply) buffer ≡ [] → Told (disk_in before.log) (λ d. path_on d ≡ None) → Changes before.log after.log (ChangedTo (plain_reply reply))
        → HasReply old new before after source source' request second reply buffer buffer
    changed_reply reply buffer come accepted unstopped cause formed none untaken change = record {
      formed = formed;
      turn = record {
        turn = turn_of (plain_reply reply) [] drawn None false;
        same = ap (λ (bytes : List ℕ). record { request = request; second = second; reply = plain_reply reply; bytes = bytes }) (sym none);
        is = inr (changed_turn (plain_reply reply) come accepted unstopped cause untaken change);
      };
    }

    -- ---- a change whose commit failed

    abbrev MayChangeTo : Log → Log → Type 0
    MayChangeTo a b = MayHaveChanged s request second live live' claims claims' a b

    abbrev broken_at : Option HostPath
    broken_at = told_path (disk_in before.log) path_on None

    broken_allowed : Changes before.log after.log MayChangeTo → AllowedAs (made (refused refusals.DeviceFault) [] drawn broken_at true)
    broken_allowed change =
        told_before before.log after.log MayChangeTo (λ d. (contents : ℕ → Content) → StandsOn s d live claims contents → IsAnswered (live_rows contents live) (made (refused refusals.DeviceFault) [] drawn broken_at true))
        (λ a b is contents stands. inr (inl (refl, is.late contents stands))) change

    pub broken_turn : (buffer : List ℕ) → HasCome drawn → Rose before.faults after.faults → MayCommit request → Changes before.log after.log MayChangeTo
        → HasBroken old new before after source source' request second buffer buffer
    broken_turn buffer come rose can change = record {
      turn = record {
        turn = turn_of (refused refusals.DeviceFault) [] drawn broken_at true;
        same = refusal_asked refusals.DeviceFault buffer;
        is = record {
          is_turn = turn_is (Some entries) (refused refusals.DeviceFault) [] drawn broken_at true come rose refl (told_path_is (disk_in before.log) path_on None);
          none = refl;
          stops = record { named = refl; failed = refl; reply = refl; may_commit = can };
          allowed = told_idle before.log _ (broken_allowed change);
          changed = change;
        };
      };
      buffer_is = refl;
    }

  -- ---- what a change that was not made comes to

  pub not_made : (error : ChangeErr) (result : Result Reply Broken) (buffer : List ℕ) → IfRefused error (λ refusal. result ≡ Ok (replies.Refused refusal)) → IfBroken error (IsErr result)
      → IfRefused error (λ refusal. HasReply old new before after source source' request second (replies.Refused refusal) buffer buffer)
      → IfBroken error (HasBroken old new before after source source' request second buffer buffer) → IsWork old new before after source source' request second result buffer buffer
  not_made (change_errs.Refused refusal) result buffer is broken reply stop = subst (λ (r : Result Reply Broken). IsWork old new before after source source' request second r buffer buffer) (sym is) reply
  not_made change_errs.Broken (Ok reply) buffer is broken made stop = let no : false ≡ true = broken in absurd cc
  not_made change_errs.Broken (Err b) buffer is broken made stop = stop

  module _ (drawn : Option (List ℕ)) where
    -- if no place is asked for, none is taken
    pub never_placed : ((d : Disk) → taken_for s d live request drawn ≡ None) → (refusal : Refusal) → Told (disk_in before.log) (MayOn drawn refusal) → Places drawn refusal
    never_placed none refusal may =
        told_then (disk_in before.log) (MayOn drawn refusal)
        (λ d. (contents : ℕ → Content) → StandsOn s d live claims contents → (path : HostPath) → refusal ≡ refusals.PlaceTaken path → places (live_rows contents live) request ≡ true) may
        (λ d may contents stands path is.
        let moved : MayRefuse s request second (taken_for s d live request drawn) (refusals.PlaceTaken path) d live claims = subst (λ (r : Refusal). MayOn drawn r d) is may in
        let no : ◌≡◌ {A = Option HostPath} None (Some path) = sym (none d) ∙ moved.0 in absurd cc)

    -- if a place is asked for always
    pub always_placed : ((rows : Rows) → places rows request ≡ true) → (refusal : Refusal) → Told (disk_in before.log) (MayOn drawn refusal) → Places drawn refusal
    always_placed asks refusal may =
        told_always (disk_in before.log)
        (λ d. (contents : ℕ → Content) → StandsOn s d live claims contents → (path : HostPath) → refusal ≡ refusals.PlaceTaken path → places (live_rows contents live) request ≡ true)
        (λ d contents stands path is. asks (live_rows contents live))

    pub change_err : (error : ChangeErr) (result : Result Reply Broken) (buffer : List ℕ) → IfRefused error (λ refusal. result ≡ Ok (replies.Refused refusal)) → IfBroken error (IsErr result) → HasCome drawn
        → IfRefused error (λ refusal. IsUnchanged live live' claims claims' before.log after.log) → ErrCause request (Rose before.faults after.faults) (Rose source.faults source'.faults) error
        → ((refusal : Refusal) → Told (disk_in before.log) (MayOn drawn refusal) → Places drawn refusal) → IfRefused error (λ refusal. Told (disk_in before.log) (MayOn drawn refusal))
        → MayCommit request → IfBroken error (Changes before.log after.log (MayChangeTo drawn)) → IsWork old new before after source source' request second result buffer buffer
    change_err (change_errs.Refused refusal) result buffer is broken come same cause placing may can change =
        not_made (change_errs.Refused refusal) result buffer is broken (idle_reply old new before after source source' request second (replies.Refused refusal) buffer buffer refl refl (refused_reply drawn refusal buffer come same cause (placing refusal may) may)) tt
    change_err change_errs.Broken result buffer is broken come same cause placing may can change =
        not_made change_errs.Broken result buffer is broken tt (broken_turn drawn buffer come cause can change)

-- a cause is one if the random source is used, too
pub undrawn_cause : (request : PlainRequest) (folder entropy : Type 0) (error : ChangeErr) → ErrCause request folder ⊥ error → ErrCause request folder entropy error
undrawn_cause request folder entropy change_errs.Broken cause = cause
undrawn_cause request folder entropy (change_errs.Refused refusals.RandomFault) cause = absurd cause
undrawn_cause request folder entropy (change_errs.Refused refusal) cause = cause

-- ---- of a node that was made

module _ (keys : KeyPair) (request : PlainRequest) (second : ℕ) (answer : Answer) (drawn : Option (List ℕ)) (live live' : HeldTree) (claims claims' : List (List ℕ × ℕ)) (drew drew' : Option (List ℕ)) (a b : Option Log) where
  abbrev Created : Log → Log → Type 0
  Created x y = HasCreated keys request second answer drawn live live' claims claims' drew drew' x y

  pub changes_created : Changes a b Created → Changes a b (HasChanged (sealing_of keys) request second answer live live' claims claims')
  changes_created is = changed_by a b Created (HasChanged (sealing_of keys) request second answer live live' claims claims') (λ x y made. made.changed) is

  may_have_created : Changes a b (MayHaveCreated keys request second drawn live live' claims claims' drew drew') → Changes a b (MayHaveChanged (sealing_of keys) request second live live' claims claims')
  may_have_created is =
      changed_by a b (MayHaveCreated keys request second drawn live live' claims claims' drew drew') (MayHaveChanged (sealing_of keys) request second live live' claims claims') (λ x y may. may.changed) is

  pub broken_created : (error : ChangeErr) → IfBroken error (Changes a b (MayHaveCreated keys request second drawn live live' claims claims' drew drew'))
      → IfBroken error (Changes a b (MayHaveChanged (sealing_of keys) request second live live' claims claims'))
  broken_created change_errs.Broken is = may_have_created is
  broken_created (change_errs.Refused refusal) is = tt

  pub untaken_created : Changes a b Created → Told (disk_in a) (λ d. taken_for (sealing_of keys) d live request drawn ≡ None)
  untaken_created is = told_before a b Created (λ d. taken_for (sealing_of keys) d live request drawn ≡ None) (λ x y made. made.untaken) is

-- ---- of one that got another name

module _ (s : Sealing) (number : ℕ) (c : PlainChange) (second : ℕ) (live live' : HeldTree) (claims claims' : List (List ℕ × ℕ)) (a b : Option Log) where
  abbrev Renamed : Log → Log → Type 0
  Renamed x y = HasRenamed s number c second live live' claims claims' x y

  pub changes_renamed : Changes a b Renamed → Changes a b (HasChanged s (change_request number c) second (says done) live live' claims claims')
  changes_renamed is = changed_by a b Renamed (HasChanged s (change_request number c) second (says done) live live' claims claims') (λ x y made. made.changed) is

  pub untaken_renamed : Changes a b Renamed → Told (disk_in a) (λ d. taken_for s d live (change_request number c) None ≡ None)
  untaken_renamed is = told_before a b Renamed (λ d. taken_for s d live (change_request number c) None ≡ None) (λ x y made. made.untaken) is
