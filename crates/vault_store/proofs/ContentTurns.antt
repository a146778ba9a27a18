-- Changes of a file's content: what the step makes of them, and which turns they are.
use Rattle.std.proofs.Common.{◌≡◌, ℕ, suc, ◌+◌, ◌==◌, ◌≤◌, ◌%◌, ◌^◌, List, [], length, Bool, true, false, cond, Option, Some, None, IsErr, unwrap_or, Result, Ok, refl, sym, ap, subst, ◌∙◌, inl, inr, eq-eqb, arith}
use Rattle.std.specs.Option.{option_map_or}
use Rattle.std.proofs.lemmas.Option.{same_Some}
use Rattle.outside.specs.Calls.{Changes, Rose, Told}
use Rattle.outside.specs.Disk.{Disk, Path as HostPath}
use Rattle.outside.specs.Images.{Log, disk_in, now}
use Rattle.outside.specs.Views.{FolderView, EntropyView}
use Rattle.outside.proofs.Told.{changed_by, told_always, told_then}
use Rattle.vault_keys.specs.Keys.{KeyPair}
use Rattle.tree_model.specs.declared.refusal.Refusal.{Refusal}
use Rattle.tree_model.specs.declared.refusal.Refusal.TheVariants as refusals
use Rattle.tree_model.specs.declared.reply.Reply.{Reply}
use Rattle.tree_model.specs.declared.reply.Reply.TheVariants as replies
use Rattle.tree_model.specs.declared.stat.Qid.{Qid}
use Rattle.tree_model.specs.Rows.{Content, Row, Rows, is_dir, qid_of, row_of}
use Rattle.tree_model.specs.Contents.{resized}
use Rattle.tree_model.specs.Asked.{PlainChange, PlainRequest, change, open_node, write, count, done, qid, bytes_put, plain_reply}
use Rattle.tree_model.specs.Step.{Stepped, early, early_refusal, new_length, new_name, node_of, place_step, refuses, says, set_row, step, stepped, truncates, with_content, with_mtime, work}
use Rattle.tree_model.proofs.Steps.{step_worked}
use Rattle.tree_model.specs.History.{Made, is_refusal, is_stopped, places, rows_then, HasCause, IsAnswered, MayCommit, MayDraw}
use Rattle.clear_tree.specs.Walk.{Sealing}
use Rattle.clear_tree.specs.Kept.{What, kind_of}
use Rattle.tree_loading.specs.Format.{sealing_of}
use Rattle.version_laws.specs.RowVersions.{wrapped}
use Rattle.live_tree.specs.Held.{HeldNode, HeldTree, live_row, live_rows, node_of as node_in}
use Rattle.tree_answers.specs.Answers.{is_own}
use Rattle.tree_answers.proofs.Rows.{row_there}
use Rattle.request_checks.specs.Files.{IsResizable}
use Rattle.request_checks.specs.Plans.{IsOpenRefusal, IsWriteRefusal, IsPlanned, IsPlannedIn}
use Rattle.request_checks.specs.declared.planning.Plan.TheVariants.{Resize}
use Rattle.content_writer.specs.Sealing.{GoesOn}
use Rattle.file_changes.specs.Causes.{ContentCause}
use Rattle.file_changes.specs.Steps.{IsResizing, dated}
use Rattle.node_changes.specs.declared.error.ChangeErr.{ChangeErr}
use Rattle.node_changes.specs.declared.error.ChangeErr.TheVariants as change_errs
use Rattle.node_changes.specs.Causes.{ErrCause, IfBroken, IfRefused, IsUnchanged, RefusalCause}
use Rattle.node_changes.specs.Changed.{StandsOn, ShowsRows, HasChanged, MayHaveChanged, MayRefuse}
use Rattle.node_changes.specs.Placed.{taken_for}
use Rattle.store_laws.specs.Store.{StoreView}
use Rattle.store_laws.specs.Turns.{Turn, IsChangedTurn, made_of}
use Rattle.vault_store.specs.declared.answering.Broken.{Broken}
use Rattle.vault_store.specs.Contents.{IsChangedQid}
use Rattle.vault_store.specs.Open.{running, counted}
use Rattle.vault_store.specs.Outcome.{IsFormed, IsWork, HasReply}
use Rattle.vault_store.specs.Quiet.{IsStill, IsStillTurn}
use Rattle.vault_store.specs.Sizes.{SizesAreHeld}
use Rattle.vault_store.proofs.HostReads.{answer_of}
use Rattle.vault_store.proofs.Waiting.{idle_reply, told_idle}
use Rattle.vault_store.proofs.Replies.{own_cause, own_may, said_unplaced}
use Rattle.vault_store.proofs.Turns.{HasDrawn, IsCome, broken_turn, not_made, refused_reply, told_before, told_path, told_path_is, turn_is}

-- ---- the step

-- if nothing refuses a request before the work, the step is the work on the row
late_step : (rows : Rows) (request : PlainRequest) (second : ℕ) (row : Row) → row_of rows (node_of request) ≡ Some row → early_refusal rows request ≡ None → step rows request second ≡ work rows row request second
late_step rows request second row there none =
    step_worked rows request second row there (sym (ap (λ (o : Option Row). option_map_or (λ row. early rows row request) o (Some refusals.Removed)) there) ∙ none)

-- and there is a row
late_row : (rows : Rows) (request : PlainRequest) → early_refusal rows request ≡ None → (row : Row) × (row_of rows (node_of request) ≡ Some row)
late_row rows request none = by (row_of rows (node_of request)) refl
  where
    by : (o : Option Row) → row_of rows (node_of request) ≡ o → (row : Row) × (row_of rows (node_of request) ≡ Some row)
    by (Some row) is = (row, is)
    by None is =
        let removed : Some refusals.Removed ≡ None = sym (ap (λ (o : Option Row). option_map_or (λ row. early rows row request) o (Some refusals.Removed)) is) ∙ none in absurd cc

-- sizes are held under the same keys
pub sizes_here : (keys keys' : KeyPair) → keys' ≡ keys → SizesAreHeld (sealing_of keys') → SizesAreHeld (sealing_of keys)
sizes_here keys keys' same sizes = subst (λ (k : KeyPair). SizesAreHeld (sealing_of k)) same sizes

-- what refuses a write before the work, by the tree in memory
pub write_early : (keys keys' : KeyPair) (live live' : HeldTree) (claims : List (List ℕ × ℕ)) (number at len : ℕ) (refusal : Option Refusal) → keys' ≡ keys → live' ≡ live → SizesAreHeld (sealing_of keys')
    → IsWriteRefusal live' number at len refusal → (bytes : List ℕ) → length bytes ≡ len
    → (d : Disk) (contents : ℕ → Content) → StandsOn (sealing_of keys) d live claims contents → early_refusal (live_rows contents live) (write number at bytes) ≡ refusal
write_early keys keys' live live' claims number at len refusal same_keys same_live sizes is bytes long d contents stands =
    subst (λ (l : HeldTree). IsWriteRefusal l number at len refusal) same_live is contents
    (sizes_here keys keys' same_keys sizes d live claims contents stands) bytes long

-- and a truncation
pub open_early : (keys keys' : KeyPair) (live live' : HeldTree) (claims : List (List ℕ × ℕ)) (number mode : ℕ) (refusal : Option Refusal) → keys' ≡ keys → live' ≡ live → SizesAreHeld (sealing_of keys')
    → IsOpenRefusal live' number mode refusal → (d : Disk) (contents : ℕ → Content) → StandsOn (sealing_of keys) d live claims contents → early_refusal (live_rows contents live) (open_node number mode) ≡ refusal
open_early keys keys' live live' claims number mode refusal same_keys same_live sizes is d contents stands =
    subst (λ (l : HeldTree). IsOpenRefusal l number mode refusal) same_live is contents (sizes_here keys keys' same_keys sizes d live claims contents stands)

-- a write of no byte
pub empty_write : (rows : Rows) (number at second : ℕ) (bytes : List ℕ) → length bytes ≡ 0 → early_refusal rows (write number at bytes) ≡ None → step rows (write number at bytes) second ≡ stepped rows (says (count 0))
empty_write rows number at second bytes empty none =
    let there = late_row rows (write number at bytes) none in
    late_step rows (write number at bytes) second there.0 there.1 none ∙ no_bytes _ (length bytes == 0) (eq-eqb (length bytes) 0 empty)
  where
    no_bytes : (x : Stepped) (b : Bool) → b ≡ true → cond b (stepped rows (says (count 0))) x ≡ stepped rows (says (count 0))
    no_bytes x true is = refl
    no_bytes x false is = absurd cc

-- ---- requests that give a file another length

abbrev cut_step : Rows → Row → ℕ → Option Content → Stepped
cut_step rows row second content =
    option_map_or (λ content. stepped (set_row rows (with_content row content second)) (says (qid (qid_of (with_content row content second))))) content (stepped rows (refuses refusals.Damaged))

pub truncation_resizes : (s : Sealing) (live : HeldTree) (claims : List (List ℕ × ℕ)) (number mode second : ℕ) (q : Qid) → SizesAreHeld s → truncates mode ≡ true → IsResizable live number 0 → IsOpenRefusal live number mode None
    → IsChangedQid live number q → IsResizing s live claims number 0 None second (open_node number mode) (says (qid q))
truncation_resizes s live claims number mode second q sizes cuts can free changed = λ d contents stands.
    let rows : Rows = live_rows contents live in
    let row : Row = live_row contents (number, can.is.held) in
    let there : row_of (live_rows contents live) number ≡ Some (live_row contents (number, can.is.held)) = row_there contents live number can.is.held can.is.there in
    let late : early_refusal (live_rows contents live) (open_node number mode) ≡ None = free contents (sizes d live claims contents stands) in
    let cut : step rows (open_node number mode) second ≡ cut_step rows row second (resized row.content 0) =
    late_step rows (open_node number mode) second row there late ∙ ap (λ (b : Bool). cond b (cut_step rows row second (resized row.content 0)) (stepped rows (says (qid (qid_of row))))) cuts in
    record {
      row = row;
      there = there;
      late = late;
      made = λ content is.
          cut ∙ ap (cut_step rows row second) is ∙ ap (λ (q : Qid). stepped (set_row rows (with_content row content second)) (says (qid q))) (sym (changed contents row there content second));
      damaged = λ none. answer_of (cut ∙ ap (cut_step rows row second) none);
    }

-- the same by what is known of the tree in memory
pub truncation_here : (keys keys' : KeyPair) (live live' live'' : HeldTree) (claims : List (List ℕ × ℕ)) (number mode second : ℕ) (q : Qid) → keys' ≡ keys → live' ≡ live → live'' ≡ live → SizesAreHeld (sealing_of keys') → truncates mode ≡ true
    → IsResizable live' number 0 → IsOpenRefusal live' number mode None → IsChangedQid live'' number q → IsResizing (sealing_of keys) live claims number 0 None second (open_node number mode) (says (qid q))
truncation_here keys keys' live live' live'' claims number mode second q same_keys same_live same_live' sizes cuts can free changed =
    truncation_resizes (sealing_of keys) live claims number mode second q (sizes_here keys keys' same_keys sizes) cuts (subst (λ (l : HeldTree). IsResizable l number 0) same_live can)
    (subst (λ (l : HeldTree). IsOpenRefusal l number mode None) same_live free) (subst (λ (l : HeldTree). IsChangedQid l number q) same_live' changed)

-- the qid of a file once its content changed
next : (v : ℕ) → v + 1 ≡ suc v
next v = omega arith

pub qid_changes : (live : HeldTree) (number len version : ℕ) (node : HeldNode) → IsResizable live number len → Some node ≡ node_in live number → version ≡ node.version
    → IsChangedQid live number (record { kind = 0; version = (version + 1) % 2 ^ 32; path = number })
qid_changes live number len version node can here is contents row there content second =
    let held : HeldNode = can.is.held in
    let same : node ≡ can.is.held = same_Some node can.is.held (here ∙ can.is.there) in
    let row_is : live_row contents (number, can.is.held) ≡ row = same_Some (live_row contents (number, can.is.held)) row (sym (row_there contents live number can.is.held can.is.there) ∙ there) in
    ap (λ (v : ℕ). qid_at 0 v number) (next version ∙ ap suc (is ∙ ap (λ (n : HeldNode). n.version) same))
    ∙ sym (ap (λ (w : What). qid_at (cond (is_dir (kind_of w)) 0x80 0) (suc held.version) number) can.is.file)
    ∙ ap (λ (row : Row). qid_of (with_content row content second)) row_is
  where
    qid_at : ℕ → ℕ → ℕ → Qid
    qid_at kind version path = record { kind = kind; version = version % 2 ^ 32; path = path }

dated_row : (c : PlainChange) (row : Row) → with_mtime c row ≡ dated c.modified row
dated_row c row = by c.modified
  where
    by : (modified : Option ℕ) → record row { modified = unwrap_or modified row.modified } ≡ dated modified row
    by None = refl
    by (Some modified) = refl

abbrev length_step : Rows → Row → PlainChange → ℕ → Option Content → Stepped
length_step rows row c second content =
    option_map_or (λ content. stepped (set_row rows (with_mtime c (with_content row content second))) (says done)) content (stepped rows (refuses refusals.Damaged))

pub change_resizes : (s : Sealing) (live : HeldTree) (claims : List (List ℕ × ℕ)) (number len second : ℕ) (c : PlainChange) → SizesAreHeld s → IsPlanned live number c (Resize len)
    → IsResizing s live claims number len c.modified second (change number c) (says done)
change_resizes s live claims number len second c sizes planned = λ d contents stands.
    let rows : Rows = live_rows contents live in
    let is : IsPlannedIn (live_rows contents live) number c (Resize len) = planned contents (sizes d live claims contents stands) in
    let long : step rows (change number c) second ≡ length_step rows is.row c second (resized is.row.content len) =
    late_step rows (change number c) second is.row is.there is.early
    ∙ ap (λ (name : Option (List ℕ)). place_step rows is.row c name (new_length is.row c) second) is.fits.named
    ∙ ap (λ (n : Option ℕ). place_step rows is.row c None n second) is.fits.long
    ∙ ap (λ (o : Option Refusal). option_map_or (λ refusal. stepped rows (refuses refusal)) o (length_step rows is.row c second (resized is.row.content len))) is.fits.allowed in
    record {
      row = is.row;
      there = is.there;
      late = is.early;
      made = λ content e. long ∙ ap (length_step rows is.row c second) e ∙ ap (λ (row : Row). stepped (set_row rows row) (says done)) (dated_row c (with_content is.row content second));
      damaged = λ none. answer_of (long ∙ ap (length_step rows is.row c second) none);
    }

abbrev is_new : Option (List ℕ) → Bool
is_new None = false
is_new (Some name) = true

-- a node that gets another length gets no new place
pub resize_unplaced : (s : Sealing) (live : HeldTree) (claims : List (List ℕ × ℕ)) (number len : ℕ) (c : PlainChange) → SizesAreHeld s → IsPlanned live number c (Resize len)
    → (d : Disk) (contents : ℕ → Content) → StandsOn s d live claims contents → places (live_rows contents live) (change number c) ≡ false
resize_unplaced s live claims number len c sizes planned d contents stands =
    let is : IsPlannedIn (live_rows contents live) number c (Resize len) = planned contents (sizes d live claims contents stands) in
    ap (λ (o : Option Row). option_map_or (λ row. is_new (new_name row c)) o false) is.there ∙ ap is_new is.fits.named

-- ---- what is drawn

-- if nonces are drawn alone
pub come_drawing : (keys keys' : KeyPair) (before after : FolderView) (source source' : EntropyView) (request : PlainRequest) → keys' ≡ keys → before.faults ≤ after.faults → source.faults ≤ source'.faults
    → Changes source.drawn source'.drawn GoesOn → (MayDraw request → ⊥) → IsCome keys keys' before after source source' request None
come_drawing keys keys' before after source source' request same later entropy drawn nonces = record {
  keys_are = same;
  folder = later;
  entropy = entropy;
  may_draw = λ some. let no : false ≡ true = some in absurd cc;
  drawn_is = changed_by source.drawn source'.drawn GoesOn (HasDrawn None) (λ a b more. record { more = more.0; on = more.1; identifier = tt }) drawn;
  unspent = λ none may. absurd (nonces may);
}

-- ---- causes

not_taken : (folder entropy : Type 0) (refusal : Refusal) (path : HostPath) → ContentCause folder entropy refusal → refusal ≡ refusals.PlaceTaken path → ⊥
not_taken folder entropy refusal path cause is = subst (ContentCause folder entropy) is cause

own_not_taken : (refusal : Refusal) (path : HostPath) → is_own refusal ≡ true → refusal ≡ refusals.PlaceTaken path → ⊥
own_not_taken refusal path own is = let no : false ≡ true = sym (ap is_own is) ∙ own in cc

-- whatever place is taken
may_anyway : (s : Sealing) (request : PlainRequest) (second : ℕ) (taken : Option HostPath) (folder entropy : Type 0) (refusal : Refusal) (d : Disk) (live : HeldTree) (claims : List (List ℕ × ℕ)) → ContentCause folder entropy refusal
    → MayRefuse s request second None refusal d live claims → MayRefuse s request second taken refusal d live claims
may_anyway s request second taken folder entropy (refusals.PlaceTaken path) d live claims cause may = absurd cause
may_anyway s request second taken folder entropy refusal d live claims cause may = may

-- ---- turns

module _ (keys keys' : KeyPair) (live live' : HeldTree) (claims claims' : List (List ℕ × ℕ)) (entries : ℕ) (before after : FolderView) (source source' : EntropyView) (request : PlainRequest) (second : ℕ) (come : IsCome keys keys' before after source source' request None) where
  abbrev s : Sealing
  s = sealing_of keys

  abbrev old : StoreView
  old = running keys live claims entries

  abbrev new : StoreView
  new = running keys' live' claims' entries

  abbrev path_on : Disk → Option HostPath
  path_on d = taken_for s d live request None

  abbrev taken : Option HostPath
  taken = told_path (disk_in before.log) path_on None

  abbrev PlacedOn : Refusal → Disk → Type 0
  PlacedOn refusal d = (contents : ℕ → Content) → StandsOn s d live claims contents → (path : HostPath) → refusal ≡ refusals.PlaceTaken path → places (live_rows contents live) request ≡ true

  -- ---- refusals

  -- one of the tree's own
  pub own_reply : (refusal : Refusal) (buffer : List ℕ) → IsUnchanged live live' claims claims' before.log after.log → is_own refusal ≡ true
      → ((d : Disk) (contents : ℕ → Content) → StandsOn s d live claims contents → (step (live_rows contents live) request second).answer ≡ refuses refusal)
      → IsStill old new before after source source' request second (replies.Refused refusal) buffer buffer
  own_reply refusal buffer same own is =
      refused_reply keys keys' live live' claims claims' entries before after source source' request second None refusal buffer come same
      (own_cause request (Rose before.faults after.faults) (Rose source.faults source'.faults) refusal own)
      (told_always (disk_in before.log) (PlacedOn refusal) (λ d contents stands path e. absurd (own_not_taken refusal path own e)))
      (told_always (disk_in before.log) (λ d. MayRefuse s request second (path_on d) refusal d live claims) (λ d. own_may s request second (path_on d) refusal d live claims own (λ contents stands. is d contents stands)))

  -- one of a change of a content
  pub content_refused : (refusal : Refusal) (buffer : List ℕ) → IsUnchanged live live' claims claims' before.log after.log → RefusalCause request (Rose before.faults after.faults) (Rose source.faults source'.faults) refusal
      → ContentCause (Rose before.faults after.faults) (Rose source.faults source'.faults) refusal → Told (disk_in before.log) (λ d. MayRefuse s request second None refusal d live claims)
      → IsStill old new before after source source' request second (replies.Refused refusal) buffer buffer
  content_refused refusal buffer same cause own may =
      refused_reply keys keys' live live' claims claims' entries before after source source' request second None refusal buffer come same cause
      (told_always (disk_in before.log) (PlacedOn refusal) (λ d contents stands path e. absurd (not_taken (Rose before.faults after.faults) (Rose source.faults source'.faults) refusal path own e)))
      (told_then (disk_in before.log) (λ d. MayRefuse s request second None refusal d live claims) (λ d. MayRefuse s request second (path_on d) refusal d live claims) may
      (λ d may. may_anyway s request second (path_on d) (Rose before.faults after.faults) (Rose source.faults source'.faults) refusal d live claims own may))

  -- a change of a content that wasn't made, or whose commit failed
  pub content_err : (error : ChangeErr) (result : Result Reply Broken) (buffer : List ℕ) → IfRefused error (λ refusal. result ≡ Ok (replies.Refused refusal)) → IfBroken error (IsErr result)
      → IfRefused error (λ refusal. IsUnchanged live live' claims claims' before.log after.log) → ErrCause request (Rose before.faults after.faults) (Rose source.faults source'.faults) error
      → IfRefused error (ContentCause (Rose before.faults after.faults) (Rose source.faults source'.faults)) → IfRefused error (λ refusal. Told (disk_in before.log) (λ d. MayRefuse s request second None refusal d live claims))
      → MayCommit request → IfBroken error (Changes before.log after.log (MayHaveChanged s request second live live' claims claims')) → IsWork old new before after source source' request second result buffer buffer
  content_err (change_errs.Refused refusal) result buffer is broken same cause own may can changed =
      not_made keys keys' live live' claims claims' entries before after source source' request second (change_errs.Refused refusal) result buffer is broken
      (idle_reply old new before after source source' request second (replies.Refused refusal) buffer buffer refl refl (content_refused refusal buffer same cause own may)) tt
  content_err change_errs.Broken result buffer is broken same cause own may can changed =
      not_made keys keys' live live' claims claims' entries before after source source' request second change_errs.Broken result buffer is broken tt
      (broken_turn keys keys' live live' claims claims' entries before after source source' request second None buffer come cause can changed)

  -- ---- replies

  module _ (reply : Reply) (buffer : List ℕ) (formed : IsFormed request reply buffer buffer) (none : bytes_put request (plain_reply reply) buffer ≡ [])
      (unplaced : (d : Disk) (contents : ℕ → Content) → StandsOn s d live claims contents → places (live_rows contents live) request ≡ false) where
    abbrev turn : Turn
    turn = record {
      asked = record { request = request; second = second; reply = plain_reply reply; bytes = [] };
      drawn = None;
      taken = taken;
      commit_failed = false;
    }

    abbrev made : Made
    made = made_of turn before after source source'

    abbrev AllowedOn : Disk → Type 0
    AllowedOn d = (contents : ℕ → Content) → StandsOn s d live claims contents → IsAnswered (live_rows contents live) made

    module _ (unstopped : is_stopped (plain_reply reply) ≡ false) (cause : HasCause made (plain_reply reply)) where
      -- a change of a content that was committed
      abbrev ChangedTo : Log → Log → Type 0
      ChangedTo a b = HasChanged s request second (says (plain_reply reply)) live live' claims claims' a b

      content_turn : is_refusal (plain_reply reply) ≡ false → Changes before.log after.log ChangedTo → IsChangedTurn old (counted new) before after source source' turn
      content_turn accepted changed = record {
        is_turn = turn_is keys keys' live live' claims claims' entries before after source source' request second None (plain_reply reply) [] None taken false come cause unstopped (told_path_is (disk_in before.log) path_on None);
        none = (refl, refl);
        goes_on = refl;
        whole = refl;
        accepted = accepted;
        allowed = told_idle before.log _ (told_before before.log after.log ChangedTo AllowedOn
            (λ a b is contents stands.
            inl (sym (is.answer_is contents stands) ∙ sym (said_unplaced (live_rows contents live) request taken (step (live_rows contents live) request second).answer (unplaced (now a) contents stands)))) changed);
        changed = changed;
      }

      pub content_reply : is_refusal (plain_reply reply) ≡ false → Changes before.log after.log ChangedTo → HasReply old new before after source source' request second reply buffer buffer
      content_reply accepted changed = record {
        formed = formed;
        turn = record {
          turn = turn;
          same = ap (λ (bytes : List ℕ). record { request = request; second = second; reply = plain_reply reply; bytes = bytes }) (sym none);
          is = inr (content_turn accepted changed);
        };
      }

      -- a reply after which the rows are as they were
      module _ (same : IsUnchanged live live' claims claims' before.log after.log)
          (is : (d : Disk) (contents : ℕ → Content) → StandsOn s d live claims contents → step (live_rows contents live) request second ≡ stepped (live_rows contents live) (says (plain_reply reply))) where
        abbrev ShownOn : Disk → Type 0
        ShownOn d = (contents : ℕ → Content) → StandsOn s d live claims contents → ShowsRows s (rows_then (live_rows contents live) made) d live' claims'

        same_shown : (d : Disk) (contents : ℕ → Content) → StandsOn s d live claims contents → (rows : Rows) → rows ≡ live_rows contents live → ShowsRows s rows d live' claims'
        same_shown d contents stands rows rows_are =
            subst (λ (l : HeldTree). ShowsRows s rows d l claims') (sym same.live)
            (subst (λ (c : List (List ℕ × ℕ)). ShowsRows s rows d live c) (sym same.claims) (record { contents = contents; stands = stands; shows = ap wrapped (sym rows_are) }))

        shown_on : (d : Disk) (contents : ℕ → Content) → StandsOn s d live claims contents → (b : Bool) → ShowsRows s (cond b (live_rows contents live) (step (live_rows contents live) request second).rows) d live' claims'
        shown_on d contents stands true = same_shown d contents stands (live_rows contents live) refl
        shown_on d contents stands false = same_shown d contents stands (step (live_rows contents live) request second).rows (ap (λ (s : Stepped). s.rows) (is d contents stands))

        still_turn : IsStillTurn old (counted new) before after source source' turn
        still_turn = record {
          is_turn = turn_is keys keys' live live' claims claims' entries before after source source' request second None (plain_reply reply) [] None taken false come cause unstopped (told_path_is (disk_in before.log) path_on None);
          goes_on = refl;
          whole = refl;
          log = same.log;
          allowed = told_always (disk_in before.log) AllowedOn
              (λ d contents stands.
              inl (sym (answer_of (is d contents stands)) ∙ sym (said_unplaced (live_rows contents live) request taken (step (live_rows contents live) request second).answer (unplaced d contents stands))));
          shown = told_always (disk_in before.log) ShownOn (λ d contents stands. shown_on d contents stands (is_refusal (plain_reply reply)));
        }

        pub still_reply : IsStill old new before after source source' request second reply buffer buffer
        still_reply = record {
          formed = formed;
          turn = record {
            turn = turn;
            same = ap (λ (bytes : List ℕ). record { request = request; second = second; reply = plain_reply reply; bytes = bytes }) (sym none);
            is = still_turn;
          };
        }
