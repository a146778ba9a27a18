-- What is told of a change of a file's content before and after its commit.
use Rattle.std.proofs.Common.{◌≡◌, ◌++◌, ℕ, List, Option, Some, None, Result, Err, is_some, refl, sym, ap, ◌∙◌, subst}
use Rattle.outside.specs.Calls.{Told, Changes, Extends, Rose}
use Rattle.outside.specs.Disk.{Disk, Path as HostPath}
use Rattle.outside.specs.Images.{Log, now, disk_in}
use Rattle.outside.proofs.Told.{told_then, told_both, told_always, changed_by, both_changed, changed_from}
use Rattle.deeds.specs.Deeds.{PlainDeed, in_order}
use Rattle.deeds.proofs.Doing.{same_run}
use Rattle.chunk_journal.specs.Journal.{AnyMoment, HasCommitted}
use Rattle.vault_keys.specs.Keys.{KeyPair}
use Rattle.tree_model.specs.declared.refusal.Refusal.{Refusal}
use Rattle.tree_model.specs.declared.refusal.Refusal.TheVariants as refusals
use Rattle.tree_model.specs.Rows.{Content}
use Rattle.tree_model.specs.Asked.{PlainRequest}
use Rattle.tree_model.specs.Step.{Answer, refuses, step}
use Rattle.clear_tree.specs.Walk.{Sealing}
use Rattle.tree_loading.specs.Format.{sealing_of}
use Rattle.file_chunks.specs.File.{content_of}
use Rattle.live_tree.specs.Held.{HeldTree, live_rows, path_of}
use Rattle.content_laws.specs.Rewriting.{Rewriting}
use Rattle.content_reader.specs.Reading.{IsFileOf as IsHostFileOf}
use Rattle.content_writer.specs.declared.error.WriteErr.{WriteErr}
use Rattle.content_writer.specs.declared.error.WriteErr.TheVariants as write_errs
use Rattle.content_writer.specs.Sealed.{IsPuttable, nonces_of}
use Rattle.content_writer.specs.Sealing.{HasFaulted}
use Rattle.write_back.specs.Deeds.{deeds_of, DeedsRewrite, Rewrites}
use Rattle.pending_files.specs.Pending.{IsInside}
use Rattle.node_changes.specs.Changed.{StandsOn, IsAtRest, MakesStep, ShowsRows, IsStepAnswer, IsLate, HasChanged, MayHaveChanged, MayRefuse}
use Rattle.node_changes.specs.Causes.{RefusalCause}
use Rattle.file_changes.specs.Causes.{ContentCause, write_refusal}
use Rattle.file_changes.specs.Files.{HasFileFor, IsSealedFor, IsSealedIn}
use Rattle.file_changes.specs.Held.{RowsAreRewritten}
use Rattle.file_changes.specs.Rewritten.{DrawsNonces, HasRewritten, MayHaveRewritten}
use Rattle.file_changes.specs.Steps.{ChangesContent, IsResizing}
use Rattle.file_changes.proofs.Within.{path_within}
use Rattle.file_changes.proofs.Standing.{HeldFile, TreeAfter, there, host, old, content_of_row, has_file, made, answered, shows, spares}
use Rattle.tree_model.specs.Contents.{resized}

-- what is told of the disk is told of the log
of_disk : (log : Option Log) (P : Disk → Type 0) → Told (disk_in log) P → Told log (λ (l : Log). P (now l))
of_disk None P p = tt
of_disk (Some l) P p = p

-- the change makes nothing of it
abbrev pub IsDamagedIn : KeyPair → HostPath → ℕ → (Content → Option Content) → Option Log → Type 0
IsDamagedIn keys path size change log = Told (disk_in log) (λ (d : Disk). (bytes : List ℕ) → IsHostFileOf d path size bytes → change (content_of keys bytes) ≡ None)

-- a call failed for this cause
abbrev pub IsCause : WriteErr → WriteErr → Type 0
IsCause cause other = ◌≡◌ {A = Result (Unit {0}) WriteErr} (Err cause) (Err other)

-- the tree in memory is that of what reads give
abbrev pub Stands : Sealing → HeldTree → List (List ℕ × ℕ) → Log → Type 0
Stands s live claims log = (contents : ℕ → Content) × StandsOn s (now log) live claims contents

pub at_rest : (s : Sealing) (live : HeldTree) (claims : List (List ℕ × ℕ)) (log : Option Log) → Told log (IsAtRest s live claims) → Told log (Stands s live claims)
at_rest s live claims log rest = told_then log (IsAtRest s live claims) (Stands s live claims) rest (λ l r. (r.contents, r.stands))

-- such a request is refused by nothing that comes before the work
pub never_early : (s : Sealing) (live : HeldTree) (claims : List (List ℕ × ℕ)) (number : ℕ) (change : Content → Option Content) (modified : Option ℕ) (second : ℕ) (request : PlainRequest) (answer : Answer)
    → ChangesContent s live claims number change modified second request answer → (d : Disk) → IsLate s request d live claims
never_early s live claims number change modified second request answer its d contents stands = ap (λ (o : Option Refusal). is_some o) (its d contents stands).late

-- The file of a number is at this path in a tree that stands for what is told; its keys were read.
pub record ToldFile : Type 0 where
  pub file : HeldFile
  pub path : HostPath
  pub path_is : path_of file.live file.number ≡ Some path
  pub read : KeyPair
  pub same : read ≡ file.keys
  pub log : Option Log
  pub rest : Told log (Stands (sealing_of file.keys) file.live file.claims)

-- a request that changes its content so
pub record ContentAsked (file : HeldFile) : Type 0 where
  pub change : Content → Option Content
  pub modified : Option ℕ
  pub second : ℕ
  pub request : PlainRequest
  pub answer : Answer
  pub its : ChangesContent (sealing_of file.keys) file.live file.claims file.number change modified second request answer

-- its content is sealed anew, and the deeds of that rewrite its host file
pub record SealedAnew (at : ToldFile) (change : Content → Option Content) : Type 0 where
  pub r : Rewriting
  pub sealed : IsSealedIn at.read at.path at.file.size r change at.log
  pub law : DeedsRewrite
  pub inside : IsInside at.path
  pub puttable : IsPuttable at.file.size r

-- in a tree at rest
abbrev pub told_at_rest : (file : HeldFile) (path : HostPath) → path_of file.live file.number ≡ Some path → (read : KeyPair) → read ≡ file.keys → (log : Option Log) → Told log (IsAtRest (sealing_of file.keys) file.live file.claims) → ToldFile
told_at_rest file path path_is read same log rest = record {
  file = file;
  path = path;
  path_is = path_is;
  read = read;
  same = same;
  log = log;
  rest = at_rest (sealing_of file.keys) file.live file.claims log rest;
}

-- a request that gives it another length
abbrev pub resizing_of : (file : HeldFile) (len : ℕ) (modified : Option ℕ) (second : ℕ) (request : PlainRequest) (answer : Answer)
    → IsResizing (sealing_of file.keys) file.live file.claims file.number len modified second request answer → ContentAsked file
resizing_of file len modified second request answer its = record {
  change = λ content. resized content len;
  modified = modified;
  second = second;
  request = request;
  answer = answer;
  its = its;
}

module _ (at : ToldFile) where
  open at use {file, path, path_is, read, same, log, rest, file.{keys, live, claims, number, size}}

  abbrev s : Sealing
  s = sealing_of keys

  -- a fault of the folder in a read of it
  pub faulted : (before after : ℕ) → HasFaulted (disk_in log) path before after → Rose before after
  faulted before after h = go log rest h
    where
      go : (o : Option Log) → Told o (Stands s live claims) → HasFaulted (disk_in o) path before after → Rose before after
      go None p f = f
      go (Some l) p f = f (old file (now l) p.0 p.1, there file (now l) p.0 p.1 path path_is)

  -- the log is as it was
  module _ (between : Option Log) (same_log : between ≡ log) where
    -- the host file can be rewritten
    pub told_file : (r : Rewriting) (change : Content → Option Content) → IsSealedIn read path size r change log → Told between (λ (l : Log). HasFileFor (now l) path r)
    told_file r change sealed =
        subst (λ (o : Option Log). Told o (λ (l : Log). HasFileFor (now l) path r)) (sym same_log)
        (told_both log (Stands s live claims) (λ (l : Log). IsSealedFor keys path size r change (now l)) (λ (l : Log). HasFileFor (now l) path r) rest
        (of_disk log (IsSealedFor keys path size r change) (subst (λ (k : KeyPair). IsSealedIn k path size r change log) same sealed))
        (λ l p q. has_file file (now l) p.0 p.1 path path_is r change q))

  module _ (asked : ContentAsked file) where
    open asked use {change, modified, second, request, answer, its}

    late : (d : Disk) → IsLate (sealing_of keys) request d live claims
    late = never_early (sealing_of keys) live claims number change modified second request answer its

    -- ---- the change was made
    module _ (anew : SealedAnew at change) (tree_after : TreeAfter file anew.r modified second) (rows : RowsAreRewritten live tree_after.live number modified second) where
      open anew use {r, sealed, law, inside, puttable}
      open tree_after use {live as live', claims as claims'}

      abbrev deeds : List PlainDeed
      deeds = deeds_of path r

      module _ (d : Disk) (can : IsSealedFor keys path size r change d) where
        abbrev done : (contents : ℕ → Content) → StandsOn s d live claims contents → (bytes : List ℕ) × Rewrites d path bytes r
        done contents stands = (
          old file d contents stands,
          made file d contents stands path path_is r change can law inside puttable,
        )

        makes : (contents : ℕ → Content) → StandsOn s d live claims contents → MakesStep s request second deeds d live live' claims claims'
        makes contents stands =
            let here = (done contents stands).1 in
            record {
              after = here.after;
              does = here.does;
              repeatable = here.repeatable;
              within = ((path_within live number path path_is, tt), tt);
              strays = spares file d contents stands path path_is r change can here.after here.is;
              stepped = λ others more.
                  let more_here = (done others more).1 in
                  let same_disk : more_here.after ≡ here.after = same_run (in_order deeds) d more_here.after here.after more_here.does here.does in
                  subst (λ (x : Disk). ShowsRows s (step (live_rows others live) request second).rows x live' claims') same_disk
                  (shows file d others more path path_is r change can more_here.after more_here.is second modified tree_after request answer (its d others more) rows);
            }

        answer_is : IsStepAnswer s request second answer d live claims
        answer_is contents stands = answered file d contents stands path path_is r change can second modified request answer (its d contents stands)

      -- what is known before the commit
      abbrev Made : Log → Type 0
      Made l = MakesStep s request second deeds (now l) live live' claims claims' × IsStepAnswer s request second answer (now l) live claims

      told_made : Told log Made
      told_made =
          told_both log (Stands s live claims) (λ (l : Log). IsSealedFor keys path size r change (now l)) Made rest
          (of_disk log (IsSealedFor keys path size r change) (subst (λ (k : KeyPair). IsSealedIn k path size r change log) same sealed))
          (λ l p q. (makes (now l) q p.0 p.1, answer_is (now l) q))

      module _ (between : Option Log) (same_log : between ≡ log) (log' : Option Log) (any : Changes between log' (AnyMoment (deeds_of path r))) where
        any_moment : Changes log log' (AnyMoment deeds)
        any_moment = subst (λ (o : Option Log). Changes o log' (AnyMoment deeds)) same_log any

        pub content_may_have_changed : Changes log log' (MayHaveChanged (sealing_of keys) request second live live' claims claims')
        content_may_have_changed =
            changed_from log log' Made (AnyMoment deeds) (MayHaveChanged s request second live live' claims claims')
            (λ x y m moments. record { deeds = deeds; makes = m.0; late = late (now x); any_moment = moments }) told_made any_moment

        pub content_may_have_rewritten : (drew drew' : Option (List ℕ)) → Extends drew drew' (nonces_of r.sealed) → Changes log log' (MayHaveRewritten (sealing_of keys) request second live live' claims claims' drew drew')
        content_may_have_rewritten drew drew' drawn =
            changed_from log log' Made (AnyMoment deeds) (MayHaveRewritten s request second live live' claims claims' drew drew')
            (λ x y m moments. record {
              changed = record { deeds = deeds; makes = m.0; late = late (now x); any_moment = moments };
              nonces = changed_by drew drew' (λ (a b : List ℕ). b ≡ a ++ nonces_of r.sealed) (DrawsNonces deeds) (λ a b more. record { path = path; rewriting = r; are = refl; drew = more }) drawn;
            }) told_made any_moment

        module _ (drew drew' : Option (List ℕ)) (drawn : Extends drew drew' (nonces_of r.sealed)) (committed : Changes between log' (HasCommitted (deeds_of path r))) where
          pub content_rewritten : Changes log log' (HasRewritten (sealing_of keys) request second answer live live' claims claims' drew drew')
          content_rewritten =
              changed_from log log' Made (λ x y. AnyMoment deeds x y × HasCommitted deeds x y) (HasRewritten s request second answer live live' claims claims' drew drew')
              (λ x y m done. record {
                changed = record { deeds = deeds; makes = m.0; answer_is = m.1; any_moment = done.0; committed = done.1 };
                nonces = changed_by drew drew' (λ (a b : List ℕ). b ≡ a ++ nonces_of r.sealed) (DrawsNonces deeds) (λ a b more. record { path = path; rewriting = r; are = refl; drew = more }) drawn;
              }) told_made
              (both_changed log log' (AnyMoment deeds) (HasCommitted deeds) any_moment (subst (λ (o : Option Log). Changes o log' (HasCommitted deeds)) same_log committed))

          pub content_changed : Changes log log' (HasChanged (sealing_of keys) request second answer live live' claims claims')
          content_changed =
              changed_by log log' (HasRewritten s request second answer live live' claims claims' drew drew') (HasChanged s request second answer live live' claims claims') (λ x y h. h.changed) content_rewritten

    -- ---- it is refused
    damaged_answer : (d : Disk) → ((bytes : List ℕ) → IsHostFileOf d path size bytes → change (content_of keys bytes) ≡ None) → IsStepAnswer s request second (refuses refusals.Damaged) d live claims
    damaged_answer d none contents stands =
        let step_of = its d contents stands in
        step_of.damaged
        (ap change (content_of_row file d contents stands step_of.row step_of.there)
        ∙ none (old file d contents stands) (host file d contents stands path path_is))

    by_cause : (cause : WriteErr) → (IsCause cause write_errs.Damaged → IsDamagedIn read path size change log) → Told (disk_in log) (λ (d : Disk). MayRefuse s request second None (write_refusal cause) d live claims)
    by_cause write_errs.Damaged none =
        told_then (disk_in log) (λ (d : Disk). (bytes : List ℕ) → IsHostFileOf d path size bytes → change (content_of keys bytes) ≡ None)
        (λ (d : Disk). IsStepAnswer s request second (refuses refusals.Damaged) d live claims) (subst (λ (k : KeyPair). IsDamagedIn k path size change log) same (none refl)) damaged_answer
    by_cause write_errs.Device none = told_always (disk_in log) (λ (d : Disk). IsLate s request d live claims) late
    by_cause write_errs.Random none = told_always (disk_in log) (λ (d : Disk). IsLate s request d live claims) late

    pub content_refused : (cause : WriteErr) (refusal : Refusal) → refusal ≡ write_refusal cause → (IsCause cause write_errs.Damaged → IsDamagedIn read path size change log)
        → Told (disk_in log) (λ (d : Disk). MayRefuse (sealing_of keys) request second None refusal d live claims)
    content_refused cause refusal refusal_is none =
        subst (λ (x : Refusal). Told (disk_in log) (λ (d : Disk). MayRefuse s request second None x d live claims)) (sym refusal_is) (by_cause cause none)

  -- ---- causes
  module _ (cause : WriteErr) (refusal : Refusal) (refusal_is : refusal ≡ write_refusal cause) (before after : ℕ) (entropy : Type 0) (device : IsCause cause write_errs.Device → HasFaulted (disk_in log) path before after)
      (random : IsCause cause write_errs.Random → entropy) where
    own : (e : WriteErr) → cause ≡ e → ContentCause (Rose before after) entropy (write_refusal e)
    own write_errs.Damaged same_cause = tt
    own write_errs.Device same_cause = faulted before after (device (ap Err same_cause))
    own write_errs.Random same_cause = random (ap Err same_cause)

    pub content_cause : ContentCause (Rose before after) entropy refusal
    content_cause = subst (ContentCause (Rose before after) entropy) (sym refusal_is) (own cause refl)

    of_request : (request : PlainRequest) (e : WriteErr) → ContentCause (Rose before after) entropy (write_refusal e) → RefusalCause request (Rose before after) entropy (write_refusal e)
    of_request request write_errs.Damaged h = tt
    of_request request write_errs.Device h = h
    of_request request write_errs.Random h = h

    pub request_cause : (request : PlainRequest) → RefusalCause request (Rose before after) entropy refusal
    request_cause request = subst (RefusalCause request (Rose before after) entropy) (sym refusal_is) (of_request request cause (own cause refl))
