-- What was drawn for a new node, why it was refused, and what its commit made of it.
use Rattle.std.proofs.Common.{◌≡◌, ℕ, Bool, List, [], ◌++◌, Option, Some, None, IfSome, IsTrue, length, refl, sym, ap, ◌∙◌, subst, inl, inr, ◌⊎◌, true, false, true≢false, append_assoc}
use Rattle.std.proofs.lemmas.List.{append-nil}
use Rattle.std.specs.Prelude.{⊤}
use Rattle.vault_path.specs.Parts.{is_path}
use Rattle.outside.specs.Disk.{Disk, Path as HostPath}
use Rattle.outside.specs.Calls.{Changes, Told}
use Rattle.outside.specs.Images.{Log, now, disk_in}
use Rattle.outside.proofs.Told.{told_then, told_both, told_always, unchanged, changed_by, both_changed, changed_from}
use Rattle.deeds.specs.Deeds.{PlainDeed, DoesAll, in_order}
use Rattle.deeds.proofs.Doing.{told_disk}
use Rattle.chunk_journal.specs.Journal.{AnyMoment, HasCommitted}
use Rattle.batch_looks.specs.declared.misfit.Misfit.{Misfit}
use Rattle.batch_looks.specs.declared.misfit.Misfit.TheVariants as misfits
use Rattle.vault_keys.specs.Keys.{KeyPair}
use Rattle.tree_model.specs.declared.refusal.Refusal.{Refusal}
use Rattle.tree_model.specs.declared.refusal.Refusal.TheVariants as refusals
use Rattle.tree_model.specs.Asked.{PlainRequest, create}
use Rattle.tree_model.specs.Step.{Answer}
use Rattle.clear_tree.specs.Walk.{Sealing}
use Rattle.clear_tree.specs.Places.{host_folder}
use Rattle.tree_loading.specs.Format.{sealing_of}
use Rattle.tree_deed_laws.specs.Deeds.{Place, create_file_deeds, create_dir_deeds}
use Rattle.live_tree.specs.Held.{HeldTree, live_rows}
use Rattle.tree_model.specs.History.{is_refusal}
use Rattle.name_places.specs.declared.directory.NewDirectory.{NewDirectory}
use Rattle.name_places.specs.New.{identifier_of}
use Rattle.name_places.specs.Laws.{EntriesAreParts}
use Rattle.name_places.specs.Asked.{IsTaken}
use Rattle.name_places.specs.Asked.{identifier_in as drawn_in}
use Rattle.node_changes.specs.declared.site.Site.{Site}
use Rattle.node_changes.specs.Causes.{RefusalCause, misfit_refusal}
use Rattle.node_changes.specs.Changed.{IsAtRest, IsStepAnswer, MakesStep, MayRefuse}
use Rattle.node_changes.specs.Placed.{taken_for, DrawsHeader, DrawsIdentifier, IsIdentifierOf, GoesOn}
use Rattle.node_changes.proofs.Committing.{late_by}
use Rattle.node_changes.specs.Creation.{HasCreated, IsDraw, IsFoundTaken, MayHaveCreated}
use Rattle.node_changes.specs.Creating.{DrawsDirectory, DrawsHead, DrawsIf, HasRefused, IsPlaceRefusal, IsReady, IsRefusal, IsSiteRefusal, IsUntaken}
use Rattle.node_changes.proofs.Makings.{Asked, told_taken, is_late, is_accepted, never_removed}

-- ---- what was drawn

stayed : (drew drew' : Option (List ℕ)) → drew' ≡ drew → Changes drew drew' GoesOn
stayed drew drew' e = unchanged drew drew' GoesOn e (λ x. ([], sym (append-nil x)))

-- with no identifier, if nothing was drawn for a directory
partly : (is_dir : Bool) (drew drew' : Option (List ℕ)) → Changes drew drew' GoesOn → (is_dir ≡ true → drew' ≡ drew) → IsDraw is_dir None drew drew'
partly is_dir drew drew' changes unspent = record {
  directory = λ e. absurd (true≢false (sym e));
  more = changes;
  first = changed_by drew drew' GoesOn (λ old new. ⊤) (λ old new more. tt) changes;
  unspent = λ none made. unspent made;
}

pub no_draw : (is_dir : Bool) (drew drew' : Option (List ℕ)) → drew' ≡ drew → IsDraw is_dir None drew drew'
no_draw is_dir drew drew' same = partly is_dir drew drew' (stayed drew drew' same) (λ made. same)

pub file_draw : (is_dir : Bool) (drew drew' : Option (List ℕ)) → is_dir ≡ false → Changes drew drew' GoesOn → IsDraw is_dir None drew drew'
file_draw is_dir drew drew' file changes = partly is_dir drew drew' changes (λ made. absurd (true≢false (sym made ∙ file)))

pub identifier_drawn : (drew drew' : Option (List ℕ)) (bytes : List ℕ) → length bytes ≡ 16 → Changes drew drew' (λ old new. new ≡ old ++ bytes) → (identifier : List ℕ) → identifier ≡ identifier_of bytes
    → Changes drew drew' (IsIdentifierOf identifier)
identifier_drawn drew drew' bytes sixteen extends identifier is =
    changed_by drew drew' (λ (old new : List ℕ). new ≡ old ++ bytes) (IsIdentifierOf identifier)
    (λ old new e. record { bytes = bytes; sixteen = sixteen; rest = []; drew = e ∙ sym (append-nil (old ++ bytes)); is = is }) extends

module _ (keys : KeyPair) (is_dir : Bool) where
  pub drew_directory : (directory : Option NewDirectory) (drew drew' : Option (List ℕ)) → DrawsIf keys is_dir directory drew drew' → IsDraw is_dir (drawn_in directory) drew drew'
  drew_directory None drew drew' h = no_draw is_dir drew drew' h.1
  drew_directory (Some directory) drew drew' h = record {
    directory = λ e. h.0;
    more = changed_by drew drew' (IsIdentifierOf directory.identifier) GoesOn (λ old new it. (it.bytes ++ it.rest, it.drew ∙ append_assoc old it.bytes it.rest)) h.1.first;
    first = h.1.first;
    unspent = λ none made. let no : Some directory.identifier ≡ None = none in absurd cc;
  }

  -- a place is tested before a file's header is drawn
  pub found_taken : (directory : Option NewDirectory) (drew drew' : Option (List ℕ)) (refusal : Refusal) → DrawsIf keys is_dir directory drew drew' → IsFoundTaken is_dir drew drew' refusal
  found_taken None drew drew' refusal h = λ path is file. h.1
  found_taken (Some directory) drew drew' refusal h = λ path is file. absurd (true≢false (sym h.0 ∙ file))

  pub own_folder : (directory : Option NewDirectory) (drew drew' : Option (List ℕ)) → DrawsIf keys is_dir directory drew drew'
      → IfSome directory (λ (d : NewDirectory). d.folder ≡ (sealing_of keys).folder_of d.identifier)
  own_folder None drew drew' h = tt
  own_folder (Some directory) drew drew' h = h.1.is.folder

  pub own_path : (directory : Option NewDirectory) (drew drew' : Option (List ℕ)) → DrawsIf keys is_dir directory drew drew'
      → IfSome directory (λ (d : NewDirectory). IsTrue (is_path (host_folder d.folder)))
  own_path None drew drew' h = tt
  own_path (Some directory) drew drew' h = h.1.is.path

-- a directory is made of what was drawn for it
pub directory_drawn : (keys : KeyPair) (drew drew' : Option (List ℕ)) (directory : NewDirectory) → DrawsDirectory keys directory drew drew' → (place : Place) (text : List ℕ) (deeds : List PlainDeed)
    → deeds ≡ create_dir_deeds place text directory.folder directory.identifier → Changes drew drew' (DrawsIdentifier (sealing_of keys) deeds directory.identifier)
directory_drawn keys drew drew' directory draws place text deeds are =
    changed_by drew drew' (λ (old new : List ℕ). new ≡ old ++ draws.bytes) (DrawsIdentifier (sealing_of keys) deeds directory.identifier)
    (λ old new e. record {
      bytes = draws.bytes;
      sixteen = draws.sixteen;
      drew = e;
      is = draws.is.identifier;
      place = place;
      text = text;
      are = are ∙ ap (λ (own : List ℕ). create_dir_deeds place text own directory.identifier) draws.is.folder;
    }) draws.drawn

pub header_drawn : (keys : KeyPair) (drew drew' : Option (List ℕ)) (header : List ℕ) → DrawsHead keys drew drew' header → (place : Place) (text : List ℕ) (deeds : List PlainDeed) → deeds ≡ create_file_deeds place text header
    → Changes drew drew' (DrawsHeader keys deeds)
header_drawn keys drew drew' header draws place text deeds are =
    changed_by drew drew' (λ (old new : List ℕ). new ≡ old ++ draws.head.nonce ++ draws.head.key) (DrawsHeader keys deeds)
    (λ old new e. record { head = draws.head; nonce = draws.nonce; key = draws.key; drew = e; place = place; text = text; are = are ∙ ap (λ (h : List ℕ). create_file_deeds place text h) draws.is }) draws.drawn

pub head_changes : (keys : KeyPair) (drew drew' : Option (List ℕ)) (header : List ℕ) → DrawsHead keys drew drew' header → Changes drew drew' GoesOn
head_changes keys drew drew' header draws = changed_by drew drew' (λ (old new : List ℕ). new ≡ old ++ draws.head.nonce ++ draws.head.key) GoesOn (λ old new e. (draws.head.nonce ++ draws.head.key, e ∙ append_assoc old draws.head.nonce draws.head.key)) draws.drawn

-- if nothing was drawn before
pub header_partly : (drew mid drew' : Option (List ℕ)) → mid ≡ drew → Changes mid drew' GoesOn → Changes drew drew' GoesOn
header_partly drew mid drew' same changes = subst (λ (d : Option (List ℕ)). Changes d drew' GoesOn) same changes

-- and no other refusal is of a place
pub never_taken : (is_dir : Bool) (drew drew' : Option (List ℕ)) (refusal : Refusal) → ((path : HostPath) → refusal ≡ refusals.PlaceTaken path → ⊥) → IsFoundTaken is_dir drew drew' refusal
never_taken is_dir drew drew' refusal none = λ path is file. absurd (none path is)

-- ---- refusals

pub cause_more : (request : PlainRequest) (F E : Type 0) (refusal : Refusal) → RefusalCause request ⊥ ⊥ refusal → RefusalCause request F E refusal
cause_more request F E refusals.Removed h = tt
cause_more request F E refusals.NotADirectory h = tt
cause_more request F E refusals.IsADirectory h = tt
cause_more request F E refusals.BadName h = tt
cause_more request F E refusals.NameTooLong h = tt
cause_more request F E refusals.FileDoesNotExist h = tt
cause_more request F E refusals.FileExists h = tt
cause_more request F E refusals.NotPermitted h = tt
cause_more request F E refusals.DirectoryNotEmpty h = tt
cause_more request F E refusals.CountTooSmall h = tt
cause_more request F E refusals.FileTooLarge h = tt
cause_more request F E refusals.GapTooLarge h = tt
cause_more request F E refusals.OneChangeAtATime h = tt
cause_more request F E refusals.VaultFull h = tt
cause_more request F E refusals.Damaged h = tt
cause_more request F E refusals.Foreign h = tt
cause_more request F E (refusals.PlaceTaken path) h = h
cause_more request F E (refusals.Stopped f) h = absurd h
cause_more request F E (refusals.Exhausted ticket) h = absurd h
cause_more request F E refusals.DeviceFault h = absurd h
cause_more request F E refusals.RandomFault h = absurd h
cause_more request F E refusals.OutOfMemory h = h

module _ (s : Sealing) (live : HeldTree) (claims : List (List ℕ × ℕ)) (parent : ℕ) (name : List ℕ) (is_directory : Bool) (mode second : ℕ) (drawn : Option (List ℕ)) where
  -- before anything is drawn
  pub site_refused : (refusal : Refusal) → IsSiteRefusal live parent name refusal → RefusalCause (create parent name is_directory mode) ⊥ ⊥ refusal → (d : Disk)
      → IsRefusal s (create parent name is_directory mode) second drawn refusal live claims d
  site_refused refusals.Removed is own d contents stands = λ others more. is others is_directory mode second
  site_refused refusals.NotADirectory is own d contents stands = λ others more. is others is_directory mode second
  site_refused refusals.IsADirectory is own d contents stands = λ others more. is others is_directory mode second
  site_refused refusals.BadName is own d contents stands = λ others more. is others is_directory mode second
  site_refused refusals.NameTooLong is own d contents stands = λ others more. is others is_directory mode second
  site_refused refusals.FileDoesNotExist is own d contents stands = λ others more. is others is_directory mode second
  site_refused refusals.FileExists is own d contents stands = λ others more. is others is_directory mode second
  site_refused refusals.NotPermitted is own d contents stands = λ others more. is others is_directory mode second
  site_refused refusals.DirectoryNotEmpty is own d contents stands = λ others more. is others is_directory mode second
  site_refused refusals.CountTooSmall is own d contents stands = λ others more. is others is_directory mode second
  site_refused refusals.FileTooLarge is own d contents stands = λ others more. is others is_directory mode second
  site_refused refusals.GapTooLarge is own d contents stands = λ others more. is others is_directory mode second
  site_refused refusals.OneChangeAtATime is own d contents stands = λ others more. is others is_directory mode second
  site_refused refusals.VaultFull is own d contents stands = λ others more. is others is_directory mode second
  site_refused refusals.Damaged is own d contents stands = λ others more. is others is_directory mode second
  site_refused refusals.Foreign is own d contents stands = λ others more. is others is_directory mode second
  site_refused (refusals.PlaceTaken path) is own d contents stands = absurd is
  site_refused (refusals.Stopped f) is own d contents stands = absurd own
  site_refused (refusals.Exhausted ticket) is own d contents stands = absurd own
  site_refused refusals.DeviceFault is own d contents stands = absurd own
  site_refused refusals.RandomFault is own d contents stands = absurd own
  site_refused refusals.OutOfMemory is own d contents stands = λ others more. is others is_directory mode second

-- which refusals a check of places gives
abbrev AreTaken : Site → Option NewDirectory → HeldTree → List (List ℕ × ℕ) → Option Disk → HostPath → Type 0
AreTaken site drawn live claims disk path = Told disk (IsTaken site.folder site.place drawn live claims (Some path))

place_cases : (site : Site) (drawn : Option NewDirectory) (live : HeldTree) (claims : List (List ℕ × ℕ)) (disk : Option Disk) (failed : Type 0) (refusal : Refusal) → IsPlaceRefusal site drawn live claims disk failed refusal
    → ((refusal ≡ refusals.DeviceFault) × failed) ⊎ ((path : HostPath) × (refusal ≡ refusals.PlaceTaken path) × AreTaken site drawn live claims disk path)
place_cases site drawn live claims disk failed refusals.DeviceFault h = inl (refl, h)
place_cases site drawn live claims disk failed (refusals.PlaceTaken path) h = inr (path, refl, h)
place_cases site drawn live claims disk failed refusals.Removed h = absurd h
place_cases site drawn live claims disk failed refusals.NotADirectory h = absurd h
place_cases site drawn live claims disk failed refusals.IsADirectory h = absurd h
place_cases site drawn live claims disk failed refusals.BadName h = absurd h
place_cases site drawn live claims disk failed refusals.NameTooLong h = absurd h
place_cases site drawn live claims disk failed refusals.FileDoesNotExist h = absurd h
place_cases site drawn live claims disk failed refusals.FileExists h = absurd h
place_cases site drawn live claims disk failed refusals.NotPermitted h = absurd h
place_cases site drawn live claims disk failed refusals.DirectoryNotEmpty h = absurd h
place_cases site drawn live claims disk failed refusals.CountTooSmall h = absurd h
place_cases site drawn live claims disk failed refusals.FileTooLarge h = absurd h
place_cases site drawn live claims disk failed refusals.GapTooLarge h = absurd h
place_cases site drawn live claims disk failed refusals.OneChangeAtATime h = absurd h
place_cases site drawn live claims disk failed refusals.VaultFull h = absurd h
place_cases site drawn live claims disk failed refusals.Damaged h = absurd h
place_cases site drawn live claims disk failed refusals.Foreign h = absurd h
place_cases site drawn live claims disk failed (refusals.Stopped f) h = absurd h
place_cases site drawn live claims disk failed (refusals.Exhausted ticket) h = absurd h
place_cases site drawn live claims disk failed refusals.RandomFault h = absurd h
place_cases site drawn live claims disk failed refusals.OutOfMemory h = absurd h

-- a create that is asked for, at a site
module _ {keys : KeyPair} {live : HeldTree} {parent : ℕ} {site : Site} {name : List ℕ} (asked : Asked keys live parent site name) (claims : List (List ℕ × ℕ)) (is_directory : Bool) (mode second : ℕ) where
  abbrev k : Sealing
  k = sealing_of keys

  late_refused : (drawn : Option (List ℕ)) (d : Disk) → IsRefusal (sealing_of keys) (create parent name is_directory mode) second drawn refusals.DeviceFault live claims d
  late_refused drawn d contents stands = λ others more. is_late asked is_directory mode second others

  module _ (disk : Option Disk) (drew drew' : Option (List ℕ)) where
    -- the random source failed
    pub random_refused : IsDraw is_directory None drew drew' → HasRefused keys (create parent name is_directory mode) is_directory second live claims drew drew' disk refusals.RandomFault
    random_refused draw = record {
      drawn = None;
      draw = draw;
      refused = told_always disk (IsRefusal k (create parent name is_directory mode) second None refusals.RandomFault live claims) (λ d contents stands. λ others more. is_late asked is_directory mode second others);
      found = never_taken is_directory drew drew' refusals.RandomFault (λ path is. absurd cc);
    }

    -- memory ran out
    pub memory_refused : (drawn : Option (List ℕ)) → IsDraw is_directory drawn drew drew' → HasRefused keys (create parent name is_directory mode) is_directory second live claims drew drew' disk refusals.OutOfMemory
    memory_refused drawn draw = record {
      drawn = drawn;
      draw = draw;
      refused = told_always disk (IsRefusal k (create parent name is_directory mode) second drawn refusals.OutOfMemory live claims) (λ d contents stands. λ others more. never_removed asked is_directory mode second others);
      found = never_taken is_directory drew drew' refusals.OutOfMemory (λ path is. absurd cc);
    }

    -- the folder doesn't fit the deeds, which remove no folder
    pub misfit_refused : (drawn : Option (List ℕ)) → IsDraw is_directory drawn drew drew' → (misfit : Misfit) → (misfit ≡ misfits.Foreign → ⊥)
        → HasRefused keys (create parent name is_directory mode) is_directory second live claims drew drew' disk (misfit_refusal misfit)
    misfit_refused drawn draw misfits.Device own = record {
      drawn = drawn;
      draw = draw;
      refused = told_always disk (IsRefusal k (create parent name is_directory mode) second drawn refusals.DeviceFault live claims) (late_refused drawn);
      found = never_taken is_directory drew drew' refusals.DeviceFault (λ path is. absurd cc);
    }
    misfit_refused drawn draw misfits.Foreign own = absurd (own refl)
    misfit_refused drawn draw misfits.Memory own = memory_refused drawn draw

  module _ (parts : EntriesAreParts keys) (disk : Option Disk) (drawn : Option NewDirectory) (own : IfSome drawn (λ (directory : NewDirectory). directory.folder ≡ (sealing_of keys).folder_of directory.identifier)) where
    pub place_refused : (failed : Type 0) (refusal : Refusal) → IsPlaceRefusal site drawn live claims disk failed refusal
        → Told disk (IsRefusal (sealing_of keys) (create parent name is_directory mode) second (drawn_in drawn) refusal live claims)
    place_refused failed refusal it = go (place_cases site drawn live claims disk failed refusal it)
      where
        go : ((refusal ≡ refusals.DeviceFault) × failed) ⊎ ((path : HostPath) × (refusal ≡ refusals.PlaceTaken path) × AreTaken site drawn live claims disk path)
            → Told disk (IsRefusal k (create parent name is_directory mode) second (drawn_in drawn) refusal live claims)
        go (inl h) = subst (λ (r : Refusal). Told disk (IsRefusal k (create parent name is_directory mode) second (drawn_in drawn) r live claims)) (sym h.0)
            (told_always disk (IsRefusal k (create parent name is_directory mode) second (drawn_in drawn) refusals.DeviceFault live claims) (late_refused (drawn_in drawn)))
        go (inr h) = subst (λ (r : Refusal). Told disk (IsRefusal k (create parent name is_directory mode) second (drawn_in drawn) r live claims)) (sym h.1)
            (told_then disk (IsTaken site.folder site.place drawn live claims (Some h.0)) (IsRefusal k (create parent name is_directory mode) second (drawn_in drawn) (refusals.PlaceTaken h.0) live claims) h.2
            (λ d taken contents stands. (
              told_taken asked parts drawn own d claims (Some h.0) taken contents stands,
              λ others more. is_accepted asked is_directory mode second others,
            )))

    -- and if no place is taken
    pub untaken : Told disk (IsTaken site.folder site.place drawn live claims None) → Told disk (IsUntaken (sealing_of keys) (create parent name is_directory mode) (drawn_in drawn) live claims)
    untaken told =
        told_then disk (IsTaken site.folder site.place drawn live claims None) (IsUntaken k (create parent name is_directory mode) (drawn_in drawn) live claims) told
        (λ d taken contents stands. told_taken asked parts drawn own d claims None taken contents stands)

-- ---- the commit

-- deeds that are ready, for a tree at rest
module _ {keys : KeyPair} {request : PlainRequest} {is_directory : Bool} {second : ℕ} {answer : Answer} {live live' : HeldTree} {claims claims' : List (List ℕ × ℕ)} {drew drew' : Option (List ℕ)} {deeds : List PlainDeed} (log : Option Log)
    (ready : IsReady keys request is_directory second answer live live' claims claims' drew drew' (disk_in log) deeds) (rest : Told log (IsAtRest (sealing_of keys) live claims)) where
  abbrev o : Sealing
  o = sealing_of keys

  abbrev AreFree : Log → Type 0
  AreFree l = taken_for o (now l) live request ready.drawn ≡ None

  abbrev Makes : Log → Type 0
  Makes l = AreFree l × MakesStep o request second deeds (now l) live live' claims claims' × IsStepAnswer o request second answer (now l) live claims

  told_free : Told log (λ l. IsUntaken o request ready.drawn live claims (now l))
  told_free = told_disk log (IsUntaken o request ready.drawn live claims) ready.untaken

  told_makes : Told log Makes
  told_makes = told_both log (IsAtRest o live claims) (λ l. IsUntaken o request ready.drawn live claims (now l)) Makes rest told_free
      (λ l r free.
      let none = free r.contents r.stands in
      let it = ready.makes (now l) r.contents r.stands none in
      (none, it.0, it.1))

  pub can_be_done : Told log (λ (l : Log). (after : Disk) × DoesAll (in_order deeds) (now l) after)
  can_be_done = told_then log Makes (λ (l : Log). (after : Disk) × DoesAll (in_order deeds) (now l) after) told_makes (λ l it. (it.1.after, it.1.does))

  module _ (new : Option Log) (any : Changes log new (AnyMoment deeds)) where
    pub has_created : Changes log new (HasCommitted deeds) → Changes log new (HasCreated keys request second answer ready.drawn live live' claims claims' drew drew')
    has_created committed =
        changed_from log new Makes (λ x y. AnyMoment deeds x y × HasCommitted deeds x y) (HasCreated keys request second answer ready.drawn live live' claims claims' drew drew')
        (λ x y it both. record {
          changed = record { deeds = deeds; makes = it.1; answer_is = it.2; any_moment = both.0; committed = both.1 };
          untaken = it.0;
          made_of = ready.made_of;
        })
        told_makes (both_changed log new (AnyMoment deeds) (HasCommitted deeds) any committed)

    pub may_have_created : is_refusal answer.reply ≡ false → Changes log new (MayHaveCreated keys request second ready.drawn live live' claims claims' drew drew')
    may_have_created accepted =
        changed_from log new Makes (AnyMoment deeds) (MayHaveCreated keys request second ready.drawn live live' claims claims' drew drew')
        (λ x y it moment. record {
          changed = record {
            deeds = deeds;
            makes = it.1;
            late = λ contents stands. late_by (live_rows contents live) request second answer (it.2 contents stands) accepted;
            any_moment = moment;
          };
          made_of = ready.made_of;
        }) told_makes any

pub told_refused : (keys : KeyPair) (request : PlainRequest) (second : ℕ) (live : HeldTree) (claims : List (List ℕ × ℕ)) (drawn : Option (List ℕ)) (refusal : Refusal) (old : Option Log) → Told old (IsAtRest (sealing_of keys) live claims)
    → Told (disk_in old) (IsRefusal (sealing_of keys) request second drawn refusal live claims)
    → Told (disk_in old) (λ (d : Disk). MayRefuse (sealing_of keys) request second (taken_for (sealing_of keys) d live request drawn) refusal d live claims)
told_refused keys request second live claims drawn refusal None rest is = tt
told_refused keys request second live claims drawn refusal (Some x) rest is = is rest.contents rest.stands
