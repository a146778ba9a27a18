-- What a node's new name comes to, on the disk that the tree in memory stands for.
use Rattle.std.proofs.Common.{◌≡◌, ◌≢◌, ℕ, Bool, true, false, List, Option, Some, None, is_some, refl, sym, ap, ap₂, ◌∙◌, subst, inl, inr, ◌⊎◌}
use Rattle.std.specs.Option.{unwrap_or}
use Rattle.outside.specs.Disk.{Disk}
use Rattle.outside.specs.Calls.{Told, Changes}
use Rattle.outside.specs.Images.{Log, now, disk_in}
use Rattle.outside.proofs.Told.{told_then, told_both, told_always, both_changed, changed_from}
use Rattle.deeds.specs.Deeds.{PlainDeed, DoesAll, in_order}
use Rattle.deeds.specs.Repeatable.{IsRepeatable}
use Rattle.deeds.proofs.Doing.{told_disk}
use Rattle.chunk_journal.specs.Journal.{AnyMoment, HasCommitted}
use Rattle.batch_looks.specs.declared.misfit.Misfit.{Misfit}
use Rattle.batch_looks.specs.declared.misfit.Misfit.TheVariants as misfits
use Rattle.vault_keys.specs.Keys.{KeyPair}
use Rattle.tree_model.specs.declared.refusal.Refusal.{Refusal}
use Rattle.tree_model.specs.declared.refusal.Refusal.TheVariants as refusals
use Rattle.tree_model.specs.Rows.{Content}
use Rattle.tree_model.specs.Asked.{PlainChange, change, done}
use Rattle.tree_model.specs.Step.{Answer, Stepped, stepped, says, step, set_row, change_dir, with_mtime}
use Rattle.tree_model.specs.History.{is_refusal}
use Rattle.clear_tree.specs.Walk.{Sealing}
use Rattle.clear_tree.specs.Places.{text_dir, text_symlink, text_contents}
use Rattle.clear_tree.specs.Kept.{What, KeptFile, KeptLink, KeptDir, KeptBad}
use Rattle.tree_loading.specs.Format.{sealing_of}
use Rattle.tree_deed_laws.specs.Trees.{AreTexts}
use Rattle.tree_deed_laws.specs.Deeds.{Place, place_of, rename_file_at, rename_deeds}
use Rattle.tree_deed_laws.proofs.Disk.{entry_is}
use Rattle.tree_deed_laws.proofs.Names.{node_repeatable}
use Rattle.live_tree.specs.Held.{HeldNode, HeldTree, live_row, live_rows}
use Rattle.live_tree.specs.Changes.{renamed, wrapped}
use Rattle.live_tree_laws.proofs.Numbers.{nodes_have_rows}
use Rattle.live_tree_laws.proofs.Paths.{one_held}
use Rattle.live_tree_laws.proofs.Writing.{dating_holds}
use Rattle.live_tree_laws.proofs.Contents.{dating_keeps_contents}
use Rattle.name_places.specs.Asked.{IsTaken}
use Rattle.name_places.specs.Laws.{ClaimsAreWhole, EntriesAreParts, KeptClaims}
use Rattle.name_places.proofs.Lowest.{dating_keeps}
use Rattle.node_changes.specs.declared.renaming.NewName.{NewName}
use Rattle.node_changes.specs.Causes.{misfit_refusal}
use Rattle.node_changes.specs.Changed.{StandsOn, IsAtRest, MayHaveChanged, MayRefuse}
use Rattle.node_changes.specs.Placed.{taken_for}
use Rattle.node_changes.specs.Removal.{place_in}
use Rattle.node_changes.specs.Renaming.{IsRenamingIn, IsRenaming, HasRenamed}
use Rattle.node_changes.specs.NewName.{IsNewName, IsNameRefusal, IsPlaceRefusal, IsStuck, IsRenameRefusal, AreNaming, IsNamedTree, RowsAreNamed, CanBeGiven, RenamesOn, dated_if, place_with}
use Rattle.node_changes.proofs.Naming.{never_removed, given, not_kept_back}
use Rattle.node_changes.proofs.Placing.{folder_is, found_is, taken_is, free, can_rename, never_stuck}
use Rattle.node_changes.proofs.Renames.{Renaming, CanRename, leads, makes}
use Rattle.node_changes.proofs.Stepping.{does_in_order}
use Rattle.node_changes.specs.declared.tree.VaultTree.{VaultTree}

-- ---- deeds that can be done again

file_repeatable : (F E E' Y : List ℕ) → E ≢ E' → (b e : Bool) → IsRepeatable (rename_file_at b e F E E' Y)
file_repeatable F E E' Y off false false = record { apart = (tt, tt); beside_journal = (((λ e. cc), ((λ e. cc), tt)), tt); beside_new = (((λ e. cc), ((λ e. cc), tt)), tt) }
file_repeatable F E E' Y off false true = record {
  apart = (((((λ e. cc), tt), tt), (((λ e. cc), tt), tt), ((((λ e. off (sym (entry_is F E' F E e).1)), ((λ e. cc), tt)), tt), (((λ e. off ((entry_is F E F E' e).1)), tt), (((λ e. cc), tt), tt)), tt)), (((((λ e. cc), ((λ e. cc), tt)), tt), (((λ e. cc), tt), (((λ e. cc), tt), tt)), tt), (tt, tt)));
  beside_journal = (((λ e. cc), tt), (((λ e. cc), tt), (((λ e. cc), ((λ e. cc), tt)), tt)));
  beside_new = (((λ e. cc), tt), (((λ e. cc), tt), (((λ e. cc), ((λ e. cc), tt)), tt)));
}
file_repeatable F E E' Y off true false = record {
  apart = (((((λ e. cc), tt), (((λ e. cc), tt), tt)), (((λ e. cc), ((λ e. cc), tt)), tt), ((((λ e. cc), tt), (((λ e. off (sym (entry_is F E' F E e).1)), tt), tt)), (((λ e. cc), ((λ e. off ((entry_is F E F E' e).1)), tt)), tt), tt)), (((((λ e. cc), tt), tt), (((λ e. cc), tt), tt), tt), (tt, tt)));
  beside_journal = (((λ e. cc), ((λ e. cc), tt)), (((λ e. cc), tt), (((λ e. cc), tt), tt)));
  beside_new = (((λ e. cc), ((λ e. cc), tt)), (((λ e. cc), tt), (((λ e. cc), tt), tt)));
}
file_repeatable F E E' Y off true true = node_repeatable F E E' Y text_contents (λ e. cc) true true off

pub naming_repeatable : (deeds : List PlainDeed) (old new : Place) (text : List ℕ) (what : What) → deeds ≡ rename_deeds old new text what → old.entry ≢ new.entry → IsRepeatable deeds
naming_repeatable deeds old new text what e off = subst IsRepeatable (sym e) (by_what what)
  where
    by_what : (what : What) → IsRepeatable (rename_deeds old new text what)
    by_what (KeptFile size) = file_repeatable old.folder old.entry new.entry text off old.long new.long
    by_what (KeptLink size) = node_repeatable old.folder old.entry new.entry text text_symlink (λ e. cc) old.long new.long off
    by_what (KeptDir identifier own) = node_repeatable old.folder old.entry new.entry text text_dir (λ e. cc) old.long new.long off
    by_what (KeptBad other) = record { apart = tt; beside_journal = tt; beside_new = tt }

-- ---- refusals before the folder is read

module _ (s : Sealing) (live : HeldTree) (claims : List (List ℕ × ℕ)) (number : ℕ) (name : List ℕ) (modified : Option ℕ) (second : ℕ) (d : Disk) where
  pub name_refused : (refusal : Refusal) → IsNameRefusal live number name refusal → IsRenameRefusal s number name modified second refusal live claims d
  name_refused refusals.Removed is c contents renaming stands = λ others more. is others c modified second (renaming d others more)
  name_refused refusals.NotPermitted is c contents renaming stands = λ others more. is others c modified second (renaming d others more)
  name_refused refusals.Damaged is c contents renaming stands = λ others more. is others c modified second (renaming d others more)
  name_refused refusals.FileExists is c contents renaming stands = λ others more. is others c modified second (renaming d others more)
  name_refused refusals.Foreign is c contents renaming stands = λ others more. is others c modified second (renaming d others more)
  name_refused refusals.OutOfMemory is c contents renaming stands = λ others more. is others c modified second (renaming d others more)
  name_refused refusal is c contents renaming stands = absurd is

  pub memory_refused : IsRenameRefusal s number name modified second refusals.OutOfMemory live claims d
  memory_refused c contents renaming stands = λ others more. never_removed live others number name modified c second (renaming d others more)

-- ---- with a new name

-- an mtime that is set leaves what the tree is on
pub dating_stands : (s : Sealing) (d : Disk) (live : HeldTree) (claims : List (List ℕ × ℕ)) (contents : ℕ → Content) (number : ℕ) (modified : Option ℕ) → StandsOn s d live claims contents → StandsOn s d (dated_if live number modified) claims contents
dating_stands s d live claims contents number None stands = stands
dating_stands s d live claims contents number (Some modified) stands = record {
  tree = stands.tree;
  is = stands.is;
  holds = dating_holds s stands.tree live number modified stands.holds;
  claimed = dating_keeps s live claims number modified stands.claimed;
  are = dating_keeps_contents s stands.tree live number modified contents stands.holds stands.are;
}

-- a new name for a node of the tree in memory, with an mtime or none, at a second
pub record Naming (keys : KeyPair) (live : HeldTree) (claims : List (List ℕ × ℕ)) (number : ℕ) (new : NewName) (modified : Option ℕ) (second : ℕ) : Type 0 where
  pub parts : EntriesAreParts keys
  pub is : IsNewName (sealing_of keys) live number new

-- of a vault's tree
abbrev pub naming_of : (tree : VaultTree) → EntriesAreParts tree.keys → (number : ℕ) (new : NewName) → IsNewName (sealing_of tree.keys) tree.live number new → (modified : Option ℕ) (second : ℕ)
    → Naming tree.keys tree.live tree.claims number new modified second
naming_of tree parts number new is modified second = record { parts = parts; is = is }

module _ {keys : KeyPair} {live : HeldTree} {claims : List (List ℕ × ℕ)} {number : ℕ} {new : NewName} {modified : Option ℕ} {second : ℕ} (its : Naming keys live claims number new modified second) where
  open its use {parts, is}

  abbrev k : Sealing
  k = sealing_of keys

  module _ (d : Disk) (c : PlainChange) (contents : ℕ → Content) (stands : StandsOn (sealing_of keys) d live claims contents) (renaming : IsRenamingIn live number new.name modified c contents) where
    step_is : step (live_rows contents live) (change number c) second
        ≡ stepped (set_row (change_dir (live_rows contents live) is.held.kept.parent second) (with_mtime c (record (live_row contents (number, is.held)) { name = new.name }))) (says done)
    step_is =
        given live contents number new.name modified c second renaming is.held is.node.there is.node.below stands.holds.is_tree is.free
        (not_kept_back is.held.kept.shadowed live.twice is.held.kept.what is.clean is.once)

    answer_is : (step (live_rows contents live) (change number c) second).answer ≡ says done
    answer_is = ap (λ (w : Stepped). w.answer) step_is

    accepted : is_refusal (step (live_rows contents live) (change number c) second).answer.reply ≡ false
    accepted = ap (λ (a : Answer). is_refusal a.reply) answer_is

  -- the place is taken, or the folder failed
  pub place_refused : (disk : Option Disk) (failed : Type 0) (refusal : Refusal) → IsPlaceRefusal new live claims disk failed refusal → Told disk (IsRenameRefusal (sealing_of keys) number new.name modified second refusal live claims)
  place_refused disk failed refusals.DeviceFault h =
      told_always disk (IsRenameRefusal (sealing_of keys) number new.name modified second refusals.DeviceFault live claims) (λ d c contents renaming stands. λ others more. ap is_some (renaming d others more).none)
  place_refused disk failed (refusals.PlaceTaken path) h =
      told_then disk (IsTaken new.folder new.place None live claims (Some path)) (IsRenameRefusal (sealing_of keys) number new.name modified second (refusals.PlaceTaken path) live claims) h
      (λ d found c contents renaming stands. (
        taken_is keys parts live claims d contents stands number new is c modified (renaming d contents stands) ∙ sym (found_is keys parts live claims d contents stands number new is (Some path) found),
        λ others more. accepted d c others more (renaming d others more),
      ))
  place_refused disk failed refusal h = absurd h

  -- the deeds couldn't be made
  pub deeds_refused : AreTexts (sealing_of keys) → (disk : Option Disk) → Told disk (IsTaken new.folder new.place None live claims None) → (refusal : Refusal)
      → (refusal ≡ refusals.OutOfMemory) ⊎ ((refusal ≡ refusals.Damaged) × IsStuck live number new) → Told disk (IsRenameRefusal (sealing_of keys) number new.name modified second refusal live claims)
  deeds_refused texts disk untaken refusal (inl lack) =
      told_always disk (IsRenameRefusal (sealing_of keys) number new.name modified second refusal live claims)
      (λ d. subst (λ (r : Refusal). IsRenameRefusal (sealing_of keys) number new.name modified second r live claims d) (sym lack) (memory_refused (sealing_of keys) live claims number new.name modified second d))
  deeds_refused texts disk untaken refusal (inr stuck) =
      told_then disk (IsTaken new.folder new.place None live claims None) (IsRenameRefusal (sealing_of keys) number new.name modified second refusal live claims) untaken
      (λ d none. subst (λ (r : Refusal). IsRenameRefusal (sealing_of keys) number new.name modified second r live claims d) (sym stuck.0)
      (λ c contents renaming stands. absurd (never_stuck keys parts live claims d contents stands number new is none texts stuck.1)))

  -- ---- it is given

  -- the deeds give it to the node on the disk
  pub record NamingDeeds (deeds : List PlainDeed) (d : Disk) : Type 0 where
    pub texts : AreTexts (sealing_of keys)
    pub kept : KeptClaims keys
    pub whole : ClaimsAreWhole
    pub naming : AreNaming live number new deeds
    pub untaken : IsTaken new.folder new.place None live claims None d

  module _ {deeds : List PlainDeed} {d : Disk} (ready : NamingDeeds deeds d) where
    open ready use {texts, kept, whole, naming, untaken}

    module _ (contents : ℕ → Content) (stands : StandsOn (sealing_of keys) d live claims contents) where
      abbrev can : CanRename k d live number is.held is.above.above is.identifier new.name new.place.long
      can = can_rename keys parts live claims d contents stands number new is untaken

      deeds_are : deeds ≡ rename_deeds (place_in new.folder is.held) (place_of k is.identifier new.name new.place.long) (k.seal is.identifier new.name) is.held.kept.what
      deeds_are =
          let place : place_with new ≡ place_of k is.identifier new.name new.place.long =
          ap₂ (λ (f e : List ℕ). record { folder = f; entry = e; long = new.place.long }) (folder_is keys parts live claims d contents stands number new is) is.place.entry in
          naming.are
          ∙ ap (λ (h : HeldNode). rename_deeds (place_in new.folder h) (place_with new) new.place.text h.kept.what) (one_held live number naming.held is.held naming.there is.node.there)
          ∙ ap₂ (λ (p : Place) (text : List ℕ). rename_deeds (place_in new.folder is.held) p text is.held.kept.what) place is.place.text

      abbrev on_disk : Renaming keys d live number deeds is.held is.above.above is.identifier new.name new.place.long
      on_disk = record { texts = texts; kept = kept; whole = whole; there = is.node.there; can = can; deeds_are = deeds_are }

      pub can_be_done : (after : Disk) × DoesAll (in_order deeds) d after
      can_be_done = ((leads on_disk claims second contents stands).after, does_in_order (leads on_disk claims second contents stands))

  -- the folder doesn't fit them: on a disk that the tree in memory stands for they can be done
  pub misfit_refused : (deeds : List PlainDeed) (disk : Option Disk) → Told disk (NamingDeeds deeds) → (misfit : Misfit) → (misfit ≡ misfits.Foreign → Told disk (λ (d : Disk). (after : Disk) → DoesAll (in_order deeds) d after → ⊥))
      → Told disk (IsRenameRefusal (sealing_of keys) number new.name modified second (misfit_refusal misfit) live claims)
  misfit_refused deeds None ready misfit cannot = tt
  misfit_refused deeds (Some d) ready misfits.Device cannot = λ c contents renaming stands. λ others more. ap is_some (renaming d others more).none
  misfit_refused deeds (Some d) ready misfits.Foreign cannot = λ c contents renaming stands.
      let can = can_be_done ready contents stands in
      absurd (cannot refl can.0 can.1)
  misfit_refused deeds (Some d) ready misfits.Memory cannot = memory_refused (sealing_of keys) live claims number new.name modified second d

  -- and the tree in memory has it
  pub record NamedTree (live' : HeldTree) (deeds : List PlainDeed) (d : Disk) : Type 0 where
    pub ready : NamingDeeds deeds d
    pub named : IsNamedTree live live' number new modified second
    pub rows : RowsAreNamed live live' number new.name modified second

  module _ {live' : HeldTree} {deeds : List PlainDeed} {d : Disk} (new_tree : NamedTree live' deeds d) where
    open new_tree use {ready, named, rows, ready.{untaken}}

    module _ (contents : ℕ → Content) (stands : StandsOn (sealing_of keys) d live claims contents) where
      live_is : live' ≡ dated_if (renamed live number is.held.kept.parent new.name (place_of k is.identifier new.name new.place.long).entry new.place.long second) number modified
      live_is = named is.held is.node.there ∙ ap (λ (e : List ℕ). dated_if (renamed live number is.held.kept.parent new.name e new.place.long second) number modified) is.place.entry

      goes_on : (after : Disk) (others : ℕ → Content) → StandsOn (sealing_of keys) after (renamed live number is.held.kept.parent new.name (place_of (sealing_of keys) is.identifier new.name new.place.long).entry new.place.long second) claims others
          → StandsOn (sealing_of keys) after live' claims others
      goes_on after others more = subst (λ (l : HeldTree). StandsOn k after l claims others) (sym live_is) (dating_stands k after _ claims others number modified more)

      shown : (c : PlainChange) → IsRenaming (sealing_of keys) live claims number new.name modified c → (others : ℕ → Content) → StandsOn (sealing_of keys) d live claims others
          → wrapped (live_rows others live') ≡ wrapped (step (live_rows others live) (change number c) second).rows
      shown c renaming others more =
          rows others (live_row others (number, is.held)) (nodes_have_rows live others number is.held is.node.there)
          ∙ ap (λ (m : Option ℕ). wrapped (set_row (change_dir (live_rows others live) is.held.kept.parent second)
          (record (live_row others (number, is.held)) { name = new.name; modified = unwrap_or m is.held.modified }))) (sym (renaming d others more).dated)
          ∙ ap (λ (w : Stepped). wrapped w.rows) (sym (step_is d c others more (renaming d others more)))

      pub can_be_given : CanBeGiven (sealing_of keys) number new.name modified second live live' claims claims deeds d
      can_be_given = record {
        after = (can_be_done ready contents stands).0;
        does = (can_be_done ready contents stands).1;
        gives = λ c renaming. record {
          makes = makes (on_disk ready contents stands) claims second live' (change number c) goes_on (shown c renaming) contents stands;
          answer_is = λ others more. answer_is d c others more (renaming d others more);
          untaken = taken_is keys parts live claims d contents stands number new is c modified (renaming d contents stands) ∙ free keys parts live claims d contents stands number new is untaken;
        };
      }

-- ---- what is told of the journal's folder

-- a rename of a tree at rest, and deeds that give the name
pub record Led (s : Sealing) (number : ℕ) (name : List ℕ) (modified : Option ℕ) (second : ℕ) (live live' : HeldTree) (claims claims' : List (List ℕ × ℕ)) (deeds : List PlainDeed) (log : Option Log) : Type 0 where
  pub rest : Told log (IsAtRest s live claims)
  pub made : Told (disk_in log) (RenamesOn s number name modified second live live' claims claims' deeds)

-- from a vault's tree to another
abbrev pub led_of : (old new : VaultTree) (number : ℕ) (name : List ℕ) (modified : Option ℕ) (second : ℕ) (deeds : List PlainDeed) (log : Option Log) → Told log (IsAtRest (sealing_of old.keys) old.live old.claims)
    → Told (disk_in log) (RenamesOn (sealing_of old.keys) number name modified second old.live new.live old.claims new.claims deeds)
    → Led (sealing_of old.keys) number name modified second old.live new.live old.claims new.claims deeds log
led_of old new number name modified second deeds log rest made = record { rest = rest; made = made }

module _ {s : Sealing} {number : ℕ} {name : List ℕ} {modified : Option ℕ} {second : ℕ} {live live' : HeldTree} {claims claims' : List (List ℕ × ℕ)} {deeds : List PlainDeed} {log : Option Log}
    (led : Led s number name modified second live live' claims claims' deeds log) where
  open led use {rest, made}

  abbrev Given : Log → Type 0
  Given l = CanBeGiven s number name modified second live live' claims claims' deeds (now l)

  told_given : Told log Given
  told_given =
      told_both log (IsAtRest s live claims) (λ l. RenamesOn s number name modified second live live' claims claims' deeds (now l)) Given rest
      (told_disk log (RenamesOn s number name modified second live live' claims claims' deeds) made) (λ l r can. can r.contents r.stands)

  pub told_can : Told log (λ l. (after : Disk) × DoesAll (in_order deeds) (now l) after)
  told_can = told_then log Given (λ l. (after : Disk) × DoesAll (in_order deeds) (now l) after) told_given (λ l can. (can.after, can.does))

  module _ (c : PlainChange) (renaming : IsRenaming s live claims number name modified c) (new : Option Log) (any : Changes log new (AnyMoment deeds)) where
    pub has_renamed : Changes log new (HasCommitted deeds) → Changes log new (HasRenamed s number c second live live' claims claims')
    has_renamed committed =
        changed_from log new Given (λ x y. AnyMoment deeds x y × HasCommitted deeds x y) (HasRenamed s number c second live live' claims claims')
        (λ x y can both. record {
          changed = record { deeds = deeds; makes = (can.gives c renaming).makes; answer_is = (can.gives c renaming).answer_is; any_moment = both.0; committed = both.1 };
          untaken = (can.gives c renaming).untaken;
        })
        told_given (both_changed log new (AnyMoment deeds) (HasCommitted deeds) any committed)

    pub may_have_renamed : Changes log new (MayHaveChanged s (change number c) second live live' claims claims')
    may_have_renamed =
        changed_from log new Given (AnyMoment deeds) (MayHaveChanged s (change number c) second live live' claims claims')
        (λ x y can moment. record {
          deeds = deeds;
          makes = (can.gives c renaming).makes;
          late = λ contents stands. ap is_some (renaming (now x) contents stands).none;
          any_moment = moment;
        }) told_given any

module _ (s : Sealing) (number : ℕ) (name : List ℕ) (modified : Option ℕ) (second : ℕ) (live : HeldTree) (claims : List (List ℕ × ℕ)) where
  pub told_refused : (refusal : Refusal) (log : Option Log) → Told log (IsAtRest s live claims) → Told (disk_in log) (IsRenameRefusal s number name modified second refusal live claims)
      → (c : PlainChange) → IsRenaming s live claims number name modified c → Told (disk_in log) (λ d. MayRefuse s (change number c) second (taken_for s d live (change number c) None) refusal d live claims)
  told_refused refusal None rest told c renaming = tt
  told_refused refusal (Some l) rest told c renaming = told c rest.contents renaming rest.stands
