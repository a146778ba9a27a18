-- The deeds of a removal that the step doesn't refuse lead to the tree without the node, on the disk and in memory.
use Rattle.std.proofs.Common.{◌≡◌, ℕ, Bool, true, false, List, ◌∷◌, Option, Some, None, is_some, MatchOption, IsTrue, refl, sym, ap, ap₂, ◌∙◌, subst, inl, inr, ◌⊎◌}
use Rattle.std.specs.Option.{option_and_then, option_map_or}
use Rattle.outside.specs.Disk.{Disk}
use Rattle.outside.specs.Calls.{Told}
use Rattle.deeds.specs.Deeds.{PlainDeed, DoesAll, in_order}
use Rattle.deeds.specs.Repeatable.{IsRepeatable}
use Rattle.batch_looks.specs.declared.misfit.Misfit.{Misfit}
use Rattle.batch_looks.specs.declared.misfit.Misfit.TheVariants as misfits
use Rattle.vault_keys.specs.Keys.{KeyPair}
use Rattle.tree_model.specs.declared.refusal.Refusal.{Refusal}
use Rattle.tree_model.specs.declared.refusal.Refusal.TheVariants as refusals
use Rattle.tree_model.specs.Rows.{Content, Row, row_of}
use Rattle.vault_path.specs.Parts.{is_part}
use Rattle.tree_model.specs.Asked.{remove, done, refused}
use Rattle.tree_model.specs.Step.{Answer, Stepped, early, says, refuses, step, work}
use Rattle.tree_model.proofs.Steps.{step_worked}
use Rattle.clear_tree.specs.Walk.{Path, Sealing, Node, File, Link, Dir, Bad, claimed, node_at}
use Rattle.clear_tree.specs.Places.{folders_of, text_contents, text_symlink}
use Rattle.clear_tree.specs.Kept.{What, KeptFile, KeptLink, KeptDir, KeptBad, what_of, folder_in}
use Rattle.clear_tree.proofs.Paths.{child_apart}
use Rattle.tree_loading.specs.Format.{sealing_of}
use Rattle.tree_deed_laws.specs.Trees.{AreTexts, Tree, IsTreeOf, without_node}
use Rattle.tree_deed_laws.specs.Changes as laws
use Rattle.tree_deed_laws.specs.Deeds.{Place, place_of, remove_deeds}
use Rattle.tree_deed_laws.proofs.Exact.{named_once, unset}
use Rattle.tree_deed_laws.proofs.Removes.{removes_file, removes_link, removes_directory, node_repeatable, dir_repeatable}
use Rattle.live_tree.specs.Held.{HeldNode, HeldTree, node_of, live_row, live_rows, IsTree}
use Rattle.live_tree.specs.Changes.{removed, wrapped, RowsAreRemoved}
use Rattle.live_tree_laws.specs.Holds.{IsAt, Holds}
use Rattle.live_tree_laws.proofs.Paths.{one_held, one_number}
use Rattle.live_tree_laws.proofs.Keeping.{childless_have_no_child}
use Rattle.live_tree_laws.proofs.Numbers.{nodes_have_rows, reached}
use Rattle.live_tree_laws.proofs.Removing.{removing_holds}
use Rattle.live_tree_laws.proofs.Contents.{removing_keeps_contents}
use Rattle.name_places.specs.Claims.{claimed_in, claimed_at, NamesFolder, IsOnly, AreClaimsOf}
use Rattle.name_places.specs.Laws.{EntriesAreParts, KeptClaims, Shrinks}
use Rattle.name_places.proofs.Lowest.{removing_keeps}
use Rattle.live_tree_laws.specs.Strays.{KeepsStrays}
use Rattle.live_tree_laws.proofs.Laws.{removed_directory_keeps, removed_file_keeps, removed_link_keeps}
use Rattle.node_changes.specs.Changed.{StandsOn, MakesStep, LeadsOn, MayRefuse, ShowsRows, IsStepAnswer}
use Rattle.node_changes.specs.Causes.{RefusalCause, misfit_refusal}
use Rattle.node_changes.specs.Within.{AreWithin}
use Rattle.node_changes.specs.Removal.{AreRemoval, IsMisplaced, IsRemovalRefusal, IsFolderAbove, IsUnclaimed, place_in}
use Rattle.node_changes.proofs.Committing.{early_step}
use Rattle.node_changes.proofs.Nodes.{IsBelow, is_below, place_is}
use Rattle.node_changes.proofs.Within.{removal_within}
use Rattle.node_changes.proofs.Refusing.{IsRemovable, removable, is_there, node_there}
use Rattle.node_changes.proofs.Stepping.{LeadsTo, does_in_order, leads_to, makes_step}

-- a folder that a number's node names is that of its node on the disk
record IsClaimant (s : Sealing) (d : Disk) (tree : Tree) (of : IsTreeOf s d tree) (live : HeldTree) (number : ℕ) (folder : List ℕ) : Type 0 where
  path : Path
  at : IsAt live path number
  names : claimed s (node_at s (folders_of s d) of.owner path) ≡ Some folder

claimed_of : (s : Sealing) (o : Option HeldNode) (folder : List ℕ) → option_and_then (λ (node : HeldNode). claimed_in s node.kept.what) o ≡ Some folder
    → (held : HeldNode) × (o ≡ Some held) × (claimed_in s held.kept.what ≡ Some folder)
claimed_of s None folder h = absurd cc
claimed_of s (Some held) folder h = (held, refl, h)

module _ (keys : KeyPair) (kept : KeptClaims keys) (d : Disk) (tree : Tree) (of : IsTreeOf (sealing_of keys) d tree) (live : HeldTree) (holds : Holds (sealing_of keys) tree live) where
  abbrev s : Sealing
  s = sealing_of keys

  is_claimant : (number : ℕ) (folder : List ℕ) → claimed_at s live number ≡ Some folder → IsClaimant s d tree of live number folder
  is_claimant number folder names =
      let has = claimed_of s (node_of live number) folder names in
      let p = reached live holds.is_tree number has.0 has.1 in
      let it = holds.nodes_of p.0 number p.1 in
      let same : it.held ≡ has.0 = one_held live number it.held has.0 it.there has.1 in
      record {
        path = p.0;
        at = p.1;
        names =
            ap (claimed s) (sym (of.exact p.0) ∙ it.at) ∙ sym (kept it.node) ∙ ap (claimed_in s) (sym it.is.what)
            ∙ ap (λ (z : HeldNode). claimed_in s z.kept.what) same ∙ has.2;
      }

  -- if no identifier is named twice, the node that names a folder is the only one
  pub is_only : (number : ℕ) (folder : List ℕ) → live.twice ≡ false → NamesFolder s live folder number → IsOnly s live folder number
  is_only number folder once names = record {
    names = names;
    only = λ other more.
        let a = is_claimant number folder names.claimed in
        let b = is_claimant other folder more.claimed in
        let path : b.path ≡ a.path = named_once s (folders_of s d) of.owner (unset tree.marks.twice _ of.marked.twice (sym holds.twice ∙ once)) b.path a.path folder b.names a.names in
        one_number live holds.is_tree a.path other number (subst (λ (q : Path). IsAt live q other) path b.at) a.at;
  }

-- deeds that remove a node from the disk
pub record Removing (keys : KeyPair) (live : HeldTree) (number : ℕ) (deeds : List PlainDeed) (held : HeldNode) (folder : List ℕ) : Type 0 where
  pub texts : AreTexts (sealing_of keys)
  pub there : node_of live number ≡ Some held
  pub can : IsRemovable live number held
  pub above : IsFolderAbove live held folder
  pub deeds_are : deeds ≡ remove_deeds (place_in folder held) held.kept.what

module _ {keys : KeyPair} {live : HeldTree} {number : ℕ} {deeds : List PlainDeed} {held : HeldNode} {folder : List ℕ} (removing : Removing keys live number deeds held folder) (claims : List (List ℕ × ℕ)) (d : Disk) where
  open removing use {texts, there, can, above, deeds_are}

  abbrev k : Sealing
  k = sealing_of keys

  module _ (contents : ℕ → Content) (stands : StandsOn (sealing_of keys) d live claims contents) where
    abbrev tree : Tree
    tree = stands.tree

    it : IsBelow k tree live number held
    it = is_below k d tree live stands.is stands.holds number held there can.below

    abbrev tree' : Tree
    tree' = without_node tree (it.name ∷ it.path)

    clean : laws.IsHeldByNone tree it.path it.i it.name it.node
    clean = record { parent = it.dir; there = it.stands; clean = sym it.is.shadowed ∙ can.clean }

    emptied : (t : List ℕ) → it.node ≡ Dir t → laws.IsEmptied tree (it.name ∷ it.path)
    emptied t e =
        let bare = can.bare t (k.folder_of t) (it.is.what ∙ ap (what_of k) e) in
        record {
          no_child = (childless_have_no_child k tree live (it.name ∷ it.path) number stands.holds (held.kept.parent, it.at_dir, it.named)).0 can.childless;
          no_foreign = sym it.is.foreign ∙ bare.0;
          once = sym stands.holds.twice ∙ bare.1;
        }

    by_node : (x : Node) → it.node ≡ x → laws.Leads k d (remove_deeds (place_of k it.i it.name (tree.long (it.name ∷ it.path))) (what_of k x)) tree'
    by_node (File b) e = removes_file k d tree it.path it.i it.name b texts stands.is (subst (laws.IsHeldByNone tree it.path it.i it.name) e clean)
    by_node (Link b) e = removes_link k d tree it.path it.i it.name b texts stands.is (subst (laws.IsHeldByNone tree it.path it.i it.name) e clean)
    by_node (Dir t) e = removes_directory k d tree it.path it.i it.name t texts stands.is (subst (laws.IsHeldByNone tree it.path it.i it.name) e clean) (emptied t e)
    by_node (Bad t) e = absurd (can.good _ (it.is.what ∙ ap (what_of k) e))

    spares : (x : Node) → it.node ≡ x → (after : Disk) → DoesAll (remove_deeds (place_of k it.i it.name (tree.long (it.name ∷ it.path))) (what_of k x)) d after → KeepsStrays k d after
    spares (File b) e after = removed_file_keeps k d after tree it.path it.i it.name b texts stands.is (subst (laws.IsHeldByNone tree it.path it.i it.name) e clean)
    spares (Link b) e after = removed_link_keeps k d after tree it.path it.i it.name b texts stands.is (subst (laws.IsHeldByNone tree it.path it.i it.name) e clean)
    spares (Dir t) e after = removed_directory_keeps k d after tree it.path it.i it.name t texts stands.is (subst (laws.IsHeldByNone tree it.path it.i it.name) e clean) (emptied t e)
    spares (Bad t) e after = absurd (can.good _ (it.is.what ∙ ap (what_of k) e))

    same_deeds : remove_deeds (place_of k it.i it.name (tree.long (it.name ∷ it.path))) (what_of k it.node) ≡ deeds
    same_deeds = ap₂ remove_deeds (place_is k d tree live stands.is stands.holds number held there can.below folder above it) (sym it.is.what) ∙ sym deeds_are

    leads : laws.Leads k d deeds tree'
    leads = subst (λ (ds : List PlainDeed). laws.Leads k d ds tree') same_deeds (by_node it.node refl)

    spared : KeepsStrays k d leads.after
    spared = spares it.node refl leads.after (subst (λ (ds : List PlainDeed). DoesAll ds d leads.after) (sym same_deeds) leads.does)

-- by which it leaves its directory
pub record Leaving (keys : KeyPair) (live live' : HeldTree) (claims claims' : List (List ℕ × ℕ)) (number now : ℕ) (deeds : List PlainDeed) (held : HeldNode) (folder : List ℕ) : Type 0 where
  pub removing : Removing keys live number deeds held folder
  pub kept : KeptClaims keys
  pub none : IsRemovalRefusal live number None
  pub gone : live' ≡ removed live number held.kept.parent now
  pub rows : RowsAreRemoved live live' number now
  pub unclaimed : IsUnclaimed held claims claims'

module _ {keys : KeyPair} {live live' : HeldTree} {claims claims' : List (List ℕ × ℕ)} {number now : ℕ} {deeds : List PlainDeed} {held : HeldNode} {folder : List ℕ}
    (leaving : Leaving keys live live' claims claims' number now deeds held folder) (d : Disk) where
  open leaving use {removing, kept, none, gone, rows, unclaimed, removing.{there, can, deeds_are}}

  abbrev k' : Sealing
  k' = sealing_of keys

  module _ (contents : ℕ → Content) (stands : StandsOn (sealing_of keys) d live claims contents) where
    abbrev its : IsBelow k' stands.tree live number held
    its = it removing claims d contents stands

    abbrev led_to : laws.Leads k' d deeds (tree' removing claims d contents stands)
    led_to = leads removing claims d contents stands

    claimed_is : claimed_at k' live number ≡ claimed_in k' held.kept.what
    claimed_is = ap (option_and_then (λ (node : HeldNode). claimed_in k' node.kept.what)) there

    claims_by : (what : What) → held.kept.what ≡ what → MatchOption (folder_in what) (claims' ≡ claims) (λ folder. Shrinks claims claims' folder)
        → AreClaimsOf k' (removed live number held.kept.parent now) claims'
    claims_by (KeptFile size) e same = subst (AreClaimsOf k' (removed live number held.kept.parent now)) (sym same) (removing_keeps k' live claims number held.kept.parent now stands.claimed (claimed_is ∙ ap (claimed_in k') e))
    claims_by (KeptLink size) e same = subst (AreClaimsOf k' (removed live number held.kept.parent now)) (sym same) (removing_keeps k' live claims number held.kept.parent now stands.claimed (claimed_is ∙ ap (claimed_in k') e))
    claims_by (KeptDir identifier own) e shrinks =
        shrinks k' live number held.kept.parent now stands.claimed
        (is_only keys kept d stands.tree stands.is live stands.holds number own (can.bare identifier own e).1 (record { below = can.below; claimed = claimed_is ∙ ap (claimed_in k') e }))
    claims_by (KeptBad text) e same = absurd (can.good text e)

    stands_after : StandsOn k' led_to.after live' claims' contents
    stands_after = subst (λ (l : HeldTree). StandsOn k' led_to.after l claims' contents) (sym gone) (record {
      tree = tree' removing claims d contents stands;
      is = led_to.clear;
      holds = removing_holds k' stands.tree live its.path held.kept.parent number its.name now stands.holds its.at_dir its.named can.childless;
      claimed = claims_by held.kept.what refl unclaimed;
      are = removing_keeps_contents k' stands.tree live its.path held.kept.parent number its.name now contents stands.holds its.at_dir its.named can.childless stands.are;
    })

    found : row_of (live_rows contents live) number ≡ Some (live_row contents (number, held))
    found = nodes_have_rows live contents number held there

    step_is : step (live_rows contents live) (remove number) now ≡ work (live_rows contents live) (live_row contents (number, held)) (remove number) now
    step_is = step_worked (live_rows contents live) (remove number) now (live_row contents (number, held)) found
        (sym (ap (λ (o : Option Row). option_map_or (λ row. early (live_rows contents live) row (remove number)) o (Some refusals.Removed)) found) ∙ none contents)

    shows : ShowsRows k' (step (live_rows contents live) (remove number) now).rows led_to.after live' claims'
    shows = record {
      contents = contents;
      stands = stands_after;
      shows = rows contents (live_row contents (number, held)) found ∙ ap wrapped (sym (ap (λ (w : Stepped). w.rows) step_is));
    }

    led : LeadsTo k' (step (live_rows contents live) (remove number) now).rows deeds d live' claims'
    led = leads_to led_to (spared removing claims d contents stands) shows

  pub makes : (contents : ℕ → Content) → StandsOn (sealing_of keys) d live claims contents → MakesStep (sealing_of keys) (remove number) now deeds d live live' claims claims'
  makes = makes_step (subst AreWithin (sym deeds_are) (removal_within (place_in folder held) held.kept.what)) led

  pub answer_is : IsStepAnswer (sealing_of keys) (remove number) now (says done) d live claims
  answer_is contents stands = ap (λ (w : Stepped). w.answer) (step_is contents stands)

-- ---- as a whole

removing_by : (keys : KeyPair) → AreTexts (sealing_of keys) → (live : HeldTree) (number : ℕ) (deeds : List PlainDeed) → IsTree live → IsRemovalRefusal live number None → (removal : AreRemoval live number deeds)
    → Removing keys live number deeds removal.held removal.folder
removing_by keys texts live number deeds is none removal = record {
  texts = texts;
  there = removal.there;
  can = removable live is number removal.held removal.there none;
  above = removal.above;
  deeds_are = removal.are;
}

pub removed_leads : (keys : KeyPair) → AreTexts (sealing_of keys) → KeptClaims keys → (live live' : HeldTree) (claims claims' : List (List ℕ × ℕ)) (number now : ℕ) (deeds : List PlainDeed) → IsTree live → IsRemovalRefusal live number None
    → AreRemoval live number deeds → ((held : HeldNode) → node_of live number ≡ Some held → live' ≡ removed live number held.kept.parent now) → RowsAreRemoved live live' number now
    → ((held : HeldNode) → node_of live number ≡ Some held → IsUnclaimed held claims claims') → LeadsOn (sealing_of keys) (remove number) now (says done) live live' claims claims' deeds
removed_leads keys texts kept live live' claims claims' number now deeds is none removal gone rows unclaimed d contents stands =
    let leaving : Leaving keys live live' claims claims' number now deeds removal.held removal.folder = record {
      removing = removing_by keys texts live number deeds is none removal;
      kept = kept;
      none = none;
      gone = gone removal.held removal.there;
      rows = rows;
      unclaimed = unclaimed removal.held removal.there;
    } in (makes leaving d contents stands, answer_is leaving d)

-- ---- deeds that can be done again

pub are_repeatable : (deeds : List PlainDeed) (place : Place) (what : What) → deeds ≡ remove_deeds place what → (folder_in what ≡ Some place.folder → ⊥) → IsRepeatable deeds
are_repeatable deeds place what e apart = subst IsRepeatable (sym e) (by_what place.long what apart)
  where
    by_what : (b : Bool) (what : What) → (folder_in what ≡ Some place.folder → ⊥) → IsRepeatable (remove_deeds (record { folder = place.folder; entry = place.entry; long = b }) what)
    by_what false (KeptFile size) h = record { apart = (tt, tt); beside_journal = (((λ e. cc), tt), tt); beside_new = (((λ e. cc), tt), tt) }
    by_what true (KeptFile size) h = node_repeatable place.folder place.entry text_contents (λ e. cc) true
    by_what b (KeptLink size) h = node_repeatable place.folder place.entry text_symlink (λ e. cc) b
    by_what b (KeptDir identifier own) h = dir_repeatable place.folder place.entry own (λ e. h (ap Some (sym e))) b
    by_what b (KeptBad text) h = record { apart = tt; beside_journal = tt; beside_new = tt }

-- ---- refusals

module _ (s : Sealing) (live : HeldTree) (claims : List (List ℕ × ℕ)) (number second : ℕ) where
  refused_step : (refusal : Refusal) → IsRemovalRefusal live number (Some refusal) → (d : Disk) → IsStepAnswer s (remove number) second (refuses refusal) d live claims
  refused_step refusal is d contents stands = early_step (live_rows contents live) (remove number) second refusal (is contents)

  -- the step's own refusals
  pub refused_by : (refusal : Refusal) → IsRemovalRefusal live number (Some refusal) → RefusalCause (remove number) ⊥ ⊥ refusal → (d : Disk) → MayRefuse s (remove number) second None refusal d live claims
  refused_by refusals.Removed is own d = refused_step refusals.Removed is d
  refused_by refusals.NotADirectory is own d = refused_step refusals.NotADirectory is d
  refused_by refusals.IsADirectory is own d = refused_step refusals.IsADirectory is d
  refused_by refusals.BadName is own d = refused_step refusals.BadName is d
  refused_by refusals.NameTooLong is own d = refused_step refusals.NameTooLong is d
  refused_by refusals.FileDoesNotExist is own d = refused_step refusals.FileDoesNotExist is d
  refused_by refusals.FileExists is own d = refused_step refusals.FileExists is d
  refused_by refusals.NotPermitted is own d = refused_step refusals.NotPermitted is d
  refused_by refusals.DirectoryNotEmpty is own d = refused_step refusals.DirectoryNotEmpty is d
  refused_by refusals.CountTooSmall is own d = refused_step refusals.CountTooSmall is d
  refused_by refusals.FileTooLarge is own d = refused_step refusals.FileTooLarge is d
  refused_by refusals.GapTooLarge is own d = refused_step refusals.GapTooLarge is d
  refused_by refusals.OneChangeAtATime is own d = refused_step refusals.OneChangeAtATime is d
  refused_by refusals.VaultFull is own d = refused_step refusals.VaultFull is d
  refused_by refusals.Damaged is own d = refused_step refusals.Damaged is d
  refused_by refusals.Foreign is own d = refused_step refusals.Foreign is d
  refused_by (refusals.PlaceTaken path) is own d = absurd own
  refused_by (refusals.Stopped f) is own d = absurd own
  refused_by (refusals.Exhausted ticket) is own d = absurd own
  refused_by refusals.DeviceFault is own d = absurd own
  refused_by refusals.RandomFault is own d = absurd own
  refused_by refusals.OutOfMemory is own d = λ contents stands e.
      let same : refused refusals.OutOfMemory ≡ refused refusals.Removed = ap (λ (a : Answer). a.reply) (sym (refused_step refusals.OutOfMemory is d contents stands) ∙ e) in
      cc

module _ (keys : KeyPair) (parts : EntriesAreParts keys) (live : HeldTree) (claims : List (List ℕ × ℕ)) (number second : ℕ) (is : IsTree live) (none : IsRemovalRefusal live number None) where
  abbrev o : Sealing
  o = sealing_of keys

  answered : (contents : ℕ → Content) → (step (live_rows contents live) (remove number) second).answer ≡ says done
  answered contents =
      let has = node_there live number (is_there live number none) in
      let found : row_of (live_rows contents live) number ≡ Some (live_row contents (number, has.0)) = nodes_have_rows live contents number has.0 has.1 in
      ap (λ (w : Stepped). w.answer) (step_worked (live_rows contents live) (remove number) second (live_row contents (number, has.0)) found
      (sym (ap (λ (o : Option Row). option_map_or (λ row. early (live_rows contents live) row (remove number)) o (Some refusals.Removed)) found) ∙ none contents))

  -- no disk has a node that is misplaced
  never_misplaced : IsMisplaced live number → (d : Disk) (contents : ℕ → Content) → StandsOn o d live claims contents → ⊥
  never_misplaced misplaced d contents stands = go misplaced.amiss
    where
      can : IsRemovable live number misplaced.held
      can = removable live is number misplaced.held misplaced.there none

      it : IsBelow o stands.tree live number misplaced.held
      it = is_below o d stands.tree live stands.is stands.holds number misplaced.held misplaced.there can.below

      place : place_of o it.i it.name (stands.tree.long (it.name ∷ it.path)) ≡ place_in misplaced.folder misplaced.held
      place = place_is o d stands.tree live stands.is stands.holds number misplaced.held misplaced.there can.below misplaced.folder misplaced.above it

      -- what the directory and the node in it name is no one folder
      by_what : (what : What) → misplaced.held.kept.what ≡ what → folder_in what ≡ Some misplaced.folder → ⊥
      by_what (KeptFile size) e h = cc
      by_what (KeptLink size) e h = cc
      by_what (KeptBad text) e h = cc
      by_what (KeptDir identifier own) e h =
          let bare = can.bare identifier own e in
          let once = named_once o (folders_of o d) stands.is.owner (unset stands.tree.marks.twice _ stands.is.marked.twice (sym stands.holds.twice ∙ bare.1)) in
          let node : it.node ≡ Dir identifier = dir_is it.node (sym it.is.what ∙ e) in
          let same : o.folder_of it.i ≡ misplaced.folder = ap (λ (p : Place). p.folder) place in
          let w : ◌≡◌ {A = What} (what_of o (Dir identifier)) (KeptDir identifier own) = ap (what_of o) (sym node) ∙ sym it.is.what ∙ e in
          let its : o.folder_of identifier ≡ own = cc in
          let folder : own ≡ misplaced.folder = cc in
          child_apart it.name it.path (once (it.name ∷ it.path) it.path misplaced.folder
          (ap (claimed o) (sym (stands.is.exact (it.name ∷ it.path)) ∙ it.stands ∙ ap Some node) ∙ ap Some (its ∙ folder))
          (ap (claimed o) (sym (stands.is.exact it.path) ∙ it.dir) ∙ ap Some same))
        where
          dir_is : (x : Node) → what_of o x ≡ KeptDir identifier own → x ≡ Dir identifier
          dir_is (File b) f = absurd cc
          dir_is (Link b) f = absurd cc
          dir_is (Dir j) f = cc
          dir_is (Bad t) f = absurd cc

      go : (IsTrue (is_part misplaced.held.kept.entry) → ⊥) ⊎ (folder_in misplaced.held.kept.what ≡ Some misplaced.folder) → ⊥
      go (inl bad) = bad (subst (λ (p : Place). IsTrue (is_part p.entry)) place (parts d stands.tree it.path it.i it.name it.node stands.is it.dir it.stands))
      go (inr own) = by_what misplaced.held.kept.what refl own

  pub deeds_refused : (refusal : Refusal) → (refusal ≡ refusals.OutOfMemory) ⊎ ((refusal ≡ refusals.Damaged) × IsMisplaced live number) → (d : Disk) → MayRefuse o (remove number) second None refusal d live claims
  deeds_refused refusal (inl lack) d = subst (λ (r : Refusal). MayRefuse o (remove number) second None r d live claims) (sym lack) (λ contents stands e.
      let same : done ≡ refused refusals.Removed = ap (λ (a : Answer). a.reply) (sym (answered contents) ∙ e) in
      cc)
  deeds_refused refusal (inr amiss) d = subst (λ (r : Refusal). MayRefuse o (remove number) second None r d live claims) (sym amiss.0) (λ contents stands. absurd (never_misplaced amiss.1 d contents stands))

-- the folder doesn't fit the deeds: on a disk that the tree in memory stands for they can be done
pub misfit_refused : (keys : KeyPair) → AreTexts (sealing_of keys) → EntriesAreParts keys → (live : HeldTree) (claims : List (List ℕ × ℕ)) (number second : ℕ) (deeds : List PlainDeed) → IsTree live → IsRemovalRefusal live number None
    → AreRemoval live number deeds → (disk : Option Disk) (misfit : Misfit) → (misfit ≡ misfits.Foreign → Told disk (λ (d : Disk). (after : Disk) → DoesAll (in_order deeds) d after → ⊥))
    → Told disk (λ (d : Disk). MayRefuse (sealing_of keys) (remove number) second None (misfit_refusal misfit) d live claims)
misfit_refused keys texts parts live claims number second deeds is none removal None misfit cannot = tt
misfit_refused keys texts parts live claims number second deeds is none removal (Some d) misfits.Device cannot = λ contents stands. ap is_some (none contents)
misfit_refused keys texts parts live claims number second deeds is none removal (Some d) misfits.Foreign cannot = λ contents stands.
    let led = leads (removing_by keys texts live number deeds is none removal) claims d contents stands in
    absurd (cannot refl led.after (does_in_order led))
misfit_refused keys texts parts live claims number second deeds is none removal (Some d) misfits.Memory cannot =
    deeds_refused keys parts live claims number second is none refusals.OutOfMemory (inl refl) d
