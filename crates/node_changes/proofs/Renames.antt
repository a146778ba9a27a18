-- The deeds of a rename that the step doesn't refuse lead to the tree with the new name, on the disk and in memory.
use Rattle.std.proofs.Common.{◌≡◌, ◌≢◌, ℕ, Bool, false, List, ◌∷◌, Option, Some, None, refl, sym, ap, ◌∙◌, subst}
use Rattle.std.specs.FinMap.{get}
use Rattle.outside.specs.Disk.{Disk}
use Rattle.deeds.specs.Deeds.{PlainDeed, DoesAll}
use Rattle.vault_keys.specs.Keys.{KeyPair}
use Rattle.tree_model.specs.Rows.{Content, root}
use Rattle.tree_model.specs.Asked.{PlainRequest}
use Rattle.tree_model.specs.Step.{step}
use Rattle.clear_tree.specs.Walk.{Sealing, Node, File, Link, Dir, Bad}
use Rattle.clear_tree.specs.Kept.{KeptDir, KeptBad, what_of, folder_in}
use Rattle.tree_loading.specs.Format.{sealing_of}
use Rattle.tree_deed_laws.specs.Trees.{AreTexts, Tree, with_name}
use Rattle.tree_deed_laws.specs.Changes as laws
use Rattle.tree_deed_laws.specs.Deeds.{Place, place_of, rename_deeds}
use Rattle.tree_deed_laws.proofs.Renames.{renames_file, renames_link, renames_directory}
use Rattle.live_tree.specs.Held.{HeldNode, HeldTree, node_of, live_rows}
use Rattle.live_tree.specs.Changes.{renamed, wrapped}
use Rattle.live_tree_laws.proofs.Paths.{one_held}
use Rattle.live_tree_laws.proofs.Renaming.{renaming_holds}
use Rattle.live_tree_laws.proofs.Contents.{renaming_keeps_contents}
use Rattle.name_places.specs.Laws.{ClaimsAreWhole, KeptClaims}
use Rattle.name_places.proofs.Lowest.{renaming_keeps}
use Rattle.live_tree_laws.specs.Strays.{KeepsStrays}
use Rattle.live_tree_laws.proofs.Laws.{renamed_directory_keeps, renamed_file_keeps, renamed_link_keeps}
use Rattle.node_changes.specs.Changed.{StandsOn, MakesStep, ShowsRows}
use Rattle.node_changes.specs.Removal.{IsFolderAbove, place_in}
use Rattle.node_changes.specs.Within.{AreWithin}
use Rattle.node_changes.proofs.Nodes.{IsBelow, is_below, place_is}
use Rattle.node_changes.proofs.Stepping.{LeadsTo, leads_to, makes_step}
use Rattle.node_changes.proofs.Within.{renaming_within}
use Rattle.node_changes.proofs.Creations.{CanBeNamed, dir_node, is_new}

-- the node of a number can get the name m in its directory, of identifier i
pub record CanRename (s : Sealing) (d : Disk) (live : HeldTree) (number : ℕ) (held above : HeldNode) (i m : List ℕ) (long : Bool) : Type 0 where
  pub below : number ≢ root
  pub up : node_of live held.kept.parent ≡ Some above
  pub folder : List ℕ
  pub dir : above.kept.what ≡ KeptDir i folder
  pub clean : held.kept.shadowed ≡ false
  pub good : (t : List ℕ) → held.kept.what ≢ KeptBad t
  pub once : (j f : List ℕ) → held.kept.what ≡ KeptDir j f → live.twice ≡ false
  pub name : CanBeNamed s d live held.kept.parent i m long None

-- a node gets another name in its directory, by deeds that give it on the disk
pub record Renaming (keys : KeyPair) (d : Disk) (live : HeldTree) (number : ℕ) (deeds : List PlainDeed) (held above : HeldNode) (i m : List ℕ) (long : Bool) : Type 0 where
  pub texts : AreTexts (sealing_of keys)
  pub kept : KeptClaims keys
  pub whole : ClaimsAreWhole
  pub there : node_of live number ≡ Some held
  pub can : CanRename (sealing_of keys) d live number held above i m long
  pub deeds_are : deeds ≡ rename_deeds (place_in can.folder held) (place_of (sealing_of keys) i m long) ((sealing_of keys).seal i m) held.kept.what

module _ {keys : KeyPair} {d : Disk} {live : HeldTree} {number : ℕ} {deeds : List PlainDeed} {held above : HeldNode} {i m : List ℕ} {long : Bool}
    (renaming : Renaming keys d live number deeds held above i m long) (claims : List (List ℕ × ℕ)) (now : ℕ) where
  open renaming use {texts, kept, whole, there, can, deeds_are}

  abbrev k : Sealing
  k = sealing_of keys

  above_is : IsFolderAbove live held can.folder
  above_is = record { above = above; up = can.up; is = ap folder_in can.dir }

  module _ (contents : ℕ → Content) (stands : StandsOn (sealing_of keys) d live claims contents) where
    abbrev tree : Tree
    tree = stands.tree

    pub it : IsBelow k tree live number held
    it = is_below k d tree live stands.is stands.holds number held there can.below

    -- the directory's identifier
    same_dir : it.i ≡ i
    same_dir =
        let up = stands.holds.nodes_of it.path held.kept.parent it.at_dir in
        let same : up.held ≡ above = one_held live held.kept.parent up.held above up.there can.up in
        let node : up.node ≡ Dir i = dir_node k up.node i can.folder (sym up.is.what ∙ ap (λ (z : HeldNode). z.kept.what) same ∙ can.dir) in
        let w : ◌≡◌ {A = Option Node} (Some (Dir it.i)) (Some (Dir i)) = sym it.dir ∙ up.at ∙ ap Some node in
        cc

    dir_at : get tree.nodes it.path ≡ Some (Dir i)
    dir_at = it.dir ∙ ap (λ (j : List ℕ). Some (Dir j)) same_dir

    abbrev tree' : Tree
    tree' = with_name tree (it.name ∷ it.path) (m ∷ it.path) long

    clean : (x : Node) → it.node ≡ x → laws.IsHeldByNone tree it.path i it.name x
    clean x e = record { parent = dir_at; there = it.stands ∙ ap Some e; clean = sym it.is.shadowed ∙ can.clean }

    new : laws.IsNew k d tree it.path i m long None
    new = is_new keys kept whole d tree live stands.holds it.path held.kept.parent it.at_dir i m long None can.name dir_at

    once : (t : List ℕ) → it.node ≡ Dir t → tree.marks.twice ≡ false
    once t e = sym stands.holds.twice ∙ can.once t (k.folder_of t) (it.is.what ∙ ap (what_of k) e)

    by_node : (x : Node) → it.node ≡ x → laws.Leads k d (rename_deeds (place_of k i it.name (tree.long (it.name ∷ it.path))) (place_of k i m long) (k.seal i m) (what_of k x)) tree'
    by_node (File b) e = renames_file k d tree it.path i it.name m b long texts stands.is (clean (File b) e) new
    by_node (Link b) e = renames_link k d tree it.path i it.name m b long texts stands.is (clean (Link b) e) new
    by_node (Dir t) e = renames_directory k d tree it.path i it.name m t long texts stands.is (clean (Dir t) e) new (once t e)
    by_node (Bad t) e = absurd (can.good _ (it.is.what ∙ ap (what_of k) e))

    spares : (x : Node) → it.node ≡ x → (after : Disk) → DoesAll (rename_deeds (place_of k i it.name (tree.long (it.name ∷ it.path))) (place_of k i m long) (k.seal i m) (what_of k x)) d after → KeepsStrays k d after
    spares (File b) e after = renamed_file_keeps k d after tree it.path i it.name m b long texts stands.is (clean (File b) e) new
    spares (Link b) e after = renamed_link_keeps k d after tree it.path i it.name m b long texts stands.is (clean (Link b) e) new
    spares (Dir t) e after = renamed_directory_keeps k d after tree it.path i it.name m t long texts stands.is (clean (Dir t) e) new (once t e)
    spares (Bad t) e after = absurd (can.good _ (it.is.what ∙ ap (what_of k) e))

    place : place_of k i it.name (tree.long (it.name ∷ it.path)) ≡ place_in can.folder held
    place = ap (λ (j : List ℕ). place_of k j it.name (tree.long (it.name ∷ it.path))) (sym same_dir) ∙ place_is k d tree live stands.is stands.holds number held there can.below can.folder above_is it

    same_deeds : rename_deeds (place_of k i it.name (tree.long (it.name ∷ it.path))) (place_of k i m long) (k.seal i m) (what_of k it.node) ≡ deeds
    same_deeds =
        ap (λ (q : Place). rename_deeds q (place_of k i m long) (k.seal i m) (what_of k it.node)) place
        ∙ ap (rename_deeds (place_in can.folder held) (place_of k i m long) (k.seal i m)) (sym it.is.what) ∙ sym deeds_are

    pub leads : laws.Leads k d deeds tree'
    leads = subst (λ (ds : List PlainDeed). laws.Leads k d ds tree') same_deeds (by_node it.node refl)

    spared : KeepsStrays k d leads.after
    spared = spares it.node refl leads.after (subst (λ (ds : List PlainDeed). DoesAll ds d leads.after) (sym same_deeds) leads.does)

    stands_after : StandsOn k leads.after (renamed live number held.kept.parent m (place_of k i m long).entry long now) claims contents
    stands_after = record {
      tree = tree';
      is = leads.clear;
      holds = renaming_holds k tree live it.path held.kept.parent number i it.name m long now stands.holds it.at_dir dir_at it.named can.name.free;
      claimed = renaming_keeps k live claims number held.kept.parent m (place_of k i m long).entry long now stands.claimed;
      are = renaming_keeps_contents k tree live it.path held.kept.parent number i it.name m long now contents stands.holds it.at_dir dir_at it.named can.name.free stands.are;
    }

  -- the tree in memory after it, with the mtime that was asked for, and the rows of the step
  module _ (live' : HeldTree) (request : PlainRequest)
      (goes_on : (after : Disk) (contents : ℕ → Content) → StandsOn (sealing_of keys) after (renamed live number held.kept.parent m (place_of (sealing_of keys) i m long).entry long now) claims contents
      → StandsOn (sealing_of keys) after live' claims contents)
      (rows : (contents : ℕ → Content) → StandsOn (sealing_of keys) d live claims contents → wrapped (live_rows contents live') ≡ wrapped (step (live_rows contents live) request now).rows) where
    shows : (contents : ℕ → Content) (stands : StandsOn (sealing_of keys) d live claims contents) → ShowsRows k (step (live_rows contents live) request now).rows (leads contents stands).after live' claims
    shows contents stands = record { contents = contents; stands = goes_on (leads contents stands).after contents (stands_after contents stands); shows = rows contents stands }

    led : (contents : ℕ → Content) → StandsOn (sealing_of keys) d live claims contents → LeadsTo k (step (live_rows contents live) request now).rows deeds d live' claims
    led contents stands = leads_to (leads contents stands) (spared contents stands) (shows contents stands)

    pub makes : (contents : ℕ → Content) → StandsOn (sealing_of keys) d live claims contents → MakesStep (sealing_of keys) request now deeds d live live' claims claims
    makes = makes_step (subst AreWithin (sym deeds_are) (renaming_within (place_in can.folder held) (place_of k i m long) (k.seal i m) held.kept.what)) led
