-- The place of a new name on the disk that the tree in memory stands for.
use Rattle.std.proofs.Common.{◌≡◌, ◌≢◌, ℕ, Bool, true, false, List, ◌∷◌, cond, Option, Some, None, IsTrue, IsSome, Result, refl, sym, ap, ◌∙◌, subst, true≢false, inl, inr, ◌⊎◌}
use Rattle.std.specs.FinMap.{get}
use Rattle.std.specs.Option.{option_map_or, option_and_then}
use Rattle.vault_path.specs.Parts.{is_part}
use Rattle.outside.specs.Disk.{Disk, file as Bytes, Path as HostPath}
use Rattle.vault_keys.specs.Keys.{KeyPair}
use Rattle.tree_model.specs.Names.{NameFault, clear_name}
use Rattle.tree_model.specs.Rows.{Content}
use Rattle.tree_model.specs.Asked.{PlainChange, change}
use Rattle.clear_tree.specs.Walk.{Path, Sealing, Node, Dir, node_at}
use Rattle.clear_tree.specs.Places.{folders_of, host_entry, host_inner, seen_at, entry_at, text_name}
use Rattle.clear_tree.specs.Kept.{What, KeptDir, what_of, folder_in}
use Rattle.tree_loading.specs.Format.{sealing_of}
use Rattle.tree_deed_laws.specs.Trees.{AreTexts, Tree, IsTreeOf}
use Rattle.tree_deed_laws.specs.Taken.{taken}
use Rattle.tree_deed_laws.specs.Deeds.{Place, place_of, entry_text}
use Rattle.tree_deed_laws.proofs.Seeing.{text_of, some_there, entry_none, entry_part, long_shown, file_bytes, looked, node_kind, above_inner}
use Rattle.tree_deed_laws.proofs.Places.{free_places}
use Rattle.tree_deed_laws.proofs.Filling.{IsAt, is_at, entry_free}
use Rattle.tree_deed_laws.proofs.Exact.{name_there}
use Rattle.live_tree.specs.Held.{HeldNode, HeldTree, node_of}
use Rattle.live_tree_laws.proofs.Paths.{one_held}
use Rattle.name_places.specs.Asked.{IsTaken}
use Rattle.name_places.specs.Claims.{HaveHostEntries, claims_in}
use Rattle.name_places.specs.Laws.{EntriesAreParts}
use Rattle.node_changes.specs.declared.renaming.NewName.{NewName}
use Rattle.node_changes.specs.Changed.{StandsOn}
use Rattle.node_changes.specs.Placed.{identifier_in, name_of, taken_in, parent_at, taken_for}
use Rattle.node_changes.specs.Removal.{IsFolderAbove, place_in}
use Rattle.node_changes.specs.Renaming.{IsRenamingIn}
use Rattle.node_changes.specs.NewName.{IsNewName, IsStuck}
use Rattle.node_changes.proofs.Nodes.{IsBelow, is_below, place_is, above_there}
use Rattle.node_changes.proofs.Creations.{dir_node}
use Rattle.node_changes.proofs.Renames.{CanRename}

-- something is at the place of a node
module _ (s : Sealing) (d : Disk) (tree : Tree) (texts : AreTexts s) (of : IsTreeOf s d tree) (p : Path) (i n : List ℕ) (x : Node) (dir : get tree.nodes p ≡ Some (Dir i)) (stands : get tree.nodes (n ∷ p) ≡ Some x) where
  abbrev F : List ℕ
  F = s.folder_of i

  abbrev X : List ℕ
  X = s.seal i n

  dir_at : node_at s (folders_of s d) of.owner p ≡ Some (Dir i)
  dir_at = sym (of.exact p) ∙ dir

  node_there : node_at s (folders_of s d) of.owner (n ∷ p) ≡ Some x
  node_there = sym (of.exact (n ∷ p)) ∙ stands

  text : s.is_text X ≡ true
  text = text_of s texts i n (name_there s (folders_of s d) of.owner p n i x dir_at node_there)

  by_place : (b : Bool) → IsAt s d F X b → get d (host_entry F (entry_text s b X)) ≢ None
  by_place false at none = at.1 refl (entry_none s d F X none)
  by_place true at none =
      let kind = node_kind s (folders_of s d) of.owner p i n x dir_at node_there in
      let seen : seen_at s d F X ≡ Some kind.0 = (looked s (folders_of s d) i n kind.0 kind.1).1 in
      let inner = file_bytes (get d (host_inner F (s.long_of X) text_name)) X (long_shown s d F X kind.0 text seen (at.0 refl)).0 in
      some_there _ _ (above_inner d of.host F (s.long_of X) text_name (Bytes X) inner) none

  pub entry_there : get d (host_entry (s.folder_of i) (place_of s i n (tree.long (n ∷ p))).entry) ≢ None
  entry_there = by_place (tree.long (n ∷ p)) (is_at s d F X (tree.long (n ∷ p)) (of.placed n p i x dir stands))

-- nothing is at a place that isn't taken
pub entry_untaken : (keys : KeyPair) (d : Disk) (i m : List ℕ) (long : Bool) → (long ≡ false → (sealing_of keys).is_part ((sealing_of keys).seal i m) ≡ true)
    → (entry_at (sealing_of keys) d ((sealing_of keys).folder_of i) ((sealing_of keys).seal i m) ≡ None) → (get d (host_entry ((sealing_of keys).folder_of i) ((sealing_of keys).long_of ((sealing_of keys).seal i m))) ≡ None)
    → get d (host_entry ((sealing_of keys).folder_of i) (place_of (sealing_of keys) i m long).entry) ≡ None
entry_untaken keys d i m long part short_free long_free =
    let s = sealing_of keys in
    entry_free s d (s.folder_of i) (s.seal i m) long (λ e. sym (entry_part s d (s.folder_of i) (s.seal i m) (part e)) ∙ short_free) long_free

-- ---- a new name

asked_name : {A : Type 0} (f : A → Option A) (o : Option A) (x : A) → ((y z : A) → f y ≡ Some z → y ≡ z) → option_map_or f o None ≡ Some x → o ≡ Some x
asked_name f None x same e = absurd cc
asked_name f (Some y) x same e = ap Some (same y x e)

unless : {A : Type 0} (b : Bool) (y z : A) → (cond b None (Some y)) ≡ Some z → y ≡ z
unless true y z e = absurd cc
unless false y z e = cc

module _ (keys : KeyPair) (parts : EntriesAreParts keys) (live : HeldTree) (claims : List (List ℕ × ℕ)) (d : Disk) (contents : ℕ → Content) (stands : StandsOn (sealing_of keys) d live claims contents) where
  abbrev k : Sealing
  k = sealing_of keys

  pub host_entries : HaveHostEntries live
  host_entries number node there below =
      let it = is_below k d stands.tree live stands.is stands.holds number node there below in
      let above = above_there live stands.holds.is_tree number node there in
      go it above.0 above.1 (folder_in above.0.kept.what) refl above.2
    where
      go : (it : IsBelow k stands.tree live number node) (above : HeldNode) → node_of live node.kept.parent ≡ Some above → (o : Option (List ℕ)) → folder_in above.kept.what ≡ o → IsSome o → IsTrue (is_part node.kept.entry)
      go it above up None e some = absurd (true≢false (sym some))
      go it above up (Some folder) e some =
          let place : place_of k it.i it.name (stands.tree.long (it.name ∷ it.path)) ≡ place_in folder node =
          place_is k d stands.tree live stands.is stands.holds number node there below folder (record { above = above; up = up; is = e }) it in
          subst (λ (p : Place). IsTrue (is_part p.entry)) place (parts d stands.tree it.path it.i it.name it.node stands.is it.dir it.stands)

  module _ (number : ℕ) (new : NewName) (is : IsNewName (sealing_of keys) live number new) where
    pub it : IsBelow k stands.tree live number is.held
    it = is_below k d stands.tree live stands.is stands.holds number is.held is.node.there is.node.below

    same_dir : (it.i ≡ is.identifier) × (new.folder ≡ k.folder_of is.identifier)
    same_dir =
        let up = stands.holds.nodes_of it.path is.held.kept.parent it.at_dir in
        let same : up.held ≡ is.above.above = one_held live is.held.kept.parent up.held is.above.above up.there is.above.up in
        let what : what_of k up.node ≡ KeptDir is.identifier new.folder = sym up.is.what ∙ ap (λ (z : HeldNode). z.kept.what) same ∙ is.above.is in
        let node : up.node ≡ Dir is.identifier = dir_node k up.node is.identifier new.folder what in
        let w : ◌≡◌ {A = Option Node} (Some (Dir it.i)) (Some (Dir is.identifier)) = sym it.dir ∙ up.at ∙ ap Some node in
        let v : KeptDir is.identifier (k.folder_of is.identifier) ≡ KeptDir is.identifier new.folder = ap (what_of k) (sym node) ∙ what in
        let one : it.i ≡ is.identifier = cc in
        let other : new.folder ≡ k.folder_of is.identifier = cc in
        (one, other)

    pub folder_is : new.folder ≡ k.folder_of is.identifier
    folder_is = same_dir.1

    -- what a taken place is taken by
    pub found_is : (path : Option HostPath) → IsTaken new.folder new.place None live claims path d → path ≡ taken k d (claims_in k live) is.identifier new.name None
    found_is path told = told keys is.identifier new.name (record {
      above = folder_is;
      text = is.place.text;
      own = tt;
      is_tree = stands.holds.is_tree;
      entries = host_entries;
      indexed = stands.claimed;
    })

    -- the place that the request needs is this one
    pub taken_is : (c : PlainChange) (modified : Option ℕ) → IsRenamingIn live number new.name modified c contents → taken_for k d live (change number c) None ≡ taken k d (claims_in k live) is.identifier new.name None
    taken_is c modified renaming =
        ap (λ (o : Option (List ℕ)). option_and_then (λ name. option_and_then (λ parent. taken_in k d live parent name None) (parent_at live number)) o)
        (asked_name _ c.name renaming.asked (λ y z e. unless _ y z e) renaming.named)
        ∙ ap (λ (o : Option HeldNode). option_and_then (λ parent. taken_in k d live parent renaming.asked None) (option_and_then (λ (node : HeldNode). Some node.kept.parent) o)) is.node.there
        ∙ ap (λ (o : Option HeldNode). option_and_then (λ i. option_and_then (λ n. taken k d (claims_in k live) i n None) (name_of (clear_name renaming.asked))) (option_and_then (λ (node : HeldNode). identifier_in node.kept.what) o)) is.above.up
        ∙ ap (λ (what : What). option_and_then (λ i. option_and_then (λ n. taken k d (claims_in k live) i n None) (name_of (clear_name renaming.asked))) (identifier_in what)) is.above.is
        ∙ ap (λ (r : Result (List ℕ) NameFault). option_and_then (λ n. taken k d (claims_in k live) is.identifier n None) (name_of r)) renaming.clear

    module _ (untaken : IsTaken new.folder new.place None live claims None d) where
      pub free : taken k d (claims_in k live) is.identifier new.name None ≡ None
      free = sym (found_is None untaken)

      abbrev pub can_rename : CanRename k d live number is.held is.above.above is.identifier new.name new.place.long
      can_rename = record {
        below = is.node.below;
        up = is.above.up;
        folder = new.folder;
        dir = is.above.is;
        clean = is.clean;
        good = is.node.good;
        once = is.once;
        name = record { free = is.free; named = is.place.named; part = is.place.short; untaken = free };
      }

      -- no node is stuck
      pub never_stuck : AreTexts (sealing_of keys) → IsStuck live number new → ⊥
      never_stuck texts stuck = go stuck.amiss
        where
          same : stuck.held ≡ is.held
          same = one_held live number stuck.held is.held stuck.there is.node.there

          above : IsFolderAbove live is.held new.folder
          above = record { above = is.above.above; up = is.above.up; is = ap folder_in is.above.is }

          place : place_of k it.i it.name (stands.tree.long (it.name ∷ it.path)) ≡ place_in new.folder is.held
          place = place_is k d stands.tree live stands.is stands.holds number is.held is.node.there is.node.below new.folder above it

          go : (IsTrue (is_part stuck.held.kept.entry) → ⊥) ⊎ (stuck.held.kept.entry ≡ new.place.entry) → ⊥
          go (inl bad) = bad (host_entries number stuck.held stuck.there is.node.below)
          go (inr e) =
              let places = free_places k d (claims_in k live) is.identifier new.name None free in
              entry_there k d stands.tree texts stands.is it.path it.i it.name it.node it.dir it.stands
              (ap (λ (p : Place). get d (host_entry p.folder p.entry)) place
              ∙ ap (λ (t : List ℕ). get d (host_entry new.folder t)) (ap (λ (h : HeldNode). h.kept.entry) (sym same) ∙ e ∙ is.place.entry)
              ∙ ap (λ (f : List ℕ). get d (host_entry f (place_of k is.identifier new.name new.place.long).entry)) folder_is
              ∙ entry_untaken keys d is.identifier new.name new.place.long is.place.short places.0 places.1)
