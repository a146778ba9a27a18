-- In a directory that isn't marked, what is at a short place is the node of that name, and what is at a long one is some node.
use Rattle.std.proofs.Common.{◌≡◌, ◌≢◌, ℕ, false, List, ◌∷◌, Some, None, sym, ap, ◌∙◌, subst, inl, inr, ◌⊎◌, true≢false}
use Rattle.std.specs.FinMap.{get}
use Rattle.outside.specs.Disk.{Disk}
use Rattle.tree_model.specs.Names.{IsClearName}
use Rattle.clear_tree.specs.Walk.{Path, Sealing, Kind, Bare, Node, Dir, look, node, node_at}
use Rattle.clear_tree.specs.Places.{folders_of, host_entry, entry_at, entry_of}
use Rattle.clear_tree.specs.Marks.{HasForeign, IsForeign, IsNodeEntry}
use Rattle.clear_tree.specs.Kept.{KeptDir}
use Rattle.clear_tree.specs.Queue.{In}
use Rattle.clear_tree.proofs.Owner.{child_at, is_name-true}
use Rattle.tree_deed_laws.specs.Trees.{Tree, IsTreeOf}
use Rattle.tree_deed_laws.specs.Deeds.{place_of}
use Rattle.tree_deed_laws.proofs.Seeing.{entry_cases, entry_none, looked}
use Rattle.live_tree.specs.Held.{HeldNode, HeldTree, node_of, IsChild, IsFree, IsNamed}
use Rattle.live_tree.proofs.Held.{found_in, in_found}
use Rattle.live_tree_laws.specs.Holds.{Holds, IsAt}
use Rattle.live_tree_laws.proofs.Numbers.{reached}
use Rattle.live_tree_laws.proofs.Paths.{one_held, one_number}
use Rattle.node_changes.proofs.Creations.{dir_node}
use Rattle.store_laws.proofs.Entries.{IsIn, entry_is, search, some_node}
use Rattle.store_laws.proofs.Names.{TellsNames}

pub record IsAnother (live : HeldTree) (parent : ℕ) (name entry : List ℕ) : Type 0 where
  pub number : ℕ
  pub node : HeldNode
  pub child : IsChild live parent number node
  pub another : node.kept.name ≢ name
  pub there : node.kept.entry ≡ entry

module _ (s : Sealing) (tells : TellsNames s) (d : Disk) (tree : Tree) (live : HeldTree) (is : IsTreeOf s d tree) (holds : Holds s tree live) (parent : ℕ) (held : HeldNode) (there : node_of live parent ≡ Some held)
    (i folder : List ℕ) (dir : held.kept.what ≡ KeptDir i folder) (unmarked : held.kept.foreign ≡ false) where
  at : (p : Path) × IsAt live p parent
  at = reached live holds.is_tree parent held there

  dir_at : (get tree.nodes at.0 ≡ Some (Dir i)) × (tree.marks.foreign at.0 ≡ false)
  dir_at =
      let it = holds.nodes_of at.0 parent at.1 in
      let same : it.held ≡ held = one_held live parent it.held held it.there there in (
        it.at ∙ ap Some (dir_node s it.node i folder (sym it.is.what ∙ ap (λ (z : HeldNode). z.kept.what) same ∙ dir)),
        sym it.is.foreign ∙ ap (λ (z : HeldNode). z.kept.foreign) same ∙ unmarked,
      )

  node_there : node_at s (folders_of s d) is.owner at.0 ≡ Some (Dir i)
  node_there = sym (is.exact at.0) ∙ dir_at.0

  none_foreign : (u : List ℕ) → IsForeign s d i u → ⊥
  none_foreign u foreign =
      let has : HasForeign s d (node_at s (folders_of s d) is.owner at.0) = subst (HasForeign s d) (sym node_there) (u, foreign) in
      true≢false (sym ((is.marked.foreign at.0).1 has) ∙ dir_at.1)

  seen_there : (name : List ℕ) (kind : Kind) → look s (folders_of s d) i name ≡ Some kind → kind ≢ Bare → (x : Node) × (get tree.nodes (name ∷ at.0) ≡ Some x)
  seen_there name kind shown known =
      let some = some_node s d is.owner (name ∷ at.0) kind known in
      let stands : node_at s (folders_of s d) is.owner (name ∷ at.0) ≡ Some some.0 =
      child_at s (folders_of s d) is.owner name i at.0 node_there ∙ ap (node s (folders_of s d) is.owner (name ∷ at.0)) shown ∙ some.1 in
      (some.0, is.exact (name ∷ at.0) ∙ stands)

  entry_of_named : (name : List ℕ) (x : Node) (number : ℕ) (node : HeldNode) → get tree.nodes (name ∷ at.0) ≡ Some x → IsAt live (name ∷ at.0) number → node_of live number ≡ Some node
      → node.kept.entry ≡ entry_of s d (s.folder_of i) (s.seal i name)
  entry_of_named name x number node stands leads is_it =
      let it = holds.nodes_of (name ∷ at.0) number leads in
      let same : node ≡ it.held = one_held live number node it.held is_it it.there in
      let long = is.placed name at.0 i x dir_at.0 stands in
      let kept : it.held.kept.entry ≡ (place_of s i name (tree.long (name ∷ at.0))).entry = (it.is.place i dir_at.0).entry in
      ap (λ (z : HeldNode). z.kept.entry) same ∙ kept ∙ entry_is s d i name (tree.long (name ∷ at.0)) long.0 long.1

  -- the node of an entry
  named_at : (u : List ℕ) (e : IsNodeEntry s d i u) → (x : ℕ) × (named : IsNamed live parent e.name x) × (named.node.kept.entry ≡ u)
  named_at u e =
      let seen = seen_there e.name e.kind e.shown e.known in
      let has = holds.numbers_of (e.name ∷ at.0) seen.0 seen.1 in
      let up : has.at.0 ≡ parent = one_number live holds.is_tree at.0 has.at.0 parent has.at.1 at.1 in
      let named : IsNamed live parent e.name has.number = subst (λ (z : ℕ). IsNamed live z e.name has.number) up has.at.2 in
      (has.number, named, entry_of_named e.name seen.0 has.number named.node seen.1 has.at named.child.there ∙ sym e.place)

  module _ (n : List ℕ) (free : IsFree live parent n) where
    pub short_is_free : IsClearName n → entry_at s d (s.folder_of i) (s.seal i n) ≢ None → ⊥
    short_is_free valid some =
        none_foreign (s.seal i n) (record {
          there = λ none. some (entry_none s d (s.folder_of i) (s.seal i n) none);
          no_copy = λ same file. tells.no_copy i n same;
          no_node = no_node;
        })
      where
        no_node : IsNodeEntry s d i (s.seal i n) → ⊥
        no_node e = go (entry_cases s d (s.folder_of i) (s.seal i e.name))
          where
            go : ((entry_at s d (s.folder_of i) (s.seal i e.name) ≡ None) × (entry_of s d (s.folder_of i) (s.seal i e.name) ≡ s.long_of (s.seal i e.name)))
                ⊎ ((x : _) × (entry_at s d (s.folder_of i) (s.seal i e.name) ≡ Some x) × (entry_of s d (s.folder_of i) (s.seal i e.name) ≡ s.seal i e.name)) → ⊥
            go (inl far) = tells.not_long i n (s.seal i e.name) (e.place ∙ far.1)
            go (inr near) =
                let opens = is_name-true e.name _ (looked s (folders_of s d) i e.name e.kind e.shown).0 in
                let same : n ≡ e.name = tells.once i n e.name valid (e.place ∙ near.2) opens in
                let it = named_at (s.seal i n) e in
                free it.0 (subst (λ (z : List ℕ). IsNamed live parent z it.0) (sym same) it.1)

    pub long_is_anothers : get d (host_entry (s.folder_of i) (s.long_of (s.seal i n))) ≢ None → IsAnother live parent n (s.long_of (s.seal i n))
    long_is_anothers some = go (search parent (s.long_of (s.seal i n)) live.nodes)
      where
        u : List ℕ
        u = s.long_of (s.seal i n)

        go : ((e : ℕ × HeldNode) × In e live.nodes × IsIn parent u e) ⊎ ((e : ℕ × HeldNode) → In e live.nodes → IsIn parent u e → ⊥) → IsAnother live parent n u
        go (inl found) =
            let child : IsChild live parent found.0.0 found.0.1 =
            record { there = in_found live.nodes found.0.0 found.0.1 holds.is_tree.ordered found.1; below = found.2.0; inside = found.2.1 } in
            record {
              number = found.0.0;
              node = found.0.1;
              child = child;
              another = λ same. free found.0.0 (record { node = found.0.1; child = child; named = same });
              there = found.2.2;
            }
        go (inr none) =
            absurd (none_foreign u (record {
              there = some;
              no_copy = λ same file. tells.long_no_copy (s.seal i n) same;
              no_node = λ e.
                  let it = named_at u e in
                  none (it.0, it.1.node) (found_in live.nodes it.0 it.1.node it.1.child.there) (it.1.child.below, it.1.child.inside, it.2);
            }))
