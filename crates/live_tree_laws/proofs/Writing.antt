-- A file written, and a node dated, in the tree and in memory.
use Rattle.std.proofs.Common.{◌≡◌, ◌≢◌, ◌<◌, ◌^◌, ℕ, true, false, List, [], ◌∷◌, length, Option, Some, if◌then◌else◌, refl, sym, ap, ◌∙◌, subst, inl, inr, ◌⊎◌}
use Rattle.std.proofs.lemmas.Bool.{cond-true, cond-false, eq-eqb, ne_eqb}
use Rattle.std.specs.FinMap.{get}
use Rattle.clear_tree.specs.Walk.{Path, same_path, Sealing, Node, File, Dir}
use Rattle.clear_tree.specs.Kept.{folder_in, what_of}
use Rattle.clear_tree.proofs.Paths.{path_cases, same_path-apart, same_path-itself}
use Rattle.tree_deed_laws.specs.Trees.{Tree}
use Rattle.tree_deed_laws.proofs.Maps.{get_with}
use Rattle.live_tree.specs.Held.{HeldNode, HeldTree, node_of, IsTree}
use Rattle.live_tree.specs.Changes.{edited, sized_node, dated, dated_node}
use Rattle.live_tree.proofs.After.{IsAlike, forth, picked, by_pick}
use Rattle.live_tree_laws.specs.Holds.{IsAt, IsPlaced, HoldsAt, HasNumber, Holds}
use Rattle.live_tree_laws.specs.Writing.{with_file, WritingHolds, DatingHolds}
use Rattle.live_tree_laws.proofs.Paths.{one_held, one_number, one_path}
use Rattle.live_tree_laws.proofs.HeldTrees.{edit_at, edit_alike, tree_edited, edited_forth, edited_back}
use Rattle.live_tree_laws.proofs.Keeping.{one_node, leads_on, IsKeptIn, holds_kept, holds_changed}

-- ---- a node dated

pub dating_holds : DatingHolds
dating_holds s tree live number modified holds =
    holds_kept s tree live (dated live number modified) holds (tree_edited live ok number (dated_node modified) alike named versions) refl kept
    (edited_forth live ok number (dated_node modified) alike named versions) (edited_back live ok number (dated_node modified) alike named versions)
  where
    ok : IsTree live
    ok = holds.is_tree

    alike : (n : HeldNode) → node_of live number ≡ Some n → IsAlike n (dated_node modified n)
    alike n there = record { parent = refl; folder = refl }

    named : (n : HeldNode) → node_of live number ≡ Some n → (dated_node modified n).kept.name ≡ n.kept.name
    named n there = refl

    versions : (n : HeldNode) → node_of live number ≡ Some n → (dated_node modified n).version < 2 ^ 32
    versions n there = ok.versions number n there

    kept : (x : ℕ) (held : HeldNode) → node_of live x ≡ Some held → IsKeptIn (dated live number modified) x held
    kept x held there = record {
      node = picked number (dated_node modified) x held;
      there = forth live (dated live number modified) (picked number (dated_node modified)) (edit_at live ok number (dated_node modified) alike named versions)
          (edit_alike live ok number (dated_node modified) alike named versions) x held there;
      same = by_pick (λ n'. n'.kept ≡ held.kept) number (dated_node modified) x held (λ e. refl) refl;
    }

-- ---- a file written

module _ (s : Sealing) (tree : Tree) (live : HeldTree) (p : Path) (number : ℕ) (old bytes : List ℕ) (holds : Holds s tree live) (at_p : IsAt live p number) (stands : get tree.nodes p ≡ Some (File old)) where
  abbrev tree' : Tree
  tree' = with_file tree p bytes

  abbrev f : HeldNode → HeldNode
  f = sized_node (length bytes)

  abbrev live' : HeldTree
  live' = edited live number f

  ok : IsTree live
  ok = holds.is_tree

  -- the node is a file
  is_file : (n : HeldNode) → node_of live number ≡ Some n → n.kept.what ≡ what_of s (File old)
  is_file n there =
      let it = holds.nodes_of p number at_p in
      let same : it.held ≡ n = one_held live number it.held n it.there there in
      let node : it.node ≡ File old = one_node tree p it.node (File old) it.at stands in
      ap (λ (z : HeldNode). z.kept.what) (sym same) ∙ it.is.what ∙ ap (what_of s) node

  alike : (n : HeldNode) → node_of live number ≡ Some n → IsAlike n (f n)
  alike n there = record { parent = refl; folder = sym (ap folder_in (is_file n there)) }

  named : (n : HeldNode) → node_of live number ≡ Some n → (f n).kept.name ≡ n.kept.name
  named n there = refl

  versions : (n : HeldNode) → node_of live number ≡ Some n → (f n).version < 2 ^ 32
  versions n there = ok.versions number n there

  pub is_tree : IsTree live'
  is_tree = tree_edited live ok number f alike named versions

  to : (q : Path) (x : ℕ) → IsAt live q x → IsAt live' q x
  to = leads_on live live' (edited_forth live ok number f alike named versions)

  pub from : (q : Path) (x : ℕ) → IsAt live' q x → IsAt live q x
  from = leads_on live' live (edited_back live ok number f alike named versions)

  there_after : (x : ℕ) (held : HeldNode) → node_of live x ≡ Some held → node_of live' x ≡ Some (picked number f x held)
  there_after = forth live live' (picked number f) (edit_at live ok number f alike named versions) (edit_alike live ok number f alike named versions)

  picked_here : (held : HeldNode) → picked number f number held ≡ f held
  picked_here held = ap (λ b. if b then f held else held) (eq-eqb number number refl)

  picked_other : (x : ℕ) (held : HeldNode) → x ≢ number → picked number f x held ≡ held
  picked_other x held apart = ap (λ b. if b then f held else held) (ne_eqb x number apart)

  abbrev Cases : Path → Type 0
  Cases q = ((same_path p q ≡ true) × (p ≡ q)) ⊎ ((same_path p q ≡ false) × (p ≢ q))

  pub here : get tree'.nodes p ≡ Some (File bytes)
  here = get_with tree.nodes p (File bytes) p ∙ cond-true (same_path p p) _ _ (same_path-itself p)

  pub other : (q : Path) → p ≢ q → get tree'.nodes q ≡ get tree.nodes q
  other q far = get_with tree.nodes p (File bytes) q ∙ cond-false (same_path p q) _ _ (same_path-apart p q far)

  -- a directory after it was one before
  was_dir : (q : Path) (j : List ℕ) → get tree'.nodes q ≡ Some (Dir j) → get tree.nodes q ≡ Some (Dir j)
  was_dir q j dir = go (path_cases p q)
    where
      go : Cases q → get tree.nodes q ≡ Some (Dir j)
      go (inl e) =
          let z : ◌≡◌ {A = Option Node} (Some (File bytes)) (Some (Dir j)) = sym (get_with tree.nodes p (File bytes) q ∙ cond-true (same_path p q) _ _ e.0) ∙ dir in absurd (cc)
      go (inr e) = sym (other q e.1) ∙ dir

  placed : (q : Path) (a b : HeldNode) → b.kept.entry ≡ a.kept.entry → b.kept.long ≡ a.kept.long → IsPlaced s tree q a → IsPlaced s tree' q b
  placed [] a b entry long h = tt
  placed (m ∷ q) a b entry long h = λ j dir. let was = h j (was_dir q j dir) in record { entry = entry ∙ was.entry; long = long ∙ was.long }

  nodes : (q : Path) (x : ℕ) → IsAt live q x → Cases q → HoldsAt s tree' live' q x
  nodes q x at (inl e) =
      let was : IsAt live p x = subst (λ (z : Path). IsAt live z x) (sym e.1) at in
      let same : x ≡ number = one_number live ok p x number was at_p in
      let it = holds.nodes_of p x was in
      subst (λ (z : Path). HoldsAt s tree' live' z x) e.1 (record {
        node = File bytes;
        held = f it.held;
        at = here;
        there = there_after x it.held it.there ∙ ap Some (ap (λ (y : ℕ). picked number f y it.held) same ∙ picked_here it.held);
        is = record { what = refl; place = placed p it.held (f it.held) refl refl it.is.place; foreign = it.is.foreign; shadowed = it.is.shadowed };
      })
  nodes q x at (inr e) =
      let it = holds.nodes_of q x at in
      let apart : x ≢ number = (λ z. e.1 (one_path live ok p q number at_p (subst (λ (y : ℕ). IsAt live q y) z at))) in
      record {
        node = it.node;
        held = it.held;
        at = other q e.1 ∙ it.at;
        there = there_after x it.held it.there ∙ ap Some (picked_other x it.held apart);
        is = record { what = it.is.what; place = placed q it.held it.held refl refl it.is.place; foreign = it.is.foreign; shadowed = it.is.shadowed };
      }

  numbers : (q : Path) (z : Node) → get tree'.nodes q ≡ Some z → Cases q → HasNumber live' q
  numbers q z at (inl e) = subst (λ (w : Path). HasNumber live' w) e.1 (record { number = number; at = to p number at_p })
  numbers q z at (inr e) = let has = holds.numbers_of q z (sym (other q e.1) ∙ at) in record { number = has.number; at = to q has.number has.at }

  pub holds_written : Holds s tree' live'
  holds_written = record {
    is_tree = is_tree;
    nodes_of = λ q x at. nodes q x (from q x at) (path_cases p q);
    numbers_of = λ q z at. numbers q z at (path_cases p q);
    twice = holds.twice;
  }

pub writing_holds : WritingHolds
writing_holds s tree live p number old bytes now holds at_p stands =
    holds_changed s (with_file tree p bytes) (edited live number (sized_node (length bytes))) number now (holds_written s tree live p number old bytes holds at_p stands)
