-- A tree in memory holds what it held if only versions and moments of its nodes changed.
use Rattle.std.proofs.Common.{◌≡◌, ℕ, List, [], ◌∷◌, Option, Some, None, refl, sym, ap, ◌∙◌, subst, arith}
use Rattle.std.specs.FinMap.{get}
use Rattle.std.specs.Option.{option_map}
use Rattle.clear_tree.specs.Walk.{Path, Sealing, Node}
use Rattle.clear_tree.specs.Kept.{KeptNode}
use Rattle.tree_deed_laws.specs.Trees.{Tree}
use Rattle.tree_deed_laws.proofs.Seeing.{some_there}
use Rattle.live_tree.specs.Held.{HeldNode, HeldTree, node_of, IsNamed, IsFree, IsChildless, IsTree}
use Rattle.live_tree.specs.Changes.{changed, changed_node}
use Rattle.live_tree.proofs.After.{IsAlike, forth, lookup_edit, picked, by_pick}
use Rattle.live_tree_laws.specs.Holds.{IsAt, IsPlaced, IsHeldAs, Holds}
use Rattle.live_tree_laws.specs.HeldLaws.{FreeNamesAreFree, ChildlessHaveNoChild}
use Rattle.live_tree_laws.proofs.Paths.{one_number}
use Rattle.live_tree_laws.proofs.HeldTrees.{tree_edited, edited_forth, edited_back}

-- ---- names and children

pub one_node : (tree : Tree) (q : Path) (x y : Node) → get tree.nodes q ≡ Some x → get tree.nodes q ≡ Some y → x ≡ y
one_node tree q x y h g = let z : ◌≡◌ {A = Option Node} (Some x) (Some y) = sym h ∙ g in cc

pub free_names_are_free : FreeNamesAreFree
free_names_are_free s tree live p parent n holds at_p = (to (get tree.nodes (n ∷ p)) refl, back)
  where
    to : (o : Option Node) → get tree.nodes (n ∷ p) ≡ o → IsFree live parent n → get tree.nodes (n ∷ p) ≡ None
    to None e free = e
    to (Some x) e free =
        let has = holds.numbers_of (n ∷ p) x e in
        let up : has.at.0 ≡ parent = one_number live holds.is_tree p has.at.0 parent has.at.1 at_p in
        absurd (free has.number (subst (λ (z : ℕ). IsNamed live z n has.number) up has.at.2))

    back : get tree.nodes (n ∷ p) ≡ None → IsFree live parent n
    back none x named = let is = holds.nodes_of (n ∷ p) x (parent, at_p, named) in some_there _ _ is.at none

pub childless_have_no_child : ChildlessHaveNoChild
childless_have_no_child s tree live p number holds at_p = (to, back)
  where
    to : IsChildless live number → (m : List ℕ) → get tree.nodes (m ∷ p) ≡ None
    to childless m = (free_names_are_free s tree live p number m holds at_p).0 (λ x named. childless x named.node named.child)

    back : ((m : List ℕ) → get tree.nodes (m ∷ p) ≡ None) → IsChildless live number
    back none x held child =
        (free_names_are_free s tree live p number held.kept.name holds at_p).1 (none held.kept.name) x (record { node = held; child = child; named = refl })

-- ---- nodes of which the same is kept

-- what is held of a node depends on what is kept of it
pub kept_as : (s : Sealing) (tree : Tree) (p : Path) (x : Node) (a b : HeldNode) → b.kept ≡ a.kept → IsHeldAs s tree p x a → IsHeldAs s tree p x b
kept_as s tree p x a b same is = record {
  what = ap (λ (z : KeptNode). z.what) same ∙ is.what;
  place = placed p is.place;
  foreign = ap (λ (z : KeptNode). z.foreign) same ∙ is.foreign;
  shadowed = ap (λ (z : KeptNode). z.shadowed) same ∙ is.shadowed;
}
  where
    placed : (p : Path) → IsPlaced s tree p a → IsPlaced s tree p b
    placed [] h = tt
    placed (n ∷ p) h = λ i at. let was = h i at in record {
      entry = ap (λ (z : KeptNode). z.entry) same ∙ was.entry;
      long = ap (λ (z : KeptNode). z.long) same ∙ was.long;
    }

-- paths lead on if each name does
pub leads_on : (old new : HeldTree) → ((a : ℕ) (m : List ℕ) (x : ℕ) → IsNamed old a m x → IsNamed new a m x) → (q : Path) (x : ℕ) → IsAt old q x → IsAt new q x
leads_on old new forth [] x h = h
leads_on old new forth (m ∷ q) x h = (h.0, leads_on old new forth q h.0 h.1, forth h.0 m x h.2)

-- a node of the same number, of which the same is kept
pub record IsKeptIn (new : HeldTree) (x : ℕ) (held : HeldNode) : Type 0 where
  pub node : HeldNode
  pub there : node_of new x ≡ Some node
  pub same : node.kept ≡ held.kept

pub holds_kept : (s : Sealing) (tree : Tree) (old new : HeldTree) → Holds s tree old → IsTree new → new.twice ≡ old.twice
    → ((x : ℕ) (held : HeldNode) → node_of old x ≡ Some held → IsKeptIn new x held)
    → ((a : ℕ) (m : List ℕ) (x : ℕ) → IsNamed old a m x → IsNamed new a m x) → ((a : ℕ) (m : List ℕ) (x : ℕ) → IsNamed new a m x → IsNamed old a m x) → Holds s tree new
holds_kept s tree old new holds is_tree twice kept forth back = record {
  is_tree = is_tree;
  nodes_of = λ p x at. let was = holds.nodes_of p x (leads_on new old back p x at) in let now = kept x was.held was.there in record {
    node = was.node;
    held = now.node;
    at = was.at;
    there = now.there;
    is = kept_as s tree p was.node was.held now.node now.same was.is;
  };
  numbers_of = λ p x at. let has = holds.numbers_of p x at in record { number = has.number; at = leads_on old new forth p has.number has.at };
  twice = twice ∙ holds.twice;
}

-- ---- one changed at a second

module _ (live : HeldTree) (is : IsTree live) (k now : ℕ) where
  pub changed_tree : IsTree (changed live k now)
  changed_tree = tree_edited live is k (changed_node now) (λ n there. record { parent = refl; folder = refl }) (λ n there. refl) (λ n there. omega arith)

  pub changed_forth : (a : ℕ) (m : List ℕ) (x : ℕ) → IsNamed live a m x → IsNamed (changed live k now) a m x
  changed_forth = edited_forth live is k (changed_node now) (λ n there. record { parent = refl; folder = refl }) (λ n there. refl) (λ n there. omega arith)

  pub changed_back : (a : ℕ) (m : List ℕ) (x : ℕ) → IsNamed (changed live k now) a m x → IsNamed live a m x
  changed_back = edited_back live is k (changed_node now) (λ n there. record { parent = refl; folder = refl }) (λ n there. refl) (λ n there. omega arith)

  pub changed_kept : (x : ℕ) (held : HeldNode) → node_of live x ≡ Some held → IsKeptIn (changed live k now) x held
  changed_kept x held there = record {
    node = picked k (changed_node now) x held;
    there = forth live (changed live k now) (picked k (changed_node now)) (λ q. lookup q)
        (λ q n h. by_pick (λ n'. IsAlike n n') k (changed_node now) q n (λ e. record { parent = refl; folder = refl }) (record { parent = refl; folder = refl })) x held there;
    same = by_pick (λ n'. n'.kept ≡ held.kept) k (changed_node now) x held (λ e. refl) refl;
  }
    where
      lookup : (q : ℕ) → node_of (changed live k now) q ≡ option_map (picked k (changed_node now) q) (node_of live q)
      lookup q = lookup_edit q k (changed_node now) live.nodes

pub holds_changed : (s : Sealing) (tree : Tree) (live : HeldTree) (k now : ℕ) → Holds s tree live → Holds s tree (changed live k now)
holds_changed s tree live k now holds =
    holds_kept s tree live (changed live k now) holds (changed_tree live holds.is_tree k now) refl (changed_kept live holds.is_tree k now) (changed_forth live holds.is_tree k now) (changed_back live holds.is_tree k now)
