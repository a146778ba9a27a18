-- What holds of a tree holds of it without one of its nodes.
use Rattle.std.proofs.Common.{◌≡◌, ◌≢◌, ℕ, Bool, true, false, cond, not, List, Option, Some, None, IsSome, ◌==◌, refl, sym, ap, ap₂, ◌∙◌, true≢false}
use Rattle.std.proofs.lemmas.Bool.{eq-eqb, ne_eqb}
use Rattle.std.proofs.lemmas.Map.Entries.{lookup-filter-keys}
use Rattle.std.specs.Ordering.{nat_cmp}
use Rattle.std.specs.Option.{option_and_then}
use Rattle.std.specs.List.Sorted.{IsStrictlySortedBy}
use Rattle.std.specs.Map.{keys_of}
use Rattle.std.specs.BTreeMap.{is_at}
use Rattle.tree_model.specs.Rows.{root}
use Rattle.clear_tree.specs.Kept.{folder_in}
use Rattle.live_tree.specs.Held.{HeldNode, HeldTree, node_of, IsNamed, IsChildless, HasParent}
use Rattle.live_tree.specs.Index.{Names, number_at, is_place, IsSet, IsClosed, IsNameless, IsHeld}
use Rattle.live_tree.specs.Changes.{dropped}
use Rattle.live_tree.proofs.Held.{place_is, place_true, folder_there, folder_some, number_from}

pub record IsStill (tree : HeldTree) (number q : ℕ) (n : HeldNode) : Type 0 where
  pub apart : q ≢ number
  pub there : node_of tree q ≡ Some n

module _ (tree : HeldTree) (number : ℕ) where
  at_dropped : (q : ℕ) → node_of (dropped tree number) q ≡ cond (not (q == number)) (node_of tree q) None
  at_dropped q =
      lookup-filter-keys (is_at (nat_cmp q)) (λ k. not (k == number)) (not (q == number)) (λ k e. ap (λ (x : ℕ). not (x == number)) (sym (number_from q k e))) tree.nodes

  pub still : (q : ℕ) (n : HeldNode) → q ≢ number → node_of tree q ≡ Some n → node_of (dropped tree number) q ≡ Some n
  still q n apart is = at_dropped q ∙ ap (λ b. cond (not b) (node_of tree q) None) (ne_eqb q number apart) ∙ is

  pub back : (q : ℕ) (n : HeldNode) → node_of (dropped tree number) q ≡ Some n → IsStill tree number q n
  back q n is = step (q == number) refl (sym (at_dropped q) ∙ is)
    where
      step : (b : Bool) → (q == number) ≡ b → cond (not (q == number)) (node_of tree q) None ≡ Some n → IsStill tree number q n
      step true b found = let got = rw b at found in absurd cc
      step false b found = let got = rw b at found in record { apart = (λ e. true≢false (sym (eq-eqb q number e) ∙ b)); there = got }

  module _ (childless : IsChildless tree number) where
    folder_still : (parent : ℕ) → parent ≢ number → IsSome (option_and_then (λ (p : HeldNode). folder_in p.kept.what) (node_of tree parent))
        → IsSome (option_and_then (λ (p : HeldNode). folder_in p.kept.what) (node_of (dropped tree number) parent))
    folder_still parent apart is =
        folder_there (node_of tree parent) (node_of (dropped tree number) parent)
        (λ p e folder. folder_some (node_of (dropped tree number) parent) p (still parent p apart e) folder) is

    pub parents_still : ((q : ℕ) (n : HeldNode) → node_of tree q ≡ Some n → q ≢ root → HasParent tree q n)
        → (q : ℕ) (n : HeldNode) → node_of (dropped tree number) q ≡ Some n → q ≢ root → HasParent (dropped tree number) q n
    parents_still parents q n there low =
        let was = back q n there in
        let old = parents q n was.there low in
        record {
          before = old.before;
          folder = folder_still n.kept.parent (λ same. childless q n (record { there = was.there; below = low; inside = same })) old.folder;
        }

module _ (names mid new : Names) (tree : HeldTree) (number : ℕ) (held : IsHeld names tree) (node : HeldNode) (there : node_of tree number ≡ Some node) (below : number ≢ root)
    (childless : IsChildless tree number) (taken : IsSet names mid node.kept.parent node.kept.name None) where
  own : IsNamed tree node.kept.parent node.kept.name number
  own = record { node = node; child = record { there = there; below = below; inside = refl }; named = refl }

  nameless_at : (name : List ℕ) (b : Bool) → is_place node.kept.parent node.kept.name number name ≡ b → (o : Option ℕ) → number_at names number name ≡ o → cond b None (number_at names number name) ≡ None
  nameless_at name true place o e = refl
  nameless_at name false place None e = e
  nameless_at name false place (Some k) e = let is = held.named number name k e in absurd (childless k is.node is.child)

  pub nameless_mid : IsNameless mid number
  nameless_mid name = taken.numbers number name ∙ nameless_at name (is_place node.kept.parent node.kept.name number name) refl (number_at names number name) refl

  module _ (closed : IsClosed mid new number) (ordered : IsStrictlySortedBy nat_cmp (keys_of (dropped tree number).nodes)) where
    number_new : (p : ℕ) (n : List ℕ) → number_at new p n ≡ cond (is_place node.kept.parent node.kept.name p n) None (number_at names p n)
    number_new p n = closed.numbers p n ∙ taken.numbers p n

    named_at : (p : ℕ) (n : List ℕ) (k : ℕ) (b : Bool) → is_place node.kept.parent node.kept.name p n ≡ b → cond b None (number_at names p n) ≡ Some k → IsNamed (dropped tree number) p n k
    named_at p n k true place at = absurd cc
    named_at p n k false place at =
        let is = held.named p n k at in
        let apart : k ≢ number = (λ same.
        let mine : is.node ≡ node = (let e : node_of tree number ≡ Some is.node = ap (node_of tree) (sym same) ∙ is.child.there in cc (e, there)) in
        let up : node.kept.parent ≡ p = ap (λ (x : HeldNode). x.kept.parent) (sym mine) ∙ is.child.inside in
        let called : node.kept.name ≡ n = ap (λ (x : HeldNode). x.kept.name) (sym mine) ∙ is.named in
        true≢false (sym (place_true node.kept.parent node.kept.name) ∙ ap₂ (λ (p : ℕ) (n : List ℕ). is_place node.kept.parent node.kept.name p n) up called ∙ place)) in
        record { node = is.node; child = record { there = still tree number k is.node apart is.child.there; below = is.child.below; inside = is.child.inside }; named = is.named }

    found_at : (p : ℕ) (n : List ℕ) (k : ℕ) → k ≢ number → IsNamed tree p n k → (b : Bool) → is_place node.kept.parent node.kept.name p n ≡ b → cond b None (number_at names p n) ≡ Some k
    found_at p n k apart is true place =
        let this = place_is node.kept.parent node.kept.name p n place in
        let mine = held.found node.kept.parent node.kept.name number own in
        let at : number_at names node.kept.parent node.kept.name ≡ Some k = ap₂ (λ (p : ℕ) (n : List ℕ). number_at names p n) this.parents this.names ∙ held.found p n k is in
        absurd (apart (cc (at, mine)))
    found_at p n k apart is false place = held.found p n k is

    pub held_dropped : IsHeld new (dropped tree number)
    held_dropped = record {
      ordered = ordered;
      first = (
        held.first.0,
        record { there = still tree number root held.first.0 (λ same. below (sym same)) held.first.1.there; own = held.first.1.own; folder = held.first.1.folder },
      );
      parents = parents_still tree number childless held.parents;
      numbers = λ q n is. held.numbers q n (back tree number q n is).there;
      versions = λ q n is. held.versions q n (back tree number q n is).there;
      directories = λ q n is folder.
          let was = back tree number q n is in
          closed.directories q was.apart ∙ taken.directories q ∙ held.directories q n was.there folder;
      named = λ p n k at. named_at p n k (is_place node.kept.parent node.kept.name p n) refl (sym (number_new p n) ∙ at);
      found = λ p n k is.
          let was = back tree number k is.node is.child.there in
          number_new p n
          ∙ found_at p n k was.apart (record { node = is.node; child = record { there = was.there; below = is.child.below; inside = is.child.inside }; named = is.named })
          (is_place node.kept.parent node.kept.name p n) refl;
    }
