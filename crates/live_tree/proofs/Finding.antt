-- What the index finds is what the nodes have.
use Rattle.std.proofs.Common.{◌≡◌, ℕ, List, Option, Some, None, IfSome, IfNone, refl, sym, ap, ◌∙◌, subst}
use Rattle.std.specs.Ordering.{nat_cmp}
use Rattle.std.specs.Cmp.Lexicographic.{slice_cmp}
use Rattle.std.specs.declared.cmp.Ordering.TheVariants.{Less}
use Rattle.clear_tree.specs.Kept.{IsBehind}
use Rattle.live_tree.specs.Held.{HeldNode, HeldTree, IsChild, IsFree, IsNext, IsNoNext, IsTree}
use Rattle.live_tree.specs.Index.{Names, number_at, IsHeld, IsNextName}

module _ (names : Names) (tree : HeldTree) (held : IsHeld names tree) where
  pub free_from : (parent : ℕ) (name : List ℕ) → number_at names parent name ≡ None → IsFree tree parent name
  free_from parent name none number is = let some = held.found parent name number is in absurd (cc (none, some))

  found_child : (parent number : ℕ) (node : HeldNode) → IsChild tree parent number node → number_at names parent node.kept.name ≡ Some number
  found_child parent number node child = held.found parent node.kept.name number (record { node = node; child = child; named = refl })

  pub next_held : (parent : ℕ) (last : Option (List ℕ)) (number : ℕ) → IsNextName names parent last number → IsNext tree parent last number
  next_held parent last number next =
      let is = held.named parent next.name number next.there in
      record {
        node = is.node;
        child = is.child;
        behind = subst (IsBehind last) (sym is.named) next.behind;
        first = λ other node' child' behind' apart.
            let found = found_child parent other node' child' in
            subst (λ (n : List ℕ). slice_cmp nat_cmp n node'.kept.name ≡ Less) (sym is.named)
            (next.first node'.kept.name other found behind'
            (λ same. let there : number_at names parent node'.kept.name ≡ Some number = ap (number_at names parent) same ∙ next.there in apart (cc (found, there))));
      }

  pub no_next_held : (parent : ℕ) (last : Option (List ℕ)) → ((name : List ℕ) (number : ℕ) → number_at names parent name ≡ Some number → IsBehind last name → ⊥) → IsNoNext tree parent last
  no_next_held parent last none other node child behind = none node.kept.name other (found_child parent other node child) behind

  pub if_none : (parent : ℕ) (name : List ℕ) (o : Option ℕ) → o ≡ number_at names parent name → IfNone o (IsFree tree parent name)
  if_none parent name None e = free_from parent name (sym e)
  if_none parent name (Some number) e = tt

  pub if_next : (parent : ℕ) (last : Option (List ℕ)) (o : Option ℕ) → IfSome o (λ number. IsNextName names parent last number) → IfSome o (λ number. IsNext tree parent last number)
  if_next parent last None next = tt
  if_next parent last (Some number) next = next_held parent last number next

  pub if_no_next : (parent : ℕ) (last : Option (List ℕ)) (o : Option ℕ)
      → IfNone o ((name : List ℕ) (number : ℕ) → number_at names parent name ≡ Some number → IsBehind last name → ⊥) → IfNone o (IsNoNext tree parent last)
  if_no_next parent last None none = no_next_held parent last none
  if_no_next parent last (Some number) none = tt

  pub tree_is : IsTree tree
  tree_is = record {
    ordered = held.ordered;
    first = held.first;
    parents = held.parents;
    numbers = held.numbers;
    versions = held.versions;
    names = λ parent name a b first second.
        let one = held.found parent name a first in
        let other = held.found parent name b second in
        cc (one, other);
  }
