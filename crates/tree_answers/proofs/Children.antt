-- The stats of a directory's nodes after a name, by the next node after it.
use Rattle.std.proofs.Common.{◌≡◌, ◌≢◌, ℕ, ◌==◌, Bool, true, not, ◌&&◌, List, [], ◌∷◌, map, Option, Some, None, is_gt, Less, Equal, Greater, refl, sym, ap, ◌∙◌, eq-eqb, eqb-true}
use Rattle.std.specs.Cmp.Lexicographic.{nat_list_cmp_total}
use Rattle.std.specs.FinMap as finmap
use Rattle.std.proofs.lemmas.Cmp.{tied_itself}
use Rattle.std.proofs.lemmas.Option.{same_Some}
use Rattle.tree_model.specs.Wire.{spelled_stat}
use Rattle.tree_model.specs.Rows.{Content, Row, Rows, root, is_child, children_of, named_children, stat_at}
use Rattle.tree_model.specs.Step.{is_behind, stats_behind}
use Rattle.clear_tree.specs.Kept.{IsBehind}
use Rattle.clear_tree.specs.Queue.{In}
use Rattle.live_tree.specs.Held.{HeldNode, HeldTree, IsTree, IsChild, IsNamed, IsNext, IsNoNext, node_of, live_row, live_rows}
use Rattle.tree_answers.proofs.Members.{both, in_filter, filter_in, in_map, map_in}
use Rattle.tree_answers.proofs.Rows.{row_in, in_rows, not_root, below_root}
use Rattle.tree_answers.proofs.Entries.{name_cmp, behind, in_entries, entries_in, first_behind, none_pass, greater_from, less_not_greater}

module _ (contents : ℕ → Content) (tree : HeldTree) (parent : ℕ) (good : IsTree tree) where
  abbrev rows : Rows
  rows = live_rows contents tree

  abbrev Child : Type 0
  Child = List ℕ × Row

  abbrev named : Row → Child
  named row = (row.name, row)

  abbrev entry : ℕ → HeldNode → Child
  entry number node = (node.kept.name, live_row contents (number, node))

  abbrev given : List Child
  given = map named (children_of rows parent)

  abbrev entries : List Child
  entries = finmap.entries (named_children rows parent)

  child_given : (number : ℕ) (node : HeldNode) → IsChild tree parent number node → In (entry number node) given
  child_given number node child =
      let inside : (node.kept.parent == parent) ≡ true = eq-eqb node.kept.parent parent child.inside in
      let passes : is_child parent (live_row contents (number, node)) ≡ true = ap (λ (b : Bool). b && not (number == root)) inside ∙ below_root number child.below in
      in_map named (live_row contents (number, node)) (children_of rows parent)
      (in_filter (is_child parent) (live_row contents (number, node)) rows.nodes (row_in contents tree number node child.there) passes)

  record IsEntry (f : Child) : Type 0 where
    number : ℕ
    node : HeldNode
    child : IsChild tree parent number node
    is : f ≡ entry number node

  given_child : (f : Child) → In f given → IsEntry f
  given_child f h =
      let mapped = map_in named f (children_of rows parent) h in
      let filtered = filter_in (is_child parent) mapped.of rows.nodes mapped.there in
      let row = in_rows contents tree mapped.of good filtered.0 in
      let passes : is_child parent (live_row contents (row.number, row.node)) ≡ true = ap (is_child parent) (sym row.is) ∙ filtered.1 in
      let parts = both (row.node.kept.parent == parent) (not (row.number == root)) passes in
      record {
        number = row.number;
        node = row.node;
        child = record { there = row.there; below = not_root row.number parts.1; inside = eqb-true row.node.kept.parent parent parts.0 };
        is = mapped.is ∙ ap named row.is;
      }

  -- two nodes of one number
  same_entry : (a b : ℕ) (node other : HeldNode) → node_of tree a ≡ Some node → node_of tree b ≡ Some other → a ≡ b → entry a node ≡ entry b other
  same_entry a b node other is is' same =
      let nodes : node ≡ other = same_Some node other (sym is ∙ ap (node_of tree) same ∙ is') in
      ap (λ (n : ℕ). entry n node) same ∙ ap (entry b) nodes

  child_entered : (number : ℕ) (node : HeldNode) → IsChild tree parent number node → In (entry number node) entries
  child_entered number node child =
      entries_in (entry number node) given
      (λ (g : Child) h name.
      let other = given_child g h in
      let there : IsNamed tree parent node.kept.name number = record { node = node; child = child; named = refl } in
      let again : IsNamed tree parent node.kept.name other.number = record { node = other.node; child = other.child; named = sym (name ∙ ap (λ (e : Child). e.0) other.is) } in
      same_entry number other.number node other.node child.there other.child.there (good.names parent node.kept.name number other.number there again) ∙ sym other.is)
      (child_given number node child)

  is_behind_by : (last : Option (List ℕ)) (name : List ℕ) → IsBehind last name → is_behind last name ≡ true
  is_behind_by None name h = refl
  is_behind_by (Some last) name h = ap is_gt h

  behind_by_is : (last : Option (List ℕ)) (name : List ℕ) → is_behind last name ≡ true → IsBehind last name
  behind_by_is None name h = tt
  behind_by_is (Some last) name h = greater_from (name_cmp name last) h

  -- no entry after the name is before the next node's
  none_before : (last : Option (List ℕ)) (number : ℕ) (next : IsNext tree parent last number) (g : Child) → In g entries → is_behind last g.0 ≡ true → name_cmp g.0 next.node.kept.name ≡ Less → ⊥
  none_before last number next g h past less =
      let other = given_child g (in_entries g given h) in
      let name : g.0 ≡ other.node.kept.name = ap (λ (e : Child). e.0) other.is in
      let behind' : IsBehind last other.node.kept.name = behind_by_is last other.node.kept.name (ap (is_behind last) (sym name) ∙ past) in
      let below : name_cmp other.node.kept.name next.node.kept.name ≡ Less = ap (λ (n : List ℕ). name_cmp n next.node.kept.name) (sym name) ∙ less in
      let apart : other.number ≢ number = λ (same : other.number ≡ number).
      let names : other.node.kept.name ≡ next.node.kept.name = ap (λ (e : Child). e.0) (same_entry other.number number other.node next.node other.child.there next.child.there same) in
      let equal : name_cmp other.node.kept.name next.node.kept.name ≡ Equal = ap (λ (n : List ℕ). name_cmp n next.node.kept.name) names ∙ tied_itself nat_list_cmp_total next.node.kept.name in
      absurd (cc (below, equal)) in
      let above : name_cmp next.node.kept.name other.node.kept.name ≡ Less = next.first other.number other.node other.child behind' apart in
      let turned : name_cmp other.node.kept.name next.node.kept.name ≡ Greater = less_not_greater next.node.kept.name other.node.kept.name above in
      absurd (cc (below, turned))

  -- after a name there is the stat of the next node, and then those after that
  pub next_stats : (last : Option (List ℕ)) (number : ℕ) (next : IsNext tree parent last number)
      → stats_behind rows parent last ≡ spelled_stat (stat_at (live_row contents (number, next.node))) ∷ stats_behind rows parent (Some next.node.kept.name)
  next_stats last number next =
      ap (map (λ (e : Child). spelled_stat (stat_at e.1)))
      (first_behind last (entry number next.node) entries (finmap.entries_sorted (named_children rows parent)) (child_entered number next.node next.child)
      (is_behind_by last next.node.kept.name next.behind) (none_before last number next))

  pub no_stats : (last : Option (List ℕ)) → IsNoNext tree parent last → stats_behind rows parent last ≡ []
  no_stats last none =
      ap (map (λ (e : Child). spelled_stat (stat_at e.1)))
      (none_pass (behind last) entries (λ (g : Child) h past.
      let other = given_child g (in_entries g given h) in
      let name : g.0 ≡ other.node.kept.name = ap (λ (e : Child). e.0) other.is in
      none other.number other.node other.child (behind_by_is last other.node.kept.name (ap (is_behind last) (sym name) ∙ past))))
