-- Which removals the step refuses, by what is held of the tree.
use Rattle.std.proofs.Common.{◌≡◌, ◌≢◌, ◌==◌, ℕ, Bool, true, false, ◌&&◌, ◌||◌, not, cond, List, [], ◌∷◌, Option, Some, None, IsSome, IfSome, IfNone, is_some, refl, sym, ap, ap₂, ◌∙◌, subst, true≢false, eqb-true, eq-eqb, ne_eqb, inl, inr, ◌⊎◌}
use Rattle.std.specs.Option.{option_map, option_map_or, option_and_then}
use Rattle.std.specs.List.{find, list_any}
use Rattle.tree_model.specs.declared.refusal.Refusal.{Refusal}
use Rattle.tree_model.specs.declared.refusal.Refusal.TheVariants as refusals
use Rattle.tree_model.specs.Rows.{Kind, dir, file, link, bad, Content, bad_size, Row, Rows, root, is_dir, is_child}
use Rattle.tree_model.specs.Asked.{remove}
use Rattle.tree_model.specs.Step.{early, early_refusal, has_children, removal_refusal}
use Rattle.clear_tree.specs.Queue.{In}
use Rattle.clear_tree.specs.Kept.{What, KeptFile, KeptLink, KeptDir, KeptBad, kind_of, folder_in}
use Rattle.tree_deed_laws.proofs.Rows.{map_in, none_in}
use Rattle.deeds.proofs.Fields.{both_true}
use Rattle.live_tree.specs.Held.{HeldNode, HeldTree, node_of, live_row, live_rows, IsChild, IsChildless, IsNext, IsNoNext, IsTree}
use Rattle.live_tree.proofs.Held.{in_found}
use Rattle.live_tree.proofs.Rows.{row_is}
use Rattle.live_tree_laws.proofs.Numbers.{nodes_have_rows}
use Rattle.node_changes.specs.Removal.{IsRemovalRefusal}

-- ---- members of lists
module _ {A : Type 0} (t : A → Bool) where
  pub find_in : (xs : List A) (x : A) → find t xs ≡ Some x → In x xs
  find_in [] x h = absurd cc
  find_in (y ∷ xs) x h = go (t y) h (find_in xs x)
    where
      go : (b : Bool) → cond b (Some y) (find t xs) ≡ Some x → (find t xs ≡ Some x → In x xs) → (x ≡ y) ⊎ In x xs
      go true e rest = inl cc
      go false e rest = inr (rest e)

  pub find_true : (xs : List A) (x : A) → find t xs ≡ Some x → t x ≡ true
  find_true [] x h = absurd cc
  find_true (y ∷ xs) x h = go (t y) refl h (find_true xs x)
    where
      go : (b : Bool) → t y ≡ b → cond b (Some y) (find t xs) ≡ Some x → (find t xs ≡ Some x → t x ≡ true) → t x ≡ true
      go true e h rest = let same : y ≡ x = cc in ap t (sym same) ∙ e
      go false e h rest = rest h

  any_in : (xs : List A) → list_any t xs ≡ true → (x : A) × In x xs × (t x ≡ true)
  any_in [] h = absurd (true≢false (sym h))
  any_in (y ∷ xs) h = go (t y) refl h (any_in xs)
    where
      go : (b : Bool) → t y ≡ b → (b || list_any t xs) ≡ true → (list_any t xs ≡ true → (x : A) × In x xs × (t x ≡ true)) → (x : A) × In x (y ∷ xs) × (t x ≡ true)
      go true e j rest = (y, inl refl, e)
      go false e j rest = let a = rest j in (a.0, inr a.1, a.2)

-- ---- children
module _ (live : HeldTree) (is : IsTree live) (contents : ℕ → Content) (number : ℕ) where
  abbrev its_rows : Rows
  its_rows = live_rows contents live

  pub has_child : (x : ℕ) (held : HeldNode) → IsChild live number x held → has_children its_rows number ≡ true
  has_child x held child = go (has_children its_rows number) refl
    where
      go : (b : Bool) → has_children its_rows number ≡ b → has_children its_rows number ≡ true
      go true e = e
      go false e = absurd (none_in its_rows number (live_row contents (x, held)) e (find_in (λ (row : Row). row.number == x) its_rows.nodes (live_row contents (x, held)) (nodes_have_rows live contents x held child.there)) child.below child.inside)

  child_in : (row : Row) → In row its_rows.nodes → is_child number row ≡ true → (x : ℕ) × (held : HeldNode) × IsChild live number x held
  child_in row h child =
      let m = map_in (live_row contents) live.nodes row h in
      let parts = both_true (row.parent == number) (not (row.number == root)) child in
      let inside : row.parent ≡ number = eqb-true row.parent number parts.0 in
      let below : row.number ≢ root = (λ z. true≢false (sym parts.1 ∙ ap not (eq-eqb row.number root z))) in (
        m.0.0,
        m.0.1,
        record {
          there = in_found live.nodes m.0.0 m.0.1 is.ordered m.1;
          below = λ z. below (ap (λ (r : Row). r.number) m.2 ∙ z);
          inside = sym (ap (λ (r : Row). r.parent) m.2) ∙ inside;
        },
      )

  pub no_children : IsChildless live number → has_children its_rows number ≡ false
  no_children childless = go (has_children its_rows number) refl
    where
      go : (b : Bool) → has_children its_rows number ≡ b → has_children its_rows number ≡ false
      go false e = e
      go true e =
          let a = any_in (is_child number) its_rows.nodes e in
          let c = child_in a.0 a.1 a.2 in
          absurd (childless c.0 c.1 c.2)

  pub has_nodes_is : (o : Option ℕ) (b : Bool) → b ≡ is_some o → IfSome o (λ next. IsNext live number None next) → IfNone o (IsNoNext live number None) → has_children its_rows number ≡ b
  has_nodes_is None b is_b next no_next = no_children (λ x held child. no_next x held child tt) ∙ sym is_b
  has_nodes_is (Some next) b is_b is_next no_next = has_child next is_next.node is_next.child ∙ sym is_b

-- ---- the refusal of a removal

-- below the root, by what the row says
abbrev pub refusal_by : Bool → Bool → Bool → Bool → Kind → Option Refusal
refusal_by children foreign shadowed twice bad = Some refusals.Damaged
refusal_by children foreign shadowed twice dir =
    cond children (Some refusals.DirectoryNotEmpty) (cond (foreign || (shadowed || twice)) (Some refusals.Foreign) None)
refusal_by children foreign shadowed twice file = cond shadowed (Some refusals.Foreign) None
refusal_by children foreign shadowed twice link = cond shadowed (Some refusals.Foreign) None

or_false : (a : Bool) → (a || false) ≡ a
or_false true = refl
or_false false = refl

by_kind : (rows : Rows) (row : Row) (k : Kind) → row.kind ≡ k → removal_refusal rows row k ≡ refusal_by (has_children rows row.number) row.foreign row.shadowed rows.named_twice k
by_kind rows row bad e = refl
by_kind rows row dir e =
    ap (λ (z : Kind). cond (has_children rows row.number) (Some refusals.DirectoryNotEmpty) (cond (row.foreign || (row.shadowed || (is_dir z && rows.named_twice))) (Some refusals.Foreign) None)) e
by_kind rows row file e = ap (λ (z : Kind). cond (row.shadowed || (is_dir z && rows.named_twice)) (Some refusals.Foreign) None) e ∙ ap (λ (b : Bool). cond b (Some refusals.Foreign) None) (or_false row.shadowed)
by_kind rows row link e = ap (λ (z : Kind). cond (row.shadowed || (is_dir z && rows.named_twice)) (Some refusals.Foreign) None) e ∙ ap (λ (b : Bool). cond b (Some refusals.Foreign) None) (or_false row.shadowed)

module _ (live : HeldTree) (contents : ℕ → Content) (number : ℕ) where
  pub absent : node_of live number ≡ None → early_refusal (live_rows contents live) (remove number) ≡ Some refusals.Removed
  absent none =
      ap (λ (o : Option Row). option_map_or (λ row. early (live_rows contents live) row (remove number)) o (Some refusals.Removed))
      (row_is contents live number ∙ ap (option_map (λ (node : HeldNode). live_row contents (number, node))) none)

  pub early_at : (held : HeldNode) → node_of live number ≡ Some held → early_refusal (live_rows contents live) (remove number)
      ≡ cond (number == root) (Some refusals.NotPermitted) (refusal_by (has_children (live_rows contents live) number) held.kept.foreign held.kept.shadowed live.twice (kind_of held.kept.what))
  early_at held there =
      ap (λ (o : Option Row). option_map_or (λ row. early (live_rows contents live) row (remove number)) o (Some refusals.Removed)) (nodes_have_rows live contents number held there)
      ∙ ap (cond (number == root) (Some refusals.NotPermitted)) (by_kind (live_rows contents live) (live_row contents (number, held)) (kind_of held.kept.what) refl)

  -- of a node below the root, by its kind and whether nodes are in it
  pub refused_as : (held : HeldNode) → node_of live number ≡ Some held → number ≢ root → (kind : Kind) → kind_of held.kept.what ≡ kind → (children : Bool) → has_children (live_rows contents live) number ≡ children
      → early_refusal (live_rows contents live) (remove number) ≡ refusal_by children held.kept.foreign held.kept.shadowed live.twice kind
  refused_as held there below kind is children has =
      early_at held there
      ∙ ap (λ (b : Bool). cond b (Some refusals.NotPermitted) (refusal_by (has_children (live_rows contents live) number) held.kept.foreign held.kept.shadowed live.twice (kind_of held.kept.what))) (ne_eqb number root below)
      ∙ ap₂ (λ (c : Bool) (q : Kind). refusal_by c held.kept.foreign held.kept.shadowed live.twice q) has is

  pub refused_root : (held : HeldNode) → node_of live number ≡ Some held → number ≡ root → early_refusal (live_rows contents live) (remove number) ≡ Some refusals.NotPermitted
  refused_root held there is =
      early_at held there
      ∙ ap (λ (b : Bool). cond b (Some refusals.NotPermitted) (refusal_by (has_children (live_rows contents live) number) held.kept.foreign held.kept.shadowed live.twice (kind_of held.kept.what))) (eq-eqb number root is)

-- ---- what isn't refused

pub record IsRemovable (live : HeldTree) (number : ℕ) (held : HeldNode) : Type 0 where
  pub below : number ≢ root
  pub childless : IsChildless live number
  pub clean : held.kept.shadowed ≡ false
  pub good : (t : List ℕ) → held.kept.what ≢ KeptBad t
  pub bare : (i f : List ℕ) → held.kept.what ≡ KeptDir i f → (held.kept.foreign ≡ false) × (live.twice ≡ false)

record IsFree (children foreign shadowed twice : Bool) (what : What) : Type 0 where
  clean : shadowed ≡ false
  good : (t : List ℕ) → what ≢ KeptBad t
  empty : IsSome (folder_in what) → children ≡ false
  bare : (i f : List ℕ) → what ≡ KeptDir i f → (foreign ≡ false) × (twice ≡ false)

free_file : (b : Bool) → cond b (Some refusals.Foreign) None ≡ None → b ≡ false
free_file true h = absurd cc
free_file false h = refl

free_dir : (c f s t : Bool) → cond c (Some refusals.DirectoryNotEmpty) (cond (f || (s || t)) (Some refusals.Foreign) None) ≡ None → (c ≡ false) × (f ≡ false) × (s ≡ false) × (t ≡ false)
free_dir true f s t h = absurd cc
free_dir false true s t h = absurd cc
free_dir false false true t h = absurd cc
free_dir false false false true h = absurd cc
free_dir false false false false h = (refl, refl, refl, refl)

is_free : (children foreign shadowed twice : Bool) (what : What) → refusal_by children foreign shadowed twice (kind_of what) ≡ None → IsFree children foreign shadowed twice what
is_free c f s t (KeptFile size) h = record { clean = free_file s h; good = λ u e. cc; empty = λ e. absurd (true≢false (sym e)); bare = λ i g e. absurd cc }
is_free c f s t (KeptLink size) h = record { clean = free_file s h; good = λ u e. cc; empty = λ e. absurd (true≢false (sym e)); bare = λ i g e. absurd cc }
is_free c f s t (KeptDir identifier folder) h =
    let a = free_dir c f s t h in
    record { clean = a.2; good = λ u e. cc; empty = λ e. a.0; bare = λ i g e. (a.1, a.3) }
is_free c f s t (KeptBad text) h = absurd cc

-- what isn't a directory has no nodes in it
folder_of_parent : (live : HeldTree) (number : ℕ) (held : HeldNode) (o : Option HeldNode) → o ≡ Some held → IsSome (option_and_then (λ (parent : HeldNode). folder_in parent.kept.what) o) → IsSome (folder_in held.kept.what)
folder_of_parent live number held o e h = subst (λ (w : Option HeldNode). IsSome (option_and_then (λ (parent : HeldNode). folder_in parent.kept.what) w)) e h

module _ (live : HeldTree) (is : IsTree live) (number : ℕ) (held : HeldNode) (there : node_of live number ≡ Some held) (none : IsRemovalRefusal live number None) where
  abbrev none_of : ℕ → Content
  none_of n = bad_size

  parts : (b : Bool) → (number == root) ≡ b
      → cond b (Some refusals.NotPermitted) (refusal_by (has_children (live_rows none_of live) number) held.kept.foreign held.kept.shadowed live.twice (kind_of held.kept.what)) ≡ None
      → (number ≢ root) × IsFree (has_children (live_rows none_of live) number) held.kept.foreign held.kept.shadowed live.twice held.kept.what
  parts true e h = absurd cc
  parts false e h = ((λ z. true≢false (sym (eq-eqb number root z) ∙ e)), is_free _ _ _ _ held.kept.what h)

  all : (number ≢ root) × IsFree (has_children (live_rows none_of live) number) held.kept.foreign held.kept.shadowed live.twice held.kept.what
  all = parts (number == root) refl (sym (early_at live none_of number held there) ∙ none none_of)

  childless : IsChildless live number
  childless x node child =
      let up = is.parents x node child.there child.below in
      let dir_there : IsSome (folder_in held.kept.what) = folder_of_parent live number held (node_of live node.kept.parent) (ap (node_of live) child.inside ∙ there) up.folder in
      true≢false (sym (has_child live is none_of number x node child) ∙ all.1.empty dir_there)

  pub removable : IsRemovable live number held
  removable = record { below = all.0; childless = childless; clean = all.1.clean; good = all.1.good; bare = all.1.bare }

-- a removal that isn't refused has its node
pub is_there : (live : HeldTree) (number : ℕ) → IsRemovalRefusal live number None → IsSome (node_of live number)
is_there live number none = go (node_of live number) refl
  where
    go : (o : Option HeldNode) → node_of live number ≡ o → IsSome (node_of live number)
    go (Some held) e = ap (λ (o : Option HeldNode). is_some o) e
    go None e = let h : ◌≡◌ {A = Option Refusal} (Some refusals.Removed) None = sym (absent live (λ (n : ℕ). bad_size) number e) ∙ none (λ (n : ℕ). bad_size) in absurd cc

-- the node that is there
pub node_there : (live : HeldTree) (number : ℕ) → IsSome (node_of live number) → (held : HeldNode) × (node_of live number ≡ Some held)
node_there live number is = go (node_of live number) refl is
  where
    go : (o : Option HeldNode) → node_of live number ≡ o → IsSome o → (held : HeldNode) × (node_of live number ≡ Some held)
    go None e h = absurd (true≢false (sym h))
    go (Some held) e h = (held, e)

module _ (live : HeldTree) (is : IsTree live) (number : ℕ) (none : IsRemovalRefusal live number None) where
  its_node : (held : HeldNode) × (node_of live number ≡ Some held)
  its_node = node_there live number (is_there live number none)

  pub is_below_root : number ≢ root
  is_below_root = (removable live is number its_node.0 its_node.1 none).below

  pub is_childless : IsChildless live number
  is_childless = (removable live is number its_node.0 its_node.1 none).childless
