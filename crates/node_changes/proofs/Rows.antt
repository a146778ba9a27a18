-- The rows of a tree in which a node got another name, and the mtime that was asked for.
use Rattle.std.proofs.Common.{◌≡◌, ◌≢◌, ◌==◌, ℕ, Bool, true, false, cond, List, [], ◌∷◌, map, Option, Some, None, if◌then◌else◌, refl, sym, ap, ap₂, ◌∙◌, eq-eqb, ne_eqb}
use Rattle.std.proofs.lemmas.Bool.{cond-false}
use Rattle.std.specs.Option.{option_map}
use Rattle.tree_model.specs.Rows.{Row, Rows, row_of}
use Rattle.tree_model.specs.Step.{set_row, change_dir}
use Rattle.live_tree.specs.Held.{HeldNode, HeldTree, node_of, live_row, live_rows}
use Rattle.live_tree.specs.Changes.{edited, renamed, renamed_node, changed_node, wrapped, wrapped_row, RowsAreRenamed, RowsAreDated}
use Rattle.live_tree.proofs.After.{lookup_edit, picked}
use Rattle.live_tree_laws.proofs.Numbers.{nodes_have_rows}
use Rattle.node_changes.specs.NewName.{RowsAreNamed}

-- ---- rows that are set

abbrev set_in : ℕ → Row → Row → Row
set_in number new row = if row.number == number then new else row

-- a row that is set is set in the rows that are shown
set_shown : (number : ℕ) (new : Row) (rows : List Row) → map wrapped_row (map (set_in number new) rows) ≡ map (set_in number (wrapped_row new)) (map wrapped_row rows)
set_shown number new [] = refl
set_shown number new (row ∷ rows) = ap₂ (λ (r : Row) (rs : List Row). r ∷ rs) (one (row.number == number)) (set_shown number new rows)
  where
    one : (b : Bool) → wrapped_row (cond b new row) ≡ cond b (wrapped_row new) (wrapped_row row)
    one true = refl
    one false = refl

set_wrapped : (a b : Rows) (new : Row) → wrapped a ≡ wrapped b → wrapped (set_row a new) ≡ wrapped (set_row b new)
set_wrapped a b new e =
    ap (λ (rows : List Row). record { nodes = rows; next = a.next; named_twice = a.named_twice }) (set_shown new.number new a.nodes)
    ∙ ap (λ (shown : Rows). record { nodes = map (set_in new.number (wrapped_row new)) shown.nodes; next = shown.next; named_twice = shown.named_twice }) e
    ∙ ap (λ (rows : List Row). record { nodes = rows; next = b.next; named_twice = b.named_twice }) (sym (set_shown new.number new b.nodes))

-- the last of two rows that are set stays
set_twice : (number : ℕ) (first new : Row) → first.number ≡ number → (rows : List Row) → map (set_in number new) (map (set_in number first) rows) ≡ map (set_in number new) rows
set_twice number first new is [] = refl
set_twice number first new is (row ∷ rows) = ap₂ (λ (r : Row) (rs : List Row). r ∷ rs) (one (row.number == number) refl) (set_twice number first new is rows)
  where
    one : (b : Bool) → (row.number == number) ≡ b → set_in number new (set_in number first row) ≡ set_in number new row
    one true e = rw e (ap (λ (c : Bool). cond c new first) (eq-eqb first.number number is))
    one false e = rw e (rw e refl)

-- ---- the node that has the name

-- a directory is not in itself
named_node : (live : HeldTree) (number parent : ℕ) (name entry : List ℕ) (long : Bool) (now : ℕ) (held : HeldNode) → node_of live number ≡ Some held → number ≢ parent
    → node_of (renamed live number parent name entry long now) number ≡ Some (renamed_node name entry long held)
named_node live number parent name entry long now held there apart =
    lookup_edit number parent (changed_node now) (edited live number (renamed_node name entry long)).nodes
    ∙ ap (option_map (picked parent (changed_node now) number)) (lookup_edit number number (renamed_node name entry long) live.nodes ∙ ap (option_map (picked number (renamed_node name entry long) number)) there
    ∙ ap Some (ap (λ (b : Bool). cond b (renamed_node name entry long held) held) (eq-eqb number number refl)))
    ∙ ap Some (cond-false (number == parent) _ _ (ne_eqb number parent apart))

-- ---- with the mtime

module _ (live mid live' : HeldTree) (number : ℕ) (held : HeldNode) (name entry : List ℕ) (long : Bool) (now : ℕ) (there : node_of live number ≡ Some held) (apart : number ≢ held.kept.parent) where
  pub rows_named : RowsAreRenamed live mid number name now → live' ≡ mid → RowsAreNamed live live' number name None now
  rows_named rows same contents row found = ap (λ (t : HeldTree). wrapped (live_rows contents t)) same ∙ rows contents row found

  pub rows_named_dated : (modified : ℕ) → RowsAreRenamed live mid number name now → mid ≡ renamed live number held.kept.parent name entry long now → RowsAreDated mid live' number modified
      → RowsAreNamed live live' number name (Some modified) now
  rows_named_dated modified rows mid_is dated contents row found =
      let its : row ≡ live_row contents (number, held) = (let w : ◌≡◌ {A = Option Row} (Some row) (Some (live_row contents (number, held))) = sym found ∙ nodes_have_rows live contents number held there in cc) in
      let at : row_of (live_rows contents mid) number ≡ Some (live_row contents (number, renamed_node name entry long held)) =
      nodes_have_rows mid contents number (renamed_node name entry long held) (ap (λ (t : HeldTree). node_of t number) mid_is ∙ named_node live number held.kept.parent name entry long now held there apart) in
      dated contents (live_row contents (number, renamed_node name entry long held)) at
      ∙ set_wrapped (live_rows contents mid) (set_row (change_dir (live_rows contents live) held.kept.parent now) (record (live_row contents (number, held)) { name = name }))
      (record (live_row contents (number, renamed_node name entry long held)) { modified = modified })
      (rows contents row found ∙ ap (λ (r : Row). wrapped (set_row (change_dir (live_rows contents live) r.parent now) (record r { name = name }))) its)
      ∙ ap (λ (nodes : List Row). wrapped (record { nodes = nodes; next = live.next; named_twice = live.twice }))
      (set_twice number (record (live_row contents (number, held)) { name = name }) (record (live_row contents (number, renamed_node name entry long held)) { modified = modified }) refl
      (change_dir (live_rows contents live) held.kept.parent now).nodes)
      ∙ ap (λ (r : Row). wrapped (set_row (change_dir (live_rows contents live) r.parent now) (record r { name = name; modified = modified }))) (sym its)
