-- Rows keep the shape of the tree from one change to the next; and what the step does not refuse.
use Rattle.std.proofs.Common.{◌≡◌, ◌≢◌, ◌↔◌, ◌&&◌, ◌||◌, ◌==◌, ℕ, Bool, true, false, cond, List, ◌∷◌, Option, Some, None, IsTrue, refl, sym, ap, ◌∙◌, subst, inl, inr, ◌⊎◌, ne_eqb, true≢false}
use Rattle.std.specs.FinMap.{get}
use Rattle.std.proofs.lemmas.Bool.{cond-true, cond-false}
use Rattle.outside.specs.Disk.{Disk}
use Rattle.tree_model.specs.declared.refusal.Refusal.{Refusal}
use Rattle.tree_model.specs.declared.refusal.Refusal.TheVariants as refusals
use Rattle.tree_model.specs.Rows.{Kind, Row, Rows, root, is_dir, child_of}
use Rattle.tree_model.specs.Asked.{PlainChange}
use Rattle.tree_model.specs.Step.{is_held, has_children, removal_refusal, remove_refusal, change_dir, new_row, set_row, with_mtime, with_new, without_row}
use Rattle.clear_tree.specs.Walk.{Path, same_path, Sealing, Node, File, Link, Dir, Bad, node_at, claimed}
use Rattle.clear_tree.specs.Places.{folders_of}
use Rattle.clear_tree.specs.Marks.{Marks, HasForeign, IsShadowedIn}
use Rattle.clear_tree.specs.Queue.{In}
use Rattle.clear_tree.specs.Kept.{what_of}
use Rattle.clear_tree.specs.Rows.{kind_of, content_in}
use Rattle.clear_tree.proofs.Paths.{path_cases, same_path-apart, same_path-itself}
use Rattle.tree_deed_laws.specs.Trees.{AreTexts, Tree, IsTreeOf, with_node, without_node, with_name, swapped}
use Rattle.tree_deed_laws.specs.Changes.{CanStand, IsNew, IsHeldByNone}
use Rattle.tree_deed_laws.specs.Deeds.{place_of, remove_deeds, rename_deeds}
use Rattle.tree_deed_laws.specs.Shapes.{IsRowAt, IsShown, HasRow, HasNode, HasShape, Follows, FileFollows, DirectoryFollows, RemovalFollows, RenameFollows}
use Rattle.tree_deed_laws.proofs.Seeing.{some_there, not_something}
use Rattle.tree_deed_laws.proofs.Maps.{get_with, get_without, get_moved}
use Rattle.tree_deed_laws.proofs.Rename.{swapped_twice}
use Rattle.tree_deed_laws.proofs.Rows.{AreLike, bump, bump_like, row_in, one_row, no_child, none_in, more_forth, more_new, more_back, more_numbered, less_forth, less_from, less_numbered, turned, turned_cases, moved_forth, moved_back, moved_numbered}
use Rattle.tree_deed_laws.proofs.Held as held
use Rattle.tree_deed_laws.proofs.Creates.{creates_file, creates_directory}
use Rattle.tree_deed_laws.proofs.Removes.{removes_file, removes_link, removes_directory}
use Rattle.tree_deed_laws.proofs.Renames.{renames_file, renames_link, renames_directory}

no_mark : (b : Bool) (P : Type 0) → IsTrue b ↔ P → (P → ⊥) → b ≡ false
no_mark false P f non = refl
no_mark true P f non = absurd (non (f.0 refl))

like_shown : (s : Sealing) (tree tree' : Tree) (q : Path) (y : Node) (a b : Row) → tree'.marks ≡ tree.marks → AreLike a b → IsShown s tree q y b → IsShown s tree' q y a
like_shown s tree tree' q y a b marks like shown = record {
  kind = like.kind ∙ shown.kind;
  content = like.content ∙ shown.content;
  foreign = like.foreign ∙ shown.foreign ∙ ap (λ (z : Marks). z.foreign q) (sym marks);
  shadowed = like.shadowed ∙ shown.shadowed ∙ ap (λ (z : Marks). z.shadowed q) (sym marks);
}

-- ---- one more
-- a row more, of a node that was not there
pub record AddedRow (s : Sealing) (d : Disk) (tree : Tree) (rows : Rows) (parent new : Row) (p : Path) (n : List ℕ) (x : Node) (long : Bool) (now : ℕ) : Type 0 where
  pub is : IsTreeOf s d tree
  pub shape : HasShape s tree rows
  pub at_p : IsRowAt rows p parent
  pub free : child_of rows parent.number n ≡ None
  pub none : get tree.nodes (n ∷ p) ≡ None
  pub number : new.number ≡ rows.next
  pub inside : new.parent ≡ parent.number
  pub named : new.name ≡ n
  pub kind : new.kind ≡ kind_of x
  pub content : new.content ≡ content_in s x
  pub foreign : new.foreign ≡ false
  pub shadowed : new.shadowed ≡ false

module _ {s : Sealing} {d : Disk} {tree : Tree} {rows : Rows} {parent new : Row} {p : Path} {n : List ℕ} {x : Node} {long : Bool} {now : ℕ} (added : AddedRow s d tree rows parent new p n x long now) where
  open added use {is, shape, at_p, free, none, number, inside, named, kind, content, foreign, shadowed}

  abbrev tree' : Tree
  tree' = with_node tree (n ∷ p) x long

  no_node : node_at s (folders_of s d) is.owner (n ∷ p) ≡ None
  no_node = sym (is.exact (n ∷ p)) ∙ none

  new_shown : IsShown s tree' (n ∷ p) x new
  new_shown = record {
    kind = kind;
    content = content;
    foreign = foreign ∙ sym (no_mark (tree.marks.foreign (n ∷ p)) _ (is.marked.foreign (n ∷ p)) (λ f. subst (λ (z : Option Node). HasForeign s d z) no_node f));
    shadowed = shadowed ∙ sym (no_mark (tree.marks.shadowed (n ∷ p)) _ (is.marked.shadowed n p)
        (λ f. subst (λ (z : Option Node). IsShadowedIn s d (node_at s (folders_of s d) is.owner p) n z) no_node f));
  }

  abbrev rows' : Rows
  rows' = with_new rows new now

  rows_of : (q : Path) (y : Node) → get tree'.nodes q ≡ Some y → HasRow s tree' rows' q y
  rows_of q y e = go (path_cases (n ∷ p) q)
    where
      go : ((same_path (n ∷ p) q ≡ true) × (n ∷ p ≡ q)) ⊎ ((same_path (n ∷ p) q ≡ false) × (n ∷ p ≢ q)) → HasRow s tree' rows' q y
      go (inl w) =
          let same : ◌≡◌ {A = Option Node} (Some x) (Some y) = sym (get_with tree.nodes (n ∷ p) x q ∙ cond-true (same_path (n ∷ p) q) _ _ w.0) ∙ e in
          let xy : x ≡ y = cc in
          subst (λ (z : Path). HasRow s tree' rows' z y) w.1 (subst (λ (z : Node). HasRow s tree' rows' (n ∷ p) z) xy
          (record { row = new; at = more_new rows shape.numbered p parent new now n at_p free number inside named; shown = new_shown }))
      go (inr w) =
          let was : get tree.nodes q ≡ Some y = sym (get_with tree.nodes (n ∷ p) x q ∙ cond-false (same_path (n ∷ p) q) _ _ w.0) ∙ e in
          let r = shape.rows_of q y was in
          record {
            row = bump new.parent now r.row;
            at = more_forth rows shape.numbered p parent new now n at_p free number inside named q r.row r.at;
            shown = like_shown s tree tree' q y (bump new.parent now r.row) r.row refl (bump_like new.parent now r.row) r.shown;
          }

  nodes_of : (q : Path) (a : Row) → IsRowAt rows' q a → HasNode s tree' q a
  nodes_of q a i = go (more_back rows shape.numbered p parent new now n at_p free number inside named q a i)
    where
      go : ((b : Row) × IsRowAt rows q b × (a ≡ bump new.parent now b) × (n ∷ p ≢ q)) ⊎ ((n ∷ p ≡ q) × (a ≡ new)) → HasNode s tree' q a
      go (inl b) =
          let r = shape.nodes_of q b.0 b.1 in
          subst (λ (z : Row). HasNode s tree' q z) (sym b.2) (record {
            node = r.node;
            at = get_with tree.nodes (n ∷ p) x q ∙ cond-false (same_path (n ∷ p) q) _ _ (same_path-apart (n ∷ p) q b.3) ∙ r.at;
            shown = like_shown s tree tree' q r.node (bump new.parent now b.0) b.0 refl (bump_like new.parent now b.0) r.shown;
          })
      go (inr b) = subst (λ (z : Path). HasNode s tree' z a) b.0 (subst (λ (z : Row). HasNode s tree' (n ∷ p) z) (sym b.1) (record {
        node = x;
        at = get_with tree.nodes (n ∷ p) x (n ∷ p) ∙ cond-true (same_path (n ∷ p) (n ∷ p)) _ _ (same_path-itself (n ∷ p));
        shown = new_shown;
      }))

  pub shape_more : HasShape s tree' rows'
  shape_more = record {
    numbered = more_numbered rows shape.numbered p parent new now n at_p free number inside named;
    rows_of = rows_of;
    nodes_of = nodes_of;
    twice = shape.twice;
  }

-- ---- one less
module _ (s : Sealing) (tree : Tree) (rows : Rows) (old : Row) (p : Path) (n : List ℕ) (now : ℕ)
    (shape : HasShape s tree rows) (at_it : IsRowAt rows (n ∷ p) old) (leaf : (m : List ℕ) (a : Row) → IsRowAt rows (m ∷ n ∷ p) a → ⊥) where
  abbrev less_tree : Tree
  less_tree = without_node tree (n ∷ p)

  abbrev less_rows : Rows
  less_rows = without_row rows old now

  less_rows_of : (q : Path) (y : Node) → get less_tree.nodes q ≡ Some y → HasRow s less_tree less_rows q y
  less_rows_of q y e = go (path_cases (n ∷ p) q)
    where
      go : ((same_path (n ∷ p) q ≡ true) × (n ∷ p ≡ q)) ⊎ ((same_path (n ∷ p) q ≡ false) × (n ∷ p ≢ q)) → HasRow s less_tree less_rows q y
      go (inl w) = let z : ◌≡◌ {A = Option Node} None (Some y) = sym (get_without tree.nodes (n ∷ p) q ∙ cond-true (same_path (n ∷ p) q) _ _ w.0) ∙ e in absurd (cc)
      go (inr w) =
          let was : get tree.nodes q ≡ Some y = sym (get_without tree.nodes (n ∷ p) q ∙ cond-false (same_path (n ∷ p) q) _ _ w.0) ∙ e in
          let r = shape.rows_of q y was in
          record {
            row = bump old.parent now r.row;
            at = less_forth rows shape.numbered p old now n at_it leaf q r.row r.at w.1;
            shown = like_shown s tree less_tree q y (bump old.parent now r.row) r.row refl (bump_like old.parent now r.row) r.shown;
          }

  less_nodes_of : (q : Path) (a : Row) → IsRowAt less_rows q a → HasNode s less_tree q a
  less_nodes_of q a i =
      let b = less_from rows shape.numbered p old now n at_it leaf q a i in
      let r = shape.nodes_of q b.0 b.1 in
      subst (λ (z : Row). HasNode s less_tree q z) (sym b.2) (record {
        node = r.node;
        at = get_without tree.nodes (n ∷ p) q ∙ cond-false (same_path (n ∷ p) q) _ _ (same_path-apart (n ∷ p) q b.3) ∙ r.at;
        shown = like_shown s tree less_tree q r.node (bump old.parent now b.0) b.0 refl (bump_like old.parent now b.0) r.shown;
      })

  pub shape_less : HasShape s less_tree less_rows
  shape_less = record {
    numbered = less_numbered rows shape.numbered p old now n at_it leaf;
    rows_of = less_rows_of;
    nodes_of = less_nodes_of;
    twice = shape.twice;
  }

-- ---- one renamed
-- a row under another name
pub record MovedRow (s : Sealing) (tree : Tree) (rows : Rows) (old new : Row) (p : Path) (n k : List ℕ) (long : Bool) (now : ℕ) : Type 0 where
  pub apart : n ≢ k
  pub shape : HasShape s tree rows
  pub at_it : IsRowAt rows (n ∷ p) old
  pub free : child_of rows old.parent k ≡ None
  pub number : new.number ≡ old.number
  pub inside : new.parent ≡ old.parent
  pub named : new.name ≡ k
  pub kind : new.kind ≡ old.kind
  pub content : new.content ≡ old.content
  pub foreign : new.foreign ≡ old.foreign
  pub shadowed : new.shadowed ≡ old.shadowed

module _ {s : Sealing} {tree : Tree} {rows : Rows} {old new : Row} {p : Path} {n k : List ℕ} {long : Bool} {now : ℕ} (moved : MovedRow s tree rows old new p n k long now) where
  open moved use {apart, shape, at_it, free, number, inside, named, kind, content, foreign, shadowed}

  abbrev moved_tree : Tree
  moved_tree = with_name tree (n ∷ p) (k ∷ p) long

  abbrev moved_rows : Rows
  moved_rows = set_row (change_dir rows old.parent now) new

  abbrev sw : Path → Path
  sw = swapped (n ∷ p) (k ∷ p)

  abbrev now_row : Row → Row
  now_row = turned rows shape.numbered p old new now n k apart at_it free number inside named

  now_shown : (q : Path) (y : Node) (r : Row) → In r rows.nodes → IsShown s tree (sw q) y r → IsShown s moved_tree q y (now_row r)
  now_shown q y r i shown = go (turned_cases rows shape.numbered p old new now n k apart at_it free number inside named r)
    where
      go : ((r.number ≡ old.number) × (now_row r ≡ new)) ⊎ ((r.number ≢ old.number) × AreLike (now_row r) r) → IsShown s moved_tree q y (now_row r)
      go (inl c) =
          let same : old ≡ r = sym (shape.numbered.one r old i at_it.2.there c.0) in
          record {
            kind = ap (λ (z : Row). z.kind) c.1 ∙ kind ∙ ap (λ (z : Row). z.kind) same ∙ shown.kind;
            content = ap (λ (z : Row). z.content) c.1 ∙ content ∙ ap (λ (z : Row). z.content) same ∙ shown.content;
            foreign = ap (λ (z : Row). z.foreign) c.1 ∙ foreign ∙ ap (λ (z : Row). z.foreign) same ∙ shown.foreign;
            shadowed = ap (λ (z : Row). z.shadowed) c.1 ∙ shadowed ∙ ap (λ (z : Row). z.shadowed) same ∙ shown.shadowed;
          }
      go (inr c) = record { kind = c.1.kind ∙ shown.kind; content = c.1.content ∙ shown.content; foreign = c.1.foreign ∙ shown.foreign; shadowed = c.1.shadowed ∙ shown.shadowed }

  moved_rows_of : (q : Path) (y : Node) → get moved_tree.nodes q ≡ Some y → HasRow s moved_tree moved_rows q y
  moved_rows_of q y e =
      let r = shape.rows_of (sw q) y (sym (get_moved n k p apart tree.nodes q) ∙ e) in
      record {
        row = now_row r.row;
        at = subst (λ (z : Path). IsRowAt moved_rows z (now_row r.row)) (swapped_twice n k p apart q)
            (moved_forth rows shape.numbered p old new now n k apart at_it free number inside named (sw q) r.row r.at);
        shown = now_shown q y r.row (row_in rows shape.numbered (sw q) r.row r.at) r.shown;
      }

  moved_nodes_of : (q : Path) (a : Row) → IsRowAt moved_rows q a → HasNode s moved_tree q a
  moved_nodes_of q a i =
      let b = moved_back rows shape.numbered p old new now n k apart at_it free number inside named q a i in
      let r = shape.nodes_of (sw q) b.0 b.1 in
      subst (λ (z : Row). HasNode s moved_tree q z) (sym b.2) (record {
        node = r.node;
        at = get_moved n k p apart tree.nodes q ∙ r.at;
        shown = now_shown q r.node b.0 (row_in rows shape.numbered (sw q) b.0 b.1) r.shown;
      })

  pub shape_moved : HasShape s moved_tree moved_rows
  shape_moved = record {
    numbered = moved_numbered rows shape.numbered p old new now n k apart at_it free number inside named;
    rows_of = moved_rows_of;
    nodes_of = moved_nodes_of;
    twice = shape.twice;
  }

-- ---- creating

-- a name that no row of the directory has is no node's
no_node_of : (s : Sealing) (tree : Tree) (rows : Rows) (parent : Row) (p : Path) (n : List ℕ) → HasShape s tree rows → IsRowAt rows p parent → child_of rows parent.number n ≡ None
    → get tree.nodes (n ∷ p) ≡ None
no_node_of s tree rows parent p n shape at_p free = go (get tree.nodes (n ∷ p)) refl
  where
    go : (o : Option Node) → get tree.nodes (n ∷ p) ≡ o → get tree.nodes (n ∷ p) ≡ None
    go None e = e
    go (Some y) e =
        let r = shape.rows_of (n ∷ p) y e in
        let above : r.at.0 ≡ parent = one_row rows shape.numbered p r.at.0 parent r.at.1 at_p in
        absurd (no_child rows parent.number n r.row free r.at.2.there r.at.2.below (r.at.2.parent ∙ ap (λ (w : Row). w.number) above) r.at.2.named)

pub file_follows : FileFollows
file_follows s d tree rows parent p i n header long now texts is shape at_p dir_at free place empty = record {
  tree = with_node tree (n ∷ p) (File header) long;
  leads = creates_file s d tree p i n header long texts is (record { parent = dir_at; free = no_node_of s tree rows parent p n shape at_p free; place = place });
  shape = shape_more added;
}
  where
    added : AddedRow s d tree rows parent (new_row rows parent n false now) p n (File header) long now
    added = record {
      is = is;
      shape = shape;
      at_p = at_p;
      free = free;
      none = no_node_of s tree rows parent p n shape at_p free;
      number = refl;
      inside = refl;
      named = refl;
      kind = refl;
      content = sym empty;
      foreign = refl;
      shadowed = refl;
    }

pub directory_follows : DirectoryFollows
directory_follows s d tree rows parent p i n t long now texts is shape at_p dir_at free place valid = record {
  tree = with_node tree (n ∷ p) (Dir t) long;
  leads = creates_directory s d tree p i n t long texts is (record { parent = dir_at; free = no_node_of s tree rows parent p n shape at_p free; place = place }) valid;
  shape = shape_more added;
}
  where
    added : AddedRow s d tree rows parent (new_row rows parent n true now) p n (Dir t) long now
    added = record {
      is = is;
      shape = shape;
      at_p = at_p;
      free = free;
      none = no_node_of s tree rows parent p n shape at_p free;
      number = refl;
      inside = refl;
      named = refl;
      kind = refl;
      content = refl;
      foreign = refl;
      shadowed = refl;
    }

-- ---- removing

or_false : (a b : Bool) → (a || b) ≡ false → (a ≡ false) × (b ≡ false)
or_false false b e = (refl, e)
or_false true b e = absurd (true≢false e)

passes : (b : Bool) (r : Refusal) → cond b (Some r) None ≡ None → b ≡ false
passes false r e = refl
passes true r e = absurd (cc)

passes_to : (b : Bool) (r : Refusal) (rest : Option Refusal) → cond b (Some r) rest ≡ None → (b ≡ false) × (rest ≡ None)
passes_to false r rest e = (refl, e)
passes_to true r rest e = absurd (cc)

-- the row of a node, in a directory of the tree
pub record HeldRow (s : Sealing) (d : Disk) (tree : Tree) (rows : Rows) (row : Row) (p : Path) (i n : List ℕ) (now : ℕ) : Type 0 where
  pub texts : AreTexts s
  pub is : IsTreeOf s d tree
  pub shape : HasShape s tree rows
  pub at_it : IsRowAt rows (n ∷ p) row
  pub at_p : get tree.nodes p ≡ Some (Dir i)

module _ {s : Sealing} {d : Disk} {tree : Tree} {rows : Rows} {row : Row} {p : Path} {i n : List ℕ} {now : ℕ} (held_row : HeldRow s d tree rows row p i n now) where
  open held_row use {texts, is, shape, at_it, at_p}

  -- the row shows its node
  shows : (x : Node) → get tree.nodes (n ∷ p) ≡ Some x → IsShown s tree (n ∷ p) x row
  shows x e =
      let r = shape.nodes_of (n ∷ p) row at_it in
      let w : ◌≡◌ {A = Option Node} (Some r.node) (Some x) = sym r.at ∙ e in
      let same : r.node ≡ x = cc in
      subst (λ (z : Node). IsShown s tree (n ∷ p) z row) same r.shown

  pub unheld : (x : Node) → get tree.nodes (n ∷ p) ≡ Some x → is_held rows row ≡ false → IsHeldByNone tree p i n x
  unheld x e held = record { parent = at_p; there = e; clean = sym (shows x e).shadowed ∙ (or_false row.shadowed _ held).0 }

  -- a directory is held if an identifier is named twice
  pub once : (t : List ℕ) → get tree.nodes (n ∷ p) ≡ Some (Dir t) → is_held rows row ≡ false → tree.marks.twice ≡ false
  once t e held = sym shape.twice ∙ sym (ap (λ (k : Kind). is_dir k && rows.named_twice) (shows (Dir t) e).kind) ∙ (or_false row.shadowed _ held).1

  -- what names no folder has no row below it
  leaf_below : (x : Node) → get tree.nodes (n ∷ p) ≡ Some x → IsHeldByNone tree p i n x → claimed s (Some x) ≡ None → (m : List ℕ) (a : Row) → IsRowAt rows (m ∷ n ∷ p) a → ⊥
  leaf_below x e h none m a j =
      let r = shape.nodes_of (m ∷ n ∷ p) a j in
      some_there _ _ (sym (is.exact (m ∷ n ∷ p)) ∙ r.at) (held.none_below s d tree p i n x is h none m)

  refuses_kind : (x : Node) → get tree.nodes (n ∷ p) ≡ Some x → remove_refusal rows row ≡ None → removal_refusal rows row (kind_of x) ≡ None
  refuses_kind x e none = ap (removal_refusal rows row) (sym (shows x e).kind)
      ∙ sym (cond-false (row.number == root) _ _ (ne_eqb row.number root at_it.2.below)) ∙ none

  removal : (x : Node) → get tree.nodes (n ∷ p) ≡ Some x → removal_refusal rows row (kind_of x) ≡ None
      → Follows s d (remove_deeds (place_of s i n (tree.long (n ∷ p))) (what_of s x)) (without_row rows row now)
  removal (File b) e none =
      let h = unheld (File b) e (passes (is_held rows row) refusals.Foreign none) in
      record {
        tree = without_node tree (n ∷ p);
        leads = removes_file s d tree p i n b texts is h;
        shape = shape_less s tree rows row p n now shape at_it (leaf_below (File b) e h refl);
      }
  removal (Link b) e none =
      let h = unheld (Link b) e (passes (is_held rows row) refusals.Foreign none) in
      record {
        tree = without_node tree (n ∷ p);
        leads = removes_link s d tree p i n b texts is h;
        shape = shape_less s tree rows row p n now shape at_it (leaf_below (Link b) e h refl);
      }
  removal (Dir t) e none =
      let no_rows = passes_to (has_children rows row.number) refusals.DirectoryNotEmpty _ none in
      let clean = or_false row.foreign (is_held rows row) (passes (row.foreign || is_held rows row) refusals.Foreign no_rows.1) in
      record {
        tree = without_node tree (n ∷ p);
        leads = removes_directory s d tree p i n t texts is (unheld (Dir t) e clean.1) (record {
          no_child = λ m. not_something _ (λ w. some_child m w no_rows.0);
          no_foreign = sym (shows (Dir t) e).foreign ∙ clean.0;
          once = once t e clean.1;
        });
        shape = shape_less s tree rows row p n now shape at_it (λ m a j. below_none m a j no_rows.0);
      }
    where
      below_none : (m : List ℕ) (a : Row) → IsRowAt rows (m ∷ n ∷ p) a → has_children rows row.number ≡ false → ⊥
      below_none m a j none = none_in rows row.number a none j.2.there j.2.below (j.2.parent ∙ ap (λ (r : Row). r.number) (one_row rows shape.numbered (n ∷ p) j.0 row j.1 at_it))

      some_child : (m : List ℕ) → get tree.nodes (m ∷ n ∷ p) ≢ None → has_children rows row.number ≡ false → ⊥
      some_child m w none = go (get tree.nodes (m ∷ n ∷ p)) refl
        where
          go : (o : Option Node) → get tree.nodes (m ∷ n ∷ p) ≡ o → ⊥
          go None z = w z
          go (Some y) z = let r = shape.rows_of (m ∷ n ∷ p) y z in below_none m r.row r.at none
  removal (Bad t) e none = absurd (cc)

  pub removed : (x : Node) → get tree.nodes (n ∷ p) ≡ Some x → remove_refusal rows row ≡ None
      → Follows s d (remove_deeds (place_of s i n (tree.long (n ∷ p))) (what_of s x)) (without_row rows row now)
  removed x e none = removal x e (refuses_kind x e none)

  -- ---- renaming
  module _ (k : List ℕ) (long : Bool) (c : PlainChange) (free : child_of rows row.parent k ≡ None) (held' : is_held rows row ≡ false) (place : CanStand s d tree i k long None) where
    new : IsNew s d tree p i k long None
    new = record {
      parent = at_p;
      free = no_node_of s tree rows at_it.0 p k shape at_it.1 (ap (λ (z : ℕ). child_of rows z k) (sym at_it.2.parent) ∙ free);
      place = place;
    }

    apart : (x : Node) → get tree.nodes (n ∷ p) ≡ Some x → n ≢ k
    apart x e h = some_there _ _ e (ap (λ (z : List ℕ). get tree.nodes (z ∷ p)) h ∙ new.free)

    shaped : (x : Node) → get tree.nodes (n ∷ p) ≡ Some x
        → HasShape s (with_name tree (n ∷ p) (k ∷ p) long) (set_row (change_dir rows row.parent now) (with_mtime c (record row { name = k })))
    shaped x e = shape_moved renamed
      where
        renamed : MovedRow s tree rows row (with_mtime c (record row { name = k })) p n k long now
        renamed = record {
          apart = apart x e;
          shape = shape;
          at_it = at_it;
          free = free;
          number = refl;
          inside = refl;
          named = refl;
          kind = refl;
          content = refl;
          foreign = refl;
          shadowed = refl;
        }

    pub named_so : (x : Node) → get tree.nodes (n ∷ p) ≡ Some x → ((t : List ℕ) → x ≢ Bad t)
        → Follows s d (rename_deeds (place_of s i n (tree.long (n ∷ p))) (place_of s i k long) (s.seal i k) (what_of s x))
        (set_row (change_dir rows row.parent now) (with_mtime c (record row { name = k })))
    named_so (File b) e good = record {
      tree = with_name tree (n ∷ p) (k ∷ p) long;
      leads = renames_file s d tree p i n k b long texts is (unheld (File b) e held') new;
      shape = shaped (File b) e;
    }
    named_so (Link b) e good = record {
      tree = with_name tree (n ∷ p) (k ∷ p) long;
      leads = renames_link s d tree p i n k b long texts is (unheld (Link b) e held') new;
      shape = shaped (Link b) e;
    }
    named_so (Dir t) e good = record {
      tree = with_name tree (n ∷ p) (k ∷ p) long;
      leads = renames_directory s d tree p i n k t long texts is (unheld (Dir t) e held') new (once t e held');
      shape = shaped (Dir t) e;
    }
    named_so (Bad t) e good = absurd (good t refl)

pub removal_follows : RemovalFollows
removal_follows s d tree rows row p i n x now texts is shape at_it at_p there none = removed held_row x there none
  where
    held_row : HeldRow s d tree rows row p i n now
    held_row = record {
      texts = texts;
      is = is;
      shape = shape;
      at_it = at_it;
      at_p = at_p;
    }

pub rename_follows : RenameFollows
rename_follows s d tree rows row p i n k x long c now texts is shape at_it at_p there good free held' place =
    named_so held_row k long c free held' place x there good
  where
    held_row : HeldRow s d tree rows row p i n now
    held_row = record {
      texts = texts;
      is = is;
      shape = shape;
      at_it = at_it;
      at_p = at_p;
    }
