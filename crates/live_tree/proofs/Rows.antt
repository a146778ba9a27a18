-- The rows of a tree after a change.
use Rattle.std.proofs.Common.{◌≡◌, ◌≢◌, ℕ, suc, ◌<◌, ◌%◌, ◌^◌, Bool, true, false, cond, not, List, [], ◌∷◌, ◌++◌, map, filter, Option, Some, None, ◌==◌, if◌then◌else◌, refl, sym, ap, ap₂, ◌∙◌, true≢false, arith}
use Rattle.std.proofs.lemmas.Bool.{eqb-true, eq-eqb}
use Rattle.std.specs.Ordering.{nat_cmp}
use Rattle.std.specs.Option.{option_map}
use Rattle.std.specs.List.{find}
use Rattle.std.specs.List.Sorted.{IsStrictlySortedBy}
use Rattle.std.specs.Map.{lookup, keys_of}
use Rattle.std.specs.BTreeMap.{is_at}
use Rattle.tree_model.specs.Rows.{Content, chunks, Row, Rows, is_dir, row_of}
use Rattle.tree_model.specs.Step.{changed_at, new_row, with_content}
use Rattle.clear_tree.specs.Kept.{What, KeptFile, KeptLink, KeptDir, KeptBad, KeptNode, kind_of, rows_from}
use Rattle.live_tree.specs.Held.{HeldNode, HeldTree, node_of, live_row, live_rows, numbered, unchanged_node}
use Rattle.clear_tree.specs.Built.{IsFile}
use Rattle.live_tree.specs.Changes.{changed_node, added, new_node, removed, renamed, renamed_node, touched, sized_node, dated, dated_node, CanBeMade, AgreeBut, wrapped_row, wrapped, RowsAreAdded, RowsAreRemoved, RowsAreRenamed, RowsAreTouched, RowsAreDated}
use Rattle.live_tree.proofs.Entries.{test_is, map_congr, map_map, map_append, all_any, edit, AreBelow, AreThis, this_from}

Nodes : Type 0
Nodes = List (ℕ × HeldNode)

-- ---- the row of a number

row_step : (b : Bool) (contents : ℕ → Content) (number : ℕ) (e : ℕ × HeldNode) (rest : Option Row) (others : Option HeldNode) → is_at (nat_cmp number) e.0 ≡ b
    → rest ≡ option_map (λ node. live_row contents (number, node)) others
    → cond (e.0 == number) (Some (live_row contents e)) rest ≡ option_map (λ node. live_row contents (number, node)) (cond b (Some e.1) others)
row_step true contents number e rest others is same =
    rw (test_is number e.0 true is) (ap (λ (k : ℕ). Some (live_row contents (k, e.1))) (eqb-true e.0 number (test_is number e.0 true is)))
row_step false contents number e rest others is same = rw (test_is number e.0 false is) same

rows_found : (contents : ℕ → Content) (number : ℕ) (es : List (ℕ × HeldNode))
    → find (λ (row : Row). row.number == number) (map (live_row contents) es) ≡ option_map (λ node. live_row contents (number, node)) (lookup (is_at (nat_cmp number)) es)
rows_found contents number [] = refl
rows_found contents number (e ∷ es) =
    row_step (is_at (nat_cmp number) e.0) contents number e (find (λ (row : Row). row.number == number) (map (live_row contents) es))
    (lookup (is_at (nat_cmp number)) es) refl (rows_found contents number es)

-- the row of a number is that of its node
pub row_is : (contents : ℕ → Content) (tree : HeldTree) (number : ℕ) → row_of (live_rows contents tree) number ≡ option_map (λ node. live_row contents (number, node)) (node_of tree number)
row_is contents tree number = rows_found contents number tree.nodes

pub record HasNode (contents : ℕ → Content) (tree : HeldTree) (number : ℕ) (row : Row) : Type 0 where
  pub node : HeldNode
  pub there : node_of tree number ≡ Some node
  pub is : row ≡ live_row contents (number, node)

node_for : (contents : ℕ → Content) (tree : HeldTree) (number : ℕ) (row : Row) (o : Option HeldNode) → node_of tree number ≡ o
    → option_map (λ node. live_row contents (number, node)) o ≡ Some row → HasNode contents tree number row
node_for contents tree number row None e h = absurd cc
node_for contents tree number row (Some node) e h = record { node = node; there = e; is = cc }

pub has_node : (contents : ℕ → Content) (tree : HeldTree) (number : ℕ) (row : Row) → row_of (live_rows contents tree) number ≡ Some row → HasNode contents tree number row
has_node contents tree number row h = node_for contents tree number row (node_of tree number) refl (sym (row_is contents tree number) ∙ h)

-- ---- a node that changed

-- a version is shown as it is held
wraps : (v : ℕ) → v % 2 ^ 32 % 2 ^ 32 ≡ v % 2 ^ 32
wraps v = omega arith

changed_row : (contents : ℕ → Content) (now number : ℕ) (node : HeldNode) → wrapped_row (live_row contents (number, changed_node now node)) ≡ wrapped_row (changed_at now (live_row contents (number, node)))
changed_row contents now number node = ap (λ (v : ℕ). record (live_row contents (number, node)) { version = v; modified = now }) (wraps (suc node.version))

-- the rows of an edited tree, in which the row of the number is another
change_step : (b : Bool) (contents : ℕ → Content) (number now : ℕ) (e : ℕ × HeldNode) → (e.0 == number) ≡ b
    → wrapped_row (live_row contents (edit number (changed_node now) e)) ≡ wrapped_row (cond (e.0 == number) (changed_at now (live_row contents e)) (live_row contents e))
change_step true contents number now e is = rw is (changed_row contents now e.0 e.1)
change_step false contents number now e is = rw is refl

pub rows_changed : (contents : ℕ → Content) (number now : ℕ) (es : List (ℕ × HeldNode))
    → map wrapped_row (map (live_row contents) (map (edit number (changed_node now)) es))
    ≡ map wrapped_row (map (λ (row : Row). if row.number == number then changed_at now row else row) (map (live_row contents) es))
rows_changed contents number now [] = refl
rows_changed contents number now (e ∷ es) =
    ap₂ (λ (row : Row) (rows : List Row). row ∷ rows) (change_step (e.0 == number) contents number now e refl) (rows_changed contents number now es)

-- if the node of the number is this one, its row is set
set_step : (b : Bool) (contents contents' : ℕ → Content) (number : ℕ) (f : HeldNode → HeldNode) (node : HeldNode) (new : Row) (e : ℕ × HeldNode) → (e.0 == number) ≡ b
    → ((e.0 == number) ≡ true → e.1 ≡ node) → wrapped_row (live_row contents' (number, f node)) ≡ wrapped_row new → ((e.0 ≢ number) → live_row contents' e ≡ live_row contents e)
    → wrapped_row (live_row contents' (edit number f e)) ≡ wrapped_row (cond (e.0 == number) new (live_row contents e))
set_step true contents contents' number f node new e is this set other =
    rw is (ap (λ (p : ℕ × HeldNode). wrapped_row (live_row contents' (p.0, f p.1))) (ap₂ (λ (k : ℕ) (n : HeldNode). (k, n)) (eqb-true e.0 number is) (this is)) ∙ set)
set_step false contents contents' number f node new e is this set other =
    rw is (ap wrapped_row (other (λ same. true≢false (sym (eq-eqb e.0 number same) ∙ is))))

pub rows_set : (contents contents' : ℕ → Content) (number : ℕ) (f : HeldNode → HeldNode) (node : HeldNode) (new : Row) (es : List (ℕ × HeldNode)) → AreThis number node es
    → new.number ≡ number → wrapped_row (live_row contents' (number, f node)) ≡ wrapped_row new → ((e : ℕ × HeldNode) → e.0 ≢ number → live_row contents' e ≡ live_row contents e)
    → map wrapped_row (map (live_row contents') (map (edit number f) es))
    ≡ map wrapped_row (map (λ (row : Row). if row.number == new.number then new else row) (map (live_row contents) es))
rows_set contents contents' number f node new [] this numbered set other = refl
rows_set contents contents' number f node new (e ∷ es) this numbered set other =
    ap₂ (λ (row : Row) (rows : List Row). row ∷ rows)
    (set_step (e.0 == number) contents contents' number f node new e refl this.0 set (other e)
    ∙ ap (λ (k : ℕ). wrapped_row (cond (e.0 == k) new (live_row contents e))) (sym numbered))
    (rows_set contents contents' number f node new es this.1 numbered set other)

Ordered : HeldTree → Type 0
Ordered tree = IsStrictlySortedBy nat_cmp (keys_of tree.nodes)

abbrev pub rows_with : ℕ → Bool → List Row → Rows
rows_with next twice rows = record { nodes = rows; next = next; named_twice = twice }

with_these : (tree : HeldTree) (xs : List Row) (ys : List Row) → map wrapped_row xs ≡ map wrapped_row ys
    → wrapped (rows_with tree.next tree.twice xs) ≡ wrapped (rows_with tree.next tree.twice ys)
with_these tree xs ys e = ap (rows_with tree.next tree.twice) e

-- ---- the mtime

pub rows_dated : (tree : HeldTree) (number modified : ℕ) → IsStrictlySortedBy nat_cmp (keys_of tree.nodes) → RowsAreDated tree (dated tree number modified) number modified
rows_dated tree number modified sorted contents row found =
    let has = has_node contents tree number row found in
    let this = this_from number has.node tree.nodes sorted has.there in
    rw has.is (with_these tree _ _
    (rows_set contents contents number (dated_node modified) has.node (record (live_row contents (number, has.node)) { modified = modified }) tree.nodes this refl refl (λ e apart. refl)))

-- ---- a file's content

sized_row : (contents contents' : ℕ → Content) (number size now : ℕ) (node : HeldNode) (what : What) → node.kept.what ≡ what → IsFile what
    → changed_at now (live_row contents' (number, sized_node size node)) ≡ with_content (live_row contents (number, node)) (contents' number) now
sized_row contents contents' number size now node (KeptFile old) is can = rw is refl
sized_row contents contents' number size now node (KeptLink old) is can = absurd can
sized_row contents contents' number size now node (KeptDir identifier folder) is can = absurd can
sized_row contents contents' number size now node (KeptBad text) is can = absurd can

row_agrees : (contents contents' : ℕ → Content) (e : ℕ × HeldNode) → contents' e.0 ≡ contents e.0 → live_row contents' e ≡ live_row contents e
row_agrees contents contents' e same = rw same refl

touch_step : (b : Bool) (now number size : ℕ) (e : ℕ × HeldNode) → (e.0 == number) ≡ b
    → edit number (changed_node now) (edit number (sized_node size) e) ≡ edit number (λ (node : HeldNode). changed_node now (sized_node size node)) e
touch_step true now number size e is = rw is refl
touch_step false now number size e is = rw is refl

touch_both : (now number size : ℕ) (es : List (ℕ × HeldNode))
    → map (edit number (changed_node now)) (map (edit number (sized_node size)) es) ≡ map (edit number (λ (node : HeldNode). changed_node now (sized_node size node))) es
touch_both now number size es =
    map_map (edit number (sized_node size)) (edit number (changed_node now)) es ∙ map_congr _ _ es (all_any _ (λ e. touch_step (e.0 == number) now number size e refl) es)

pub rows_touched : (tree : HeldTree) (number size now : ℕ) → IsStrictlySortedBy nat_cmp (keys_of tree.nodes)
    → ((node : HeldNode) → node_of tree number ≡ Some node → IsFile node.kept.what) → RowsAreTouched tree (touched tree number size now) number now
rows_touched tree number size now sorted written contents contents' row found agree =
    let has = has_node contents tree number row found in
    let this = this_from number has.node tree.nodes sorted has.there in
    rw has.is (with_these tree _ _
    (ap (λ (es : List (ℕ × HeldNode)). map wrapped_row (map (live_row contents') es)) (touch_both now number size tree.nodes)
    ∙ rows_set contents contents' number (λ (node : HeldNode). changed_node now (sized_node size node)) has.node (with_content (live_row contents (number, has.node)) (contents' number) now) tree.nodes this refl
    (changed_row contents' now number (sized_node size has.node) ∙ ap wrapped_row (sized_row contents contents' number size now has.node has.node.kept.what refl (written has.node has.there))) (λ e apart. row_agrees contents contents' e (agree e.0 apart))))

-- ---- a name

rename_step : (b d : Bool) (contents : ℕ → Content) (number parent : ℕ) (name entry : List ℕ) (long : Bool) (now : ℕ) (node : HeldNode) (e : ℕ × HeldNode) → (e.0 == number) ≡ b
    → (e.0 == parent) ≡ d → parent ≢ number → ((e.0 == number) ≡ true → e.1 ≡ node)
    → wrapped_row (live_row contents (edit parent (changed_node now) (edit number (renamed_node name entry long) e)))
    ≡ wrapped_row (cond (e.0 == number) (record (live_row contents (number, node)) { name = name }) (cond (e.0 == parent) (changed_at now (live_row contents e)) (live_row contents e)))
rename_step true true contents number parent name entry long now node e is up apart this = absurd (apart (sym (eqb-true e.0 parent up) ∙ eqb-true e.0 number is))
rename_step true false contents number parent name entry long now node e is up apart this =
    rw (is, up) (ap₂ (λ (k : ℕ) (n : HeldNode). wrapped_row (live_row contents (k, renamed_node name entry long n))) (eqb-true e.0 number is) (this is))
rename_step false true contents number parent name entry long now node e is up apart this = rw (is, up) (changed_row contents now e.0 e.1)
rename_step false false contents number parent name entry long now node e is up apart this = rw (is, up) refl

swap_step : (d : Bool) (contents : ℕ → Content) (number parent : ℕ) (name : List ℕ) (now : ℕ) (node : HeldNode) (e : ℕ × HeldNode) → (e.0 == parent) ≡ d
    → (let row = cond (e.0 == parent) (changed_at now (live_row contents e)) (live_row contents e) in cond (row.number == number) (record (live_row contents (number, node)) { name = name }) row)
    ≡ cond (e.0 == number) (record (live_row contents (number, node)) { name = name }) (cond (e.0 == parent) (changed_at now (live_row contents e)) (live_row contents e))
swap_step true contents number parent name now node e up = rw up refl
swap_step false contents number parent name now node e up = rw up refl

rename_all : (contents : ℕ → Content) (number parent : ℕ) (name entry : List ℕ) (long : Bool) (now : ℕ) (node : HeldNode) → parent ≢ number → (es : List (ℕ × HeldNode)) → AreThis number node es
    → map wrapped_row (map (live_row contents) (map (edit parent (changed_node now)) (map (edit number (renamed_node name entry long)) es)))
    ≡ map wrapped_row (map (λ (row : Row). if row.number == number then record (live_row contents (number, node)) { name = name } else row)
    (map (λ (row : Row). if row.number == parent then changed_at now row else row) (map (live_row contents) es)))
rename_all contents number parent name entry long now node apart [] this = refl
rename_all contents number parent name entry long now node apart (e ∷ es) this =
    ap₂ (λ (row : Row) (rows : List Row). row ∷ rows) (rename_step (e.0 == number) (e.0 == parent) contents number parent name entry long now node e refl refl apart this.0 ∙ ap wrapped_row (sym (swap_step (e.0 == parent) contents number parent name now node e refl)))
    (rename_all contents number parent name entry long now node apart es this.1)

pub rows_renamed : (tree : HeldTree) (number : ℕ) (name entry : List ℕ) (long : Bool) (now : ℕ) → IsStrictlySortedBy nat_cmp (keys_of tree.nodes)
    → (node : HeldNode) → node_of tree number ≡ Some node → node.kept.parent ≢ number
    → RowsAreRenamed tree (renamed tree number node.kept.parent name entry long now) number name now
rows_renamed tree number name entry long now sorted node there apart contents row found =
    let has = has_node contents tree number row found in
    let same : has.node ≡ node = cc (has.there, there) in
    let this = this_from number node tree.nodes sorted there in
    let is : row ≡ live_row contents (number, node) = has.is ∙ ap (λ (n : HeldNode). live_row contents (number, n)) same in
    rw is (with_these tree _ _ (rename_all contents number node.kept.parent name entry long now node apart tree.nodes this))

-- ---- one is taken away

filter_step : (b : Bool) (contents : ℕ → Content) (number : ℕ) (e : ℕ × HeldNode) (es : List (ℕ × HeldNode)) → (e.0 == number) ≡ b
    → map (live_row contents) (filter (λ (e : ℕ × HeldNode). not (e.0 == number)) es) ≡ filter (λ (row : Row). not (row.number == number)) (map (live_row contents) es)
    → map (live_row contents) (filter (λ (e : ℕ × HeldNode). not (e.0 == number)) (e ∷ es)) ≡ filter (λ (row : Row). not (row.number == number)) (map (live_row contents) (e ∷ es))
filter_step true contents number e es is rest = rw is rest
filter_step false contents number e es is rest = rw is (ap (λ (rows : List Row). live_row contents e ∷ rows) rest)

filter_rows : (contents : ℕ → Content) (number : ℕ) (es : List (ℕ × HeldNode))
    → map (live_row contents) (filter (λ (e : ℕ × HeldNode). not (e.0 == number)) es) ≡ filter (λ (row : Row). not (row.number == number)) (map (live_row contents) es)
filter_rows contents number [] = refl
filter_rows contents number (e ∷ es) = filter_step (e.0 == number) contents number e es refl (filter_rows contents number es)

keep_step : (b : Bool) (number : ℕ) (row : Row) (rows : List Row) → (row.number == number) ≡ b
    → map wrapped_row (filter (λ (row : Row). not (row.number == number)) rows) ≡ filter (λ (row : Row). not (row.number == number)) (map wrapped_row rows)
    → map wrapped_row (filter (λ (row : Row). not (row.number == number)) (row ∷ rows)) ≡ filter (λ (row : Row). not (row.number == number)) (map wrapped_row (row ∷ rows))
keep_step true number row rows is rest = rw is rest
keep_step false number row rows is rest = rw is (ap (λ (xs : List Row). wrapped_row row ∷ xs) rest)

filter_wrapped : (number : ℕ) (rows : List Row)
    → map wrapped_row (filter (λ (row : Row). not (row.number == number)) rows) ≡ filter (λ (row : Row). not (row.number == number)) (map wrapped_row rows)
filter_wrapped number [] = refl
filter_wrapped number (row ∷ rows) = keep_step (row.number == number) number row rows refl (filter_wrapped number rows)

pub rows_removed : (tree : HeldTree) (number now : ℕ) → (node : HeldNode) → node_of tree number ≡ Some node
    → RowsAreRemoved tree (removed tree number node.kept.parent now) number now
rows_removed tree number now node there contents row found =
    let has = has_node contents tree number row found in
    let same : has.node ≡ node = cc (has.there, there) in
    let is : row ≡ live_row contents (number, node) = has.is ∙ ap (λ (n : HeldNode). live_row contents (number, n)) same in
    rw is (with_these tree _ _
    (ap (map wrapped_row) (filter_rows contents number (map (edit node.kept.parent (changed_node now)) tree.nodes))
    ∙ filter_wrapped number (map (live_row contents) (map (edit node.kept.parent (changed_node now)) tree.nodes))
    ∙ ap (filter (λ (row : Row). not (row.number == number))) (rows_changed contents node.kept.parent now tree.nodes)
    ∙ sym (filter_wrapped number (map (λ (row : Row). if row.number == node.kept.parent then changed_at now row else row) (map (live_row contents) tree.nodes)))))

-- ---- one is made

new_is : (contents contents' : ℕ → Content) (tree : HeldTree) (parent : ℕ) (name : List ℕ) (what : What) (entry : List ℕ) (long : Bool) (now : ℕ) (row : Row) → CanBeMade what
    → row.number ≡ parent → contents' tree.next ≡ chunks true []
    → live_row contents' (tree.next, new_node parent name what entry long now) ≡ new_row (live_rows contents tree) row name (is_dir (kind_of what)) now
new_is contents contents' tree parent name (KeptFile size) entry long now row can up empty = rw (up, empty) refl
new_is contents contents' tree parent name (KeptDir identifier folder) entry long now row can up empty = rw up refl
new_is contents contents' tree parent name (KeptLink size) entry long now row can up empty = absurd can
new_is contents contents' tree parent name (KeptBad text) entry long now row can up empty = absurd can

agree_all : (contents contents' : ℕ → Content) (next : ℕ) (es : List (ℕ × HeldNode)) → AreBelow next es → AgreeBut next contents contents' → map (live_row contents') es ≡ map (live_row contents) es
agree_all contents contents' next [] below agree = refl
agree_all contents contents' next (e ∷ es) below agree =
    ap₂ (λ (row : Row) (rows : List Row). row ∷ rows) (row_agrees contents contents' e (agree e.0 (λ same. let less = below.0 in omega (arith, less, same)))) (agree_all contents contents' next es below.1 agree)

last_step : (contents : ℕ → Content) (next parent now : ℕ) (node : HeldNode) (b : Bool) → (next == parent) ≡ b → parent < next → live_row contents (edit parent (changed_node now) (next, node)) ≡ live_row contents (next, node)
last_step contents next parent now node true is less = let same : next ≡ parent = eqb-true next parent is in absurd (omega (arith, less, same))
last_step contents next parent now node false is less = rw is refl

with_all : (tree : HeldTree) (xs : List Row) (ys : List Row) → map wrapped_row xs ≡ map wrapped_row ys
    → wrapped (rows_with (suc tree.next) tree.twice xs) ≡ wrapped (rows_with (suc tree.next) tree.twice ys)
with_all tree xs ys e = ap (rows_with (suc tree.next) tree.twice) e

pub rows_added : (tree : HeldTree) (parent : ℕ) (name : List ℕ) (what : What) (entry : List ℕ) (long : Bool) (now : ℕ) → AreBelow tree.next tree.nodes → parent < tree.next → CanBeMade what
    → RowsAreAdded tree (added tree (new_node parent name what entry long now) now) parent name (is_dir (kind_of what)) now
rows_added tree parent name what entry long now below less can contents contents' row found agree empty =
    let has = has_node contents tree parent row found in
    let up : row.number ≡ parent = ap (λ (r : Row). r.number) has.is in
    let node = new_node parent name what entry long now in
    let new = new_is contents contents' tree parent name what entry long now row can up empty in
    with_all tree _ _
    (ap (λ (es : List (ℕ × HeldNode)). map wrapped_row (map (live_row contents') es)) (map_append (edit parent (changed_node now)) tree.nodes ((tree.next, node) ∷ []))
    ∙ ap (map wrapped_row) (map_append (live_row contents') (map (edit parent (changed_node now)) tree.nodes) (edit parent (changed_node now) (tree.next, node) ∷ []))
    ∙ map_append wrapped_row (map (live_row contents') (map (edit parent (changed_node now)) tree.nodes)) (live_row contents' (edit parent (changed_node now) (tree.next, node)) ∷ [])
    ∙ ap₂ (λ (xs : List Row) (x : Row). xs ++ x ∷ [])
    (rows_changed contents' parent now tree.nodes
    ∙ ap (λ (rows : List Row). map wrapped_row (map (λ (row : Row). if row.number == parent then changed_at now row else row) rows)) (agree_all contents contents' tree.next tree.nodes below agree)
    ∙ ap (λ k. map wrapped_row (map (λ (row : Row). if row.number == k then changed_at now row else row) (map (live_row contents) tree.nodes))) (sym up))
    (ap wrapped_row (last_step contents' tree.next parent now node (tree.next == parent) refl less ∙ new))
    ∙ sym (map_append wrapped_row (map (λ (r : Row). if r.number == row.number then changed_at now r else r) (map (live_row contents) tree.nodes))
    (new_row (live_rows contents tree) row name (is_dir (kind_of what)) now ∷ [])))

-- ---- a tree as it was loaded

rows_numbered : (contents : ℕ → Content) (unlocked number : ℕ) (nodes : List KeptNode) → map (live_row contents) (numbered unlocked number nodes) ≡ rows_from contents unlocked number nodes
rows_numbered contents unlocked number [] = refl
rows_numbered contents unlocked number (node ∷ nodes) = ap (λ (rows : List Row). live_row contents (number, unchanged_node unlocked node) ∷ rows) (rows_numbered contents unlocked (suc number) nodes)

pub rows_loaded : (contents : ℕ → Content) (unlocked : ℕ) (nodes : List KeptNode) (next : ℕ) (twice : Bool)
    → rows_with next twice (map (live_row contents) (numbered unlocked 0 nodes)) ≡ rows_with next twice (rows_from contents unlocked 0 nodes)
rows_loaded contents unlocked nodes next twice = ap (rows_with next twice) (rows_numbered contents unlocked 0 nodes)
