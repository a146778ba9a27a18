-- The rows of a tree's nodes are the lines of what a disk shows.
use Rattle.std.proofs.Common.{◌≡◌, ◌≢◌, ℕ, zero, suc, ◌+◌, ◌<◌, List, [], ◌∷◌, length, get_or, map, Bool, true, false, cond, Option, Some, None, refl, sym, ap, subst, ◌∙◌, arith}
use Rattle.std.specs.Prelude.{Contains, slice_get, IsPermutation}
use Rattle.std.specs.List.Sorted.{IsStrictlySortedBy}
use Rattle.std.specs.Option.{option_and_then}
use Rattle.std.specs.Ordering.{nat_cmp}
use Rattle.std.specs.Cmp.Lexicographic.{slice_cmp}
use Rattle.std.proofs.lemmas.List.Sorted.{IsPermutation-map, IsPermutation-sym, Contains-permutation}
use Rattle.outside.specs.Disk.{Disk}
use Rattle.vault_keys.specs.Keys.{KeyPair}
use Rattle.std.proofs.lemmas.Option.{get_or_from_slice_get, slice_get_within}
use Rattle.tree_model.specs.Rows.{Content, chunks, Row, Rows, is_dir, root}
use Rattle.file_chunks.specs.File as files
use Rattle.tree_loading.specs.Format.{sealing_of}
use Rattle.clear_tree.specs.Walk.{Path}
use Rattle.clear_tree.specs.Kept.{What, KeptFile, KeptLink, KeptDir, KeptBad, KeptNode, KeptTree, IsKept, TellsRows, AreContents, content_of, kind_of, node_of, parent_folder, path_in, path_of, row_of, tree_rows}
use Rattle.clear_tree.proofs.Laws.{rows_are_determined}
use Rattle.clear_tree.proofs.Keeping.{keeping_tells_rows}
use Rattle.tree_deed_laws.specs.Shapes.{AreNumbered, HasTree, IsRowAt, SameShape}
use Rattle.tree_deed_laws.proofs.Clear.{clear_rows_have_tree, shapes_are_of_clear_rows}
use Rattle.demonstration.specs.Summary.{PlainRow, directory, file, plain_row}
use Rattle.demonstration.specs.declared.rows.DemoRow.{DemoRow}
use Rattle.demonstration.specs.Left.{AreLeft, HasDamagedFile, HasLine, HasTwins, IsDamaged, IsHashed, IsLineOf, IsOfNode, path_text, text_of}
use Rattle.demonstration.specs.Nodes.{AreRowsOf, HasHost, HasUnread, IsPlaceOf, IsRowOf, IsWhat}
use Rattle.demonstration.proofs.Ordered.{HasTie, item_at, pair_back}
use Rattle.demonstration.proofs.Places.{in_row, one_node, one_path, one_row, place_row, row_there}

-- ---- one line

as_directory : (row : DemoRow) → row.is_dir ≡ true → directory row.path.items ≡ plain_row row
as_directory row is = sym (ap (λ (b : Bool). cond b (directory row.path.items) (file row.path.items row.len row.hash)) is)

as_file : (row : DemoRow) → row.is_dir ≡ false → file row.path.items row.len row.hash ≡ plain_row row
as_file row is = sym (ap (λ (b : Bool). cond b (directory row.path.items) (file row.path.items row.len row.hash)) is)

hashed_as : (a b : Content) (len : ℕ) (hash : List ℕ) → a ≡ b → IsHashed b len hash → IsHashed a len hash
hashed_as a b len hash same h = subst (λ (c : Content). IsHashed c len hash) (sym same) h

-- the line of a row is that of another one that is alike
line_alike : (path : Path) (a b : Row) (line : PlainRow) → a.kind ≡ b.kind → a.content ≡ b.content → IsLineOf path b line → IsLineOf path a line
line_alike path a b (directory text) kind content h = (ap is_dir kind ∙ h.0, h.1)
line_alike path a b (file text len hash) kind content h = (ap is_dir kind ∙ h.0, h.1, hashed_as a.content b.content len hash content h.2)

module _ (keys : KeyPair) (d : Disk) (kept : KeptTree) (contents : ℕ → Content) (are : AreContents (sealing_of keys) d kept contents) where
  host_hashed : (number : ℕ) (len : ℕ) (hash : List ℕ) → HasHost (Some d) kept number (λ sealed. IsHashed (files.content_of keys sealed) len hash) → IsHashed (contents number) len hash
  host_hashed number len hash h =
      let host = are.files number h.path h.path_is in
      let long : length host.bytes ≡ h.size = are.sizes number h.size h.path host.bytes h.path_is h.size_is host.there in
      hashed_as (contents number) (files.content_of keys host.bytes) len hash host.content (h.bytes host.bytes (record { there = host.there; long = long }))

  line_of : (number : ℕ) (path : Path) (r : Row) (row : DemoRow) (what : What) → r.kind ≡ kind_of what → r.content ≡ content_of what (contents number) → row.path.items ≡ path_text path
      → IsWhat keys (Some d) kept number what row → IsLineOf path r (plain_row row)
  line_of number path r row (KeptFile size) kind content text h =
      subst (λ (line : PlainRow). IsLineOf path r line) (as_file row h.0)
      (ap is_dir kind, text, hashed_as r.content (contents number) row.len row.hash content (host_hashed number row.len row.hash h.1))
  line_of number path r row (KeptLink size) kind content text h =
      subst (λ (line : PlainRow). IsLineOf path r line) (as_file row h.0)
      (ap is_dir kind, text, hashed_as r.content (contents number) row.len row.hash content (host_hashed number row.len row.hash h.1))
  line_of number path r row (KeptDir identifier folder) kind content text h =
      subst (λ (line : PlainRow). IsLineOf path r line) (as_directory row h) (ap is_dir kind, text)
  line_of number path r row (KeptBad t) kind content text h =
      subst (λ (line : PlainRow). IsLineOf path r line) (as_file row h.0)
      (ap is_dir kind, text, hashed_as r.content (chunks true []) row.len row.hash content h.1)

-- ---- lists

-- a line is that of a row at a place
record HasRowAt (items : List DemoRow) (k : ℕ) (line : PlainRow) : Type 0 where
  row : DemoRow
  there : slice_get items k ≡ Some row
  is : line ≡ plain_row row

row_of_line : (items : List DemoRow) (k : ℕ) (line : PlainRow) → k < length (map plain_row items) → get_or (map plain_row items) k line ≡ line → HasRowAt items k line
row_of_line [] k line within is = absurd (omega arith)
row_of_line (row ∷ items) zero line within is = record { row = row; there = refl; is = sym is }
row_of_line (row ∷ items) (suc k) line within is = let r = row_of_line items k line (omega arith) is in record { row = r.row; there = r.there; is = r.is }

line_of_row : (items : List DemoRow) (k : ℕ) (row : DemoRow) → slice_get items k ≡ Some row → Contains (map plain_row items) (plain_row row)
line_of_row [] k row there = absurd cc
line_of_row (first ∷ items) zero row there = let same : first ≡ row = cc in (0, omega arith, ap plain_row same)
line_of_row (first ∷ items) (suc k) row there = let h = line_of_row items k row there in (suc h.0, omega (arith, h.1), h.2)

record HasFirst (nodes : List KeptNode) : Type 0 where
  node : KeptNode
  there : slice_get nodes 0 ≡ Some node

first_of : (nodes : List KeptNode) (n : ℕ) → suc n ≡ length nodes → HasFirst nodes
first_of [] n many = absurd (omega arith)
first_of (node ∷ nodes) n many = record { node = node; there = refl }

-- ---- a node with a host file

record HasStep {A B : Type 0} (f : A → Option B) (found : Option A) (b : B) : Type 0 where
  value : A
  there : found ≡ Some value
  is : f value ≡ Some b

step_of : {A B : Type 0} (f : A → Option B) (found : Option A) (b : B) → option_and_then f found ≡ Some b → HasStep f found b
step_of f None b h = absurd cc
step_of f (Some a) b h = record { value = a; there = refl; is = h }

has_content : (node : KeptNode) (what : What) (folder : List ℕ) (path : List (List ℕ))
    → path_in node what folder ≡ Some path → (c : Content) → content_of what c ≡ c
has_content node (KeptFile size) folder path h c = refl
has_content node (KeptLink size) folder path h c = refl
has_content node (KeptDir identifier own) folder path h c = absurd cc
has_content node (KeptBad text) folder path h c = absurd cc

-- a file or a link, whose content is that of its host file
record HasHostNode (tree : KeptTree) (number : ℕ) : Type 0 where
  node : KeptNode
  there : node_of tree number ≡ Some node
  content : (c : Content) → content_of node.what c ≡ c

node_of_path : (tree : KeptTree) (number : ℕ) (path : List (List ℕ)) → path_of tree number ≡ Some path → HasHostNode tree number
node_of_path tree number path h =
    let found = step_of (λ (node : KeptNode). option_and_then (path_in node node.what) (parent_folder tree node)) (node_of tree number) path h in
    let inside = step_of (path_in found.value found.value.what) (parent_folder tree found.value) path found.is in
    record { node = found.value; there = found.there; content = has_content found.value found.value.what inside.value path inside.is }

-- ---- all lines

module _ (keys : KeyPair) (d : Disk) (kept : KeptTree) (is : IsKept (sealing_of keys) d kept) (shown : Rows) (tree : HasTree (sealing_of keys) d shown) where
  tells : TellsRows (sealing_of keys) d kept
  tells = keeping_tells_rows (sealing_of keys) d kept is

  abbrev loaded : Rows
  loaded = tree_rows tells.contents 0 kept

  same : SameShape shown loaded
  same =
      let stands = shapes_are_of_clear_rows (sealing_of keys) d tree.tree shown 0 tree.is tree.shape in
      let e : loaded ≡ stands.clear = rows_are_determined (sealing_of keys) d 0 stands.clear loaded stands.is (tells.clear 0) in
      subst (λ (r : Rows). SameShape shown r) (sym e) stands.same

  numbered : AreNumbered loaded
  numbered = (clear_rows_have_tree (sealing_of keys) d 0 loaded (tells.clear 0) tree.is.host).shape.numbered

  -- what a node that can't be read is among the rows
  pub damaged_of : HasUnread keys (Some d) kept → HasDamagedFile shown
  damaged_of h =
      let host = tells.are.files h.number h.host.path h.host.path_is in
      let long : length host.bytes ≡ h.host.size = tells.are.sizes h.number h.host.size h.host.path host.bytes h.host.path_is h.host.size_is host.there in
      let damaged : IsDamaged (tells.contents h.number) =
      subst IsDamaged (sym host.content) (h.host.bytes host.bytes (record { there = host.there; long = long })) in
      let node = node_of_path kept h.number h.host.path h.host.path_is in
      let row = row_of tells.contents 0 h.number node.node in
      let at = numbered.reached row (row_there tells.contents 0 kept h.number node.node node.there) in
      let other = same.back at.0 row at.1 in
      record {
        path = at.0;
        row = other.other;
        at = other.at;
        damaged = subst IsDamaged (sym (node.content (tells.contents h.number)) ∙ other.alike.content) damaged;
      }

  module _ (items sorted : List DemoRow) (many : suc (length items) ≡ length kept.nodes) (all : AreRowsOf keys (Some d) kept items) (permutation : IsPermutation items sorted) where
    first : HasFirst kept.nodes
    first = first_of kept.nodes (length items) many

    -- the row of a number, and its line
    row_at : (i : ℕ) (row : DemoRow) (r : IsRowOf keys (Some d) kept (suc i) row) → IsRowAt loaded r.path (row_of tells.contents 0 (suc i) r.node)
    row_at i row r = place_row tells.contents 0 kept first.node first.there r.path (suc i) r.node r.there r.at

    line_at : (i : ℕ) (row : DemoRow) (r : IsRowOf keys (Some d) kept (suc i) row) → IsLineOf r.path (row_of tells.contents 0 (suc i) r.node) (plain_row row)
    line_at i row r = line_of keys d kept tells.contents tells.are (suc i) r.path (row_of tells.contents 0 (suc i) r.node) row r.node.what refl refl r.text r.what

    of_node : (i : ℕ) (path : Path) (r : Row) (line : PlainRow) → IsPlaceOf kept (suc i) path → IsRowAt loaded path r → IsLineOf path r line → IsOfNode shown line
    of_node i [] r line place at h = let e : suc i ≡ 0 = place in absurd (omega arith)
    of_node i (name ∷ above) r line place at h =
        let other = same.back (name ∷ above) r at in record {
          name = name;
          above = above;
          row = other.other;
          at = other.at;
          is = line_alike (name ∷ above) other.other r line (sym other.alike.kind) (sym other.alike.content) h;
        }

    each : (line : PlainRow) → Contains (map plain_row sorted) line → IsOfNode shown line
    each line h =
        let back = Contains-permutation (map plain_row sorted) (map plain_row items) line
        (IsPermutation-sym (map plain_row items) (map plain_row sorted) (IsPermutation-map plain_row items sorted permutation)) h in
        let found = row_of_line items back.0 line back.1 back.2 in
        let r = all back.0 found.row found.there in
        subst (λ (l : PlainRow). IsOfNode shown l) (sym found.is)
        (of_node back.0 r.path (row_of tells.contents 0 (suc back.0) r.node) (plain_row found.row) r.at (row_at back.0 found.row r) (line_at back.0 found.row r))

    -- the line of a node that was loaded
    has_line : (k : ℕ) (node : KeptNode) (path : Path) (r : Row) → slice_get kept.nodes k ≡ Some node → r ≡ row_of tells.contents 0 k node → r.number ≢ root → IsRowAt loaded path r
        → HasLine (map plain_row sorted) path r
    has_line zero node path r there e below at = absurd (below (ap (λ (x : Row). x.number) e))
    has_line (suc i) node path r there e below at =
        let within : suc i < length kept.nodes = slice_get_within kept.nodes (suc i) node there in
        let item = item_at items i (omega arith) in
        let row = all i item.row item.there in
        let same_node : row.node ≡ node = one_node row.node node (sym row.there ∙ there) in
        let same_row : row_of tells.contents 0 (suc i) row.node ≡ r = ap (λ (n : KeptNode). row_of tells.contents 0 (suc i) n) same_node ∙ sym e in
        let one : row.path ≡ path = one_path loaded numbered row.path path r (subst (λ (x : Row). IsRowAt loaded row.path x) same_row (row_at i item.row row)) at in
        record {
          line = plain_row item.row;
          there = Contains-permutation (map plain_row items) (map plain_row sorted) (plain_row item.row) (IsPermutation-map plain_row items sorted permutation) (line_of_row items i item.row item.there);
          is = subst (λ (p : Path). IsLineOf p r (plain_row item.row)) one (subst (λ (x : Row). IsLineOf row.path x (plain_row item.row)) same_row (line_at i item.row row));
        }

    every : (name : List ℕ) (above : Path) (row : Row) → IsRowAt shown (name ∷ above) row → HasLine (map plain_row sorted) (name ∷ above) row
    every name above row at =
        let other = same.forth (name ∷ above) row at in
        let number = in_row tells.contents 0 0 kept.nodes other.other other.at.2.there in
        let plain : 0 + number.k ≡ number.k = omega arith in
        let line = has_line number.k number.node (name ∷ above) other.other number.there (number.is ∙ ap (λ (k : ℕ). row_of tells.contents 0 k number.node) plain) other.at.2.below other.at in
        record { line = line.line; there = line.there; is = line_alike (name ∷ above) row other.other line.line other.alike.kind other.alike.content line.is }

    pub left_of : IsStrictlySortedBy (slice_cmp nat_cmp) (map text_of (map plain_row sorted)) → AreLeft shown (map plain_row sorted)
    left_of ordered = record { each = each; all = every; ordered = ordered }

    -- two rows of one path are those of two nodes
    twins_at : (i j : ℕ) (p q : Path) (x y : Row) → IsPlaceOf kept (suc i) p → IsPlaceOf kept (suc j) q
        → IsRowAt loaded p x → IsRowAt loaded q y → p ≢ q → path_text p ≡ path_text q → HasTwins shown
    twins_at i j [] q x y first second at other_at apart alike = let e : suc i ≡ 0 = first in absurd (omega arith)
    twins_at i j (n ∷ p) [] x y first second at other_at apart alike = let e : suc j ≡ 0 = second in absurd (omega arith)
    twins_at i j (n ∷ p) (m ∷ q) x y first second at other_at apart alike =
        let one = same.back (n ∷ p) x at in
        let other = same.back (m ∷ q) y other_at in
        record {
          name = n;
          above = p;
          row = one.other;
          at = one.at;
          other_name = m;
          other_above = q;
          other_row = other.other;
          other_at = other.at;
          apart = apart;
          alike = alike;
        }

    pub twins_of : HasTie sorted → HasTwins shown
    twins_of tie =
        let pair = pair_back items sorted tie.a tie.b permutation tie.pair in
        let x = item_at items pair.i pair.i_in in
        let y = item_at items pair.j pair.j_in in
        let first : x.row ≡ tie.a = sym (get_or_from_slice_get items pair.i x.row tie.a x.there) ∙ pair.first in
        let second : y.row ≡ tie.b = sym (get_or_from_slice_get items pair.j y.row tie.a y.there) ∙ pair.second in
        let a = all pair.i x.row x.there in
        let b = all pair.j y.row y.there in
        let at = row_at pair.i x.row a in
        let other_at = row_at pair.j y.row b in
        let apart : a.path ≢ b.path = λ e.
        let row = one_row loaded numbered a.path (row_of tells.contents 0 (suc pair.i) a.node) (row_of tells.contents 0 (suc pair.j) b.node) at
        (subst (λ (p : Path). IsRowAt loaded p (row_of tells.contents 0 (suc pair.j) b.node)) (sym e) other_at) in
        let number : suc pair.i ≡ suc pair.j = ap (λ (r : Row). r.number) row in
        pair.apart (omega arith) in
        let text : path_text a.path ≡ path_text b.path =
        sym a.text ∙ ap (λ (r : DemoRow). r.path.items) first ∙ tie.same ∙ ap (λ (r : DemoRow). r.path.items) (sym second) ∙ b.text in
        twins_at pair.i pair.j a.path b.path (row_of tells.contents 0 (suc pair.i) a.node) (row_of tells.contents 0 (suc pair.j) b.node) a.at b.at at other_at apart text
