-- Host files and places of a tree in memory.
use Rattle.std.proofs.Common.{◌≡◌, ◌≢◌, ◌↔◌, ℕ, Bool, true, false, List, [], ◌∷◌, length, Option, Some, None, IsTrue, refl, sym, ap, ap₂, ◌∙◌, subst, true≢false}
use Rattle.std.specs.FinMap.{get}
use Rattle.std.specs.Option.{option_and_then}
use Rattle.outside.specs.Disk.{Disk, Node as Thing, node_at as thing_at, file as host_file}
use Rattle.tree_model.specs.Rows.{Content}
use Rattle.clear_tree.specs.Walk.{Path, Sealing, Kind, Bare, Node, File, Link, Dir, Bad, look, node, node_at}
use Rattle.clear_tree.specs.Places.{folders_of, host_inner, seen_at, entry_at, entry_of, text_symlink}
use Rattle.clear_tree.specs.Rows.{content_in}
use Rattle.clear_tree.specs.Kept.{What, is_absent, file_path, path_in, size_in, folder_in, what_of, content_of, HasHostFile}
use Rattle.clear_tree.proofs.Found.{file_there, link_there, look_seen}
use Rattle.tree_deed_laws.specs.Trees.{Tree, IsTreeOf}
use Rattle.tree_deed_laws.specs.Deeds.{place_of}
use Rattle.tree_deed_laws.proofs.Seeing.{node_kind, some_there}
use Rattle.tree_deed_laws.proofs.Exact.{parent_there}
use Rattle.tree_deed_laws.proofs.Standing.{kind_of_file, kind_of_link}
use Rattle.tree_deed_laws.proofs.Held.{entries_are_of_places}
use Rattle.live_tree.specs.Held.{HeldNode, HeldTree, node_of, path_of, size_of, parent_folder}
use Rattle.live_tree_laws.specs.Holds.{IsAt, IsHeldAs, IsHeldPlace, Holds, AreHeldContents}
use Rattle.live_tree_laws.specs.Found.{bytes_in, IsHostFile, HasBytes, NodesHaveBytes, IsOfNode, PathsAreOfNodes, AreLiveContents, ContentsAreHeld, PlacesAreHeld}
use Rattle.live_tree_laws.specs.Writing.{file_at, FilesStandAtPlaces}
use Rattle.live_tree_laws.proofs.Paths.{one_held}
use Rattle.live_tree_laws.proofs.Keeping.{one_node}
use Rattle.live_tree_laws.proofs.Numbers.{reached}

-- ---- places

-- the folder of a directory is held of it
folder_held : (s : Sealing) (tree : Tree) (live : HeldTree) (p : Path) (parent : ℕ) (i : List ℕ) (above : HeldNode) → Holds s tree live → IsAt live p parent → get tree.nodes p ≡ Some (Dir i)
    → node_of live parent ≡ Some above → folder_in above.kept.what ≡ Some (s.folder_of i)
folder_held s tree live p parent i above holds at_p dir_at there =
    let it = holds.nodes_of p parent at_p in
    let same : it.held ≡ above = one_held live parent it.held above it.there there in
    let node : it.node ≡ Dir i = one_node tree p it.node (Dir i) it.at dir_at in
    ap (λ (z : HeldNode). folder_in z.kept.what) (sym same) ∙ ap folder_in (it.is.what ∙ ap (what_of s) node)

pub places_are_held : PlacesAreHeld
places_are_held s tree live p parent number i n f above held holds at_p dir_at named above_is folder held_is =
    let it = holds.nodes_of (n ∷ p) number (parent, at_p, named) in
    let same : it.held ≡ held = one_held live number it.held held it.there held_is in
    let place : IsHeldPlace (place_of s i n (tree.long (n ∷ p))) held = subst (λ (z : HeldNode). IsHeldPlace (place_of s i n (tree.long (n ∷ p))) z) same (it.is.place i dir_at) in
    let w : ◌≡◌ {A = Option (List ℕ)} (Some (s.folder_of i)) (Some f) = sym (folder_held s tree live p parent i above holds at_p dir_at above_is) ∙ folder in
    let own : s.folder_of i ≡ f = cc in
    let entry : (place_of s i n (tree.long (n ∷ p))).entry ≡ held.kept.entry = sym place.entry in
    let long : tree.long (n ∷ p) ≡ held.kept.long = sym place.long in
    λ k. record { folder = own k; entry = entry k; long = long k }

-- ---- host files

is_long : (b : Bool) (o : Option Thing) → IsTrue b ↔ (o ≡ None) → b ≡ is_absent o
is_long true None h = refl
is_long true (Some x) h = absurd (some_there _ _ refl (h.0 refl))
is_long false None h = absurd (true≢false (sym (h.1 refl)))
is_long false (Some x) h = refl

module _ (s : Sealing) (d : Disk) (tree : Tree) (live : HeldTree) (is : IsTreeOf s d tree) (holds : Holds s tree live) where
  -- the node of a name in the directory at q, of identifier i
  module _ (n : List ℕ) (q : Path) (i : List ℕ) (number : ℕ) (held above : HeldNode) (x : Node) (at : IsAt live (n ∷ q) number) (dir_at : get tree.nodes q ≡ Some (Dir i)) (stands : get tree.nodes (n ∷ q) ≡ Some x)
      (there : node_of live number ≡ Some held) (up : node_of live held.kept.parent ≡ Some above) (same_as : IsHeldAs s tree (n ∷ q) x held) where
    abbrev F : List ℕ
    F = s.folder_of i

    abbrev X : List ℕ
    X = s.seal i n

    inside : held.kept.parent ≡ at.0
    inside = ap (λ (z : HeldNode). z.kept.parent) (sym (one_held live number at.2.node held at.2.child.there there)) ∙ at.2.child.inside

    folder : folder_in above.kept.what ≡ Some F
    folder = folder_held s tree live q at.0 i above holds at.1 dir_at (ap (node_of live) (sym inside) ∙ up)

    path_is : path_of live number ≡ path_in held.kept held.kept.what F
    path_is =
        ap (option_and_then (λ (node : HeldNode). option_and_then (path_in node.kept node.kept.what) (parent_folder live node.kept))) there
        ∙ ap (λ (o : Option HeldNode). option_and_then (path_in held.kept held.kept.what) (option_and_then (λ (parent : HeldNode). folder_in parent.kept.what) o)) up
        ∙ ap (option_and_then (path_in held.kept held.kept.what)) folder

    size_is : size_of live number ≡ size_in (what_of s x)
    size_is = ap (option_and_then (λ (node : HeldNode). size_in node.kept.what)) there ∙ ap size_in same_as.what

    place : IsHeldPlace (place_of s i n (tree.long (n ∷ q))) held
    place = same_as.place i dir_at

    entry_is : held.kept.entry ≡ entry_of s d F X
    entry_is = place.entry ∙ sym (entries_are_of_places s d tree q i n x is dir_at stands)

    long_is : held.kept.long ≡ is_absent (entry_at s d F X)
    long_is = place.long ∙ is_long (tree.long (n ∷ q)) (entry_at s d F X) (is.placed n q i x dir_at stands)

    kind : (k : Kind) × (look s (folders_of s d) i n ≡ Some k) × (k ≢ Bare) × (node s (folders_of s d) is.owner (n ∷ q) (Some k) ≡ Some x)
    kind = node_kind s (folders_of s d) is.owner q i n x (sym (is.exact q) ∙ dir_at) (sym (is.exact (n ∷ q)) ∙ stands)

    seen : seen_at s d F X ≡ Some kind.0
    seen = look_seen s d i n kind.0 kind.1

    file_bytes : (b : List ℕ) → x ≡ File b → IsHostFile d live number (file_path held.kept.long F held.kept.entry) b
    file_bytes b e = record {
      is = path_is ∙ ap (λ (w : What). path_in held.kept w F) (same_as.what ∙ ap (what_of s) e);
      there = ap₂ (λ (l : Bool) (y : List ℕ). get d (file_path l F y)) long_is entry_is ∙ file_there s d F X b (seen ∙ ap Some (kind_of_file s (folders_of s d) is.owner (n ∷ q) kind.0 b (kind.3 ∙ ap Some e)));
      size = size_is ∙ ap (λ (y : Node). size_in (what_of s y)) e;
    }

    link_bytes : (b : List ℕ) → x ≡ Link b → IsHostFile d live number (host_inner F held.kept.entry text_symlink) b
    link_bytes b e = record {
      is = path_is ∙ ap (λ (w : What). path_in held.kept w F) (same_as.what ∙ ap (what_of s) e);
      there = ap (λ (y : List ℕ). get d (host_inner F y text_symlink)) entry_is ∙ link_there s d F X b (seen ∙ ap Some (kind_of_link s (folders_of s d) is.owner (n ∷ q) kind.0 b (kind.3 ∙ ap Some e)));
      size = size_is ∙ ap (λ (y : Node). size_in (what_of s y)) e;
    }

    by_kind : (y : Node) (b : List ℕ) → x ≡ y → bytes_in y ≡ Some b → HasBytes d live number b
    by_kind (File c) b e has = let same : c ≡ b = cc in record { path = file_path held.kept.long F held.kept.entry; file = file_bytes b (e ∙ ap File same) }
    by_kind (Link c) b e has = let same : c ≡ b = cc in record { path = host_inner F held.kept.entry text_symlink; file = link_bytes b (e ∙ ap Link same) }
    by_kind (Dir j) b e has = absurd cc
    by_kind (Bad t) b e has = absurd cc

    -- what has a path has bytes
    pub path_has : (y : Node) (path : List (List ℕ)) → x ≡ y → path_of live number ≡ Some path → (b : List ℕ) × (bytes_in y ≡ Some b)
    path_has (File c) path e h = (c, refl)
    path_has (Link c) path e h = (c, refl)
    path_has (Dir j) path e h =
        let none : path_of live number ≡ None = path_is ∙ ap (λ (w : What). path_in held.kept w F) (same_as.what ∙ ap (what_of s) e) in absurd cc
    path_has (Bad t) path e h =
        let none : path_of live number ≡ None = path_is ∙ ap (λ (w : What). path_in held.kept w F) (same_as.what ∙ ap (what_of s) e) in absurd cc

  above_there : (n : List ℕ) (q : Path) (number : ℕ) (held : HeldNode) → IsAt live (n ∷ q) number → node_of live number ≡ Some held → (above : HeldNode) × (node_of live held.kept.parent ≡ Some above)
  above_there n q number held at there =
      let it = holds.nodes_of q at.0 at.1 in
      let same : at.2.node ≡ held = one_held live number at.2.node held at.2.child.there there in
      (it.held, ap (node_of live) (ap (λ (z : HeldNode). z.kept.parent) (sym same) ∙ at.2.child.inside) ∙ it.there)

  parent_dir : (n : List ℕ) (q : Path) (x : Node) → get tree.nodes (n ∷ q) ≡ Some x → (i : List ℕ) × (get tree.nodes q ≡ Some (Dir i))
  parent_dir n q x stands = let up = parent_there s (folders_of s d) is.owner q n x (sym (is.exact (n ∷ q)) ∙ stands) in (up.0, is.exact q ∙ up.1)

  root_dir : get tree.nodes [] ≡ Some (Dir [])
  unfolding node_at
  root_dir = is.exact []

  bytes_at : (p : Path) (number : ℕ) (x : Node) (b : List ℕ) → IsAt live p number → get tree.nodes p ≡ Some x → bytes_in x ≡ Some b → HasBytes d live number b
  bytes_at [] number x b at stands has =
      let same : x ≡ Dir [] = one_node tree [] x (Dir []) stands root_dir in
      let none : bytes_in x ≡ None = ap bytes_in same in absurd cc
  bytes_at (n ∷ q) number x b at stands has =
      let it = holds.nodes_of (n ∷ q) number at in
      let same : it.node ≡ x = one_node tree (n ∷ q) it.node x it.at stands in
      let up = parent_dir n q x stands in
      let above = above_there n q number it.held at it.there in
      by_kind n q up.0 number it.held above.0 x at up.1 stands it.there above.1 (subst (λ (y : Node). IsHeldAs s tree (n ∷ q) y it.held) same it.is) x b refl has

  dir_no_path : (held : HeldNode) (o : Option (List ℕ)) (path : List (List ℕ)) → option_and_then (path_in held.kept (what_of s (Dir []))) o ≡ Some path → ⊥
  dir_no_path held None path h = cc
  dir_no_path held (Some f) path h = cc

  path_bytes : (p : Path) (number : ℕ) (path : List (List ℕ)) → IsAt live p number → path_of live number ≡ Some path → (x : Node) × (get tree.nodes p ≡ Some x) × (b : List ℕ) × (bytes_in x ≡ Some b)
  path_bytes [] number path at h =
      let it = holds.nodes_of [] number at in
      let same : it.node ≡ Dir [] = one_node tree [] it.node (Dir []) it.at root_dir in
      absurd (dir_no_path it.held (parent_folder live it.held.kept) path
      (ap (λ (w : What). option_and_then (path_in it.held.kept w) (parent_folder live it.held.kept)) (sym (it.is.what ∙ ap (what_of s) same))
      ∙ sym (ap (option_and_then (λ (node : HeldNode). option_and_then (path_in node.kept node.kept.what) (parent_folder live node.kept))) it.there) ∙ h))
  path_bytes (n ∷ q) number path at h =
      let it = holds.nodes_of (n ∷ q) number at in
      let up = parent_dir n q it.node it.at in
      let above = above_there n q number it.held at it.there in
      let has = path_has n q up.0 number it.held above.0 it.node at up.1 it.at it.there above.1 it.is it.node path refl h in
      (it.node, it.at, has.0, has.1)

  number_held : (number : ℕ) (path : List (List ℕ)) (o : Option HeldNode) → node_of live number ≡ o → path_of live number ≡ Some path → (held : HeldNode) × (node_of live number ≡ Some held)
  number_held number path None e h =
      let none : path_of live number ≡ None = ap (option_and_then (λ (node : HeldNode). option_and_then (path_in node.kept node.kept.what) (parent_folder live node.kept))) e in absurd cc
  number_held number path (Some held) e h = (held, e)

  one_host_path : (number : ℕ) (a b : List (List ℕ)) → path_of live number ≡ Some a → path_of live number ≡ Some b → a ≡ b
  one_host_path number a b h g = let w : ◌≡◌ {A = Option (List (List ℕ))} (Some a) (Some b) = sym h ∙ g in cc

  node_from : (number : ℕ) (path : List (List ℕ)) (p : Path) (x : Node) (b : List ℕ) → IsAt live p number → get tree.nodes p ≡ Some x → bytes_in x ≡ Some b → path_of live number ≡ Some path
      → HasBytes d live number b → IsOfNode d tree live number path
  node_from number path p x b at stands has h file = record {
    at_path = p;
    at = at;
    node = x;
    stands = stands;
    bytes = b;
    has = has;
    file = subst (λ (z : List (List ℕ)). IsHostFile d live number z b) (one_host_path number file.path path file.file.is h) file.file;
  }

  of_node : (number : ℕ) (path : List (List ℕ)) → path_of live number ≡ Some path → IsOfNode d tree live number path
  of_node number path h =
      let held = number_held number path (node_of live number) refl h in
      let p = reached live holds.is_tree number held.0 held.1 in
      let has = path_bytes p.0 number path p.1 h in
      node_from number path p.0 has.0 has.2 p.1 has.1 has.3 h (bytes_at p.0 number has.0 has.2 p.1 has.1 has.3)

  -- the path of a file's host file is that of its place
  files_at : (p : Path) (number : ℕ) (i n b : List ℕ) → IsAt live (n ∷ p) number → get tree.nodes p ≡ Some (Dir i) → get tree.nodes (n ∷ p) ≡ Some (File b)
      → path_of live number ≡ Some (file_at (place_of s i n (tree.long (n ∷ p))))
  files_at p number i n b at dir stands =
      let it = holds.nodes_of (n ∷ p) number at in
      let above = above_there n p number it.held at it.there in
      let same : it.node ≡ File b = one_node tree (n ∷ p) it.node (File b) it.at stands in
      let place : IsHeldPlace (place_of s i n (tree.long (n ∷ p))) it.held = it.is.place i dir in
      path_is n p i number it.held above.0 it.node at dir it.at it.there above.1 it.is
      ∙ ap (λ (w : What). path_in it.held.kept w (s.folder_of i)) (it.is.what ∙ ap (what_of s) same)
      ∙ ap₂ (λ (l : Bool) (e : List ℕ). Some (file_path l (s.folder_of i) e)) place.long place.entry

  -- ---- contents
  module _ (contents : ℕ → Content) where
    content_from : (x : Node) (b : List ℕ) (c : Content) → bytes_in x ≡ Some b → content_of (what_of s x) c ≡ content_in s x → c ≡ s.content b
    content_from (File a) b c has e = let same : a ≡ b = cc in e ∙ ap s.content same
    content_from (Link a) b c has e = let same : a ≡ b = cc in e ∙ ap s.content same
    content_from (Dir i) b c has e = absurd cc
    content_from (Bad t) b c has e = absurd cc

    same_bytes : (o : Option Thing) (a b : List ℕ) → o ≡ Some (host_file a) → o ≡ Some (host_file b) → a ≡ b
    same_bytes o a b h g = cc

    one_length : (o : Option ℕ) (a b : ℕ) → o ≡ Some a → o ≡ Some b → a ≡ b
    one_length o a b h g = cc

    content_by : (number : ℕ) (path : List (List ℕ)) → AreHeldContents s tree live contents → IsOfNode d tree live number path → HasHostFile s d contents number path
    content_by number path are it =
        record { bytes = it.bytes; there = it.file.there; content = content_from it.node it.bytes (contents number) it.has (are it.at_path number it.node it.at it.stands) }

    size_by : (number size : ℕ) (path : List (List ℕ)) (bytes : List ℕ) → IsOfNode d tree live number path → size_of live number ≡ Some size → thing_at d path ≡ Some (host_file bytes) → length bytes ≡ size
    size_by number size path bytes it g there =
        ap length (same_bytes (thing_at d path) bytes it.bytes there it.file.there) ∙ one_length (size_of live number) (length it.bytes) size it.file.size g

    to_live : AreHeldContents s tree live contents → AreLiveContents s d live contents
    to_live are = record {
      files = λ number path h. content_by number path are (of_node number path h);
      sizes = λ number size path bytes h g there. size_by number size path bytes (of_node number path h) g there;
    }

    by_bytes : (p : Path) (number : ℕ) (x : Node) (b : List ℕ) → AreLiveContents s d live contents → IsAt live p number → get tree.nodes p ≡ Some x → bytes_in x ≡ Some b → contents number ≡ s.content b
    by_bytes p number x b are at stands has =
        let file = bytes_at p number x b at stands has in
        let host = are.files number file.path file.file.is in
        let same : host.bytes ≡ b = same_bytes (thing_at d file.path) host.bytes b host.there file.file.there in
        host.content ∙ ap s.content same

    to_held : AreLiveContents s d live contents → AreHeldContents s tree live contents
    to_held are p number (File b) at stands = by_bytes p number (File b) b are at stands refl
    to_held are p number (Link b) at stands = by_bytes p number (Link b) b are at stands refl
    to_held are p number (Dir i) at stands = refl
    to_held are p number (Bad t) at stands = refl

pub nodes_have_bytes : NodesHaveBytes
nodes_have_bytes s d tree live p number x bytes is holds at stands has = bytes_at s d tree live is holds p number x bytes at stands has

pub paths_are_of_nodes : PathsAreOfNodes
paths_are_of_nodes s d tree live number path is holds h = of_node s d tree live is holds number path h

pub contents_are_held : ContentsAreHeld
contents_are_held s d tree live contents is holds = (to_live s d tree live is holds contents, to_held s d tree live is holds contents)

pub files_stand_at_places : FilesStandAtPlaces
files_stand_at_places s d tree live p number i n b is holds at dir stands = files_at s d tree live is holds p number i n b at dir stands
