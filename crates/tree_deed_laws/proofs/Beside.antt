-- What the journal's two files hold does not matter to nodes, marks and places.
use Rattle.std.proofs.Common.{◌≡◌, ℕ, List, [], ◌∷◌, Option, refl, sym, ap, ap₂, ◌∙◌, inl, inr}
use Rattle.std.specs.FinMap.{get}
use Rattle.outside.specs.Disk.{Disk, Node as Thing, IsTree}
use Rattle.deeds.specs.Deeds.{IsAlikeBut}
use Rattle.deeds.specs.Repeatable.{journal_file, new_file}
use Rattle.clear_tree.specs.Walk.{Path, Sealing, Folders, look, node, below, node_at, claimed}
use Rattle.clear_tree.specs.Places.{entry_at, folders_of, host_folder, host_entry, host_inner, entry_of, entry_where, bytes_of, known, is_folder, text_dir, text_dirid, text_symlink, text_name}
use Rattle.clear_tree.specs.Marks.{IsShadowed, IsNodeEntry, Foreign, NamedTwice, known_at}
use Rattle.clear_tree.proofs.Change.{below_agree}
use Rattle.clear_tree.proofs.Leaf.{node_same}
use Rattle.clear_tree.proofs.Owner.{look_by, same_owner}
use Rattle.tree_deed_laws.specs.Trees.{Tree, IsTreeOf}
use Rattle.tree_deed_laws.specs.Changes.{StaysBeside}
use Rattle.tree_deed_laws.proofs.Seeing.{seen_same, long_same, entry_same}
use Rattle.tree_deed_laws.proofs.Exact.{through, has_foreign, is_shadowed_in}

module _ (s : Sealing) (d d' : Disk) (same : IsAlikeBut journal_file new_file d d') where
  abbrev v : Folders
  v = folders_of s d

  abbrev v' : Folders
  v' = folders_of s d'

  entry : (g u : List ℕ) → get d' (host_entry g u) ≡ get d (host_entry g u)
  entry g u = same (host_entry g u) (λ e. cc) (λ e. cc)

  inner : (g u l : List ℕ) → get d' (host_inner g u l) ≡ get d (host_inner g u l)
  inner g u l = same (host_inner g u l) (λ e. cc) (λ e. cc)

  folder : (g : List ℕ) → get d' (host_folder g) ≡ get d (host_folder g)
  folder g = same (host_folder g) (λ e. cc) (λ e. cc)

  seen : (g u : List ℕ) → v'.seen g u ≡ v.seen g u
  seen g u = seen_same s d d' g u (λ t. (entry g u, (λ l. inner g u l), long_same d d' g (s.long_of u) u (λ l. inner g (s.long_of u) l)))

  looks : (j m : List ℕ) → look s v' j m ≡ look s v j m
  looks j m = look_by s v v' m j (λ e. seen (s.folder_of j) (s.seal j m))

  at_same : (h t : List ℕ) → entry_at s d' h t ≡ entry_at s d h t
  at_same h t = entry_same s d d' h t (entry h t)

  place : (h t : List ℕ) → entry_of s d' h t ≡ entry_of s d h t
  place h t = ap (λ (w : Option Thing). entry_where w t (s.long_of t)) (at_same h t)

  pub nodes_beside : (o : List ℕ → Path) (q : Path) → node_at s v' o q ≡ node_at s v o q
  unfolding node_at
  nodes_beside o [] = refl
  nodes_beside o (m ∷ q) = ap (below s v' o (m ∷ q) m) (nodes_beside o q)
      ∙ below_agree s v v' o o (m ∷ q) (m ∷ q) m (node_at s v o q) (λ j h. ap (node s v' o (m ∷ q)) (looks j m) ∙ node_same s v v' o (m ∷ q) (look s v j m) (λ g. ap is_folder (folder g)))

  known_same : (h t : List ℕ) → known_at d' h (entry_of s d' h t) ≡ known_at d h (entry_of s d h t)
  known_same h t = ap (known_at d' h) (place h t)
      ∙ ap₂ (λ (a b : Option Thing). known (bytes_of a) (bytes_of b)) (inner h (entry_of s d h t) text_dir) (inner h (entry_of s d h t) text_symlink)

  there_same : (h t l : List ℕ) → get d' (host_inner h (entry_of s d' h t) l) ≡ get d (host_inner h (entry_of s d h t) l)
  there_same h t l = ap (λ (w : List ℕ). get d' (host_inner h w l)) (place h t) ∙ inner h (entry_of s d h t) l

  node_to : (i u : List ℕ) → IsNodeEntry s d i u → IsNodeEntry s d' i u
  node_to i u x = record { name = x.name; kind = x.kind; shown = looks i x.name ∙ x.shown; known = x.known; place = x.place ∙ sym (place (s.folder_of i) (s.seal i x.name)) }

  node_from : (i u : List ℕ) → IsNodeEntry s d' i u → IsNodeEntry s d i u
  node_from i u x = record { name = x.name; kind = x.kind; shown = sym (looks i x.name) ∙ x.shown; known = x.known; place = x.place ∙ place (s.folder_of i) (s.seal i x.name) }

  foreign_to : (i : List ℕ) → Foreign s d i → Foreign s d' i
  foreign_to i (u, f) = (
    u,
    record {
      there = λ z. f.there (sym (entry (s.folder_of i) u) ∙ z);
      no_copy = λ z w. f.no_copy z (w.0, sym (entry (s.folder_of i) text_dirid) ∙ w.1);
      no_node = λ x. f.no_node (node_from i u x);
    },
  )

  foreign_from : (i : List ℕ) → Foreign s d' i → Foreign s d i
  foreign_from i (u, f) = (
    u,
    record {
      there = λ z. f.there (entry (s.folder_of i) u ∙ z);
      no_copy = λ z w. f.no_copy z (w.0, entry (s.folder_of i) text_dirid ∙ w.1);
      no_node = λ x. f.no_node (node_to i u x);
    },
  )

  shadow_to : (i n : List ℕ) → IsShadowed s d i n → IsShadowed s d' i n
  shadow_to i n (inl f) = inl (record {
    entry = f.entry;
    unknown = λ z. f.unknown (z ∙ known_same (s.folder_of i) (s.seal i n));
    no_name = λ z. f.no_name (sym (at_same (s.folder_of i) (s.seal i n)) ∙ z);
    there = λ z. f.there (sym (there_same (s.folder_of i) (s.seal i n) f.entry) ∙ z);
  })
  shadow_to i n (inr t) = inr (record {
    short = λ z. t.short (sym (at_same (s.folder_of i) (s.seal i n)) ∙ z);
    long = inner (s.folder_of i) (s.long_of (s.seal i n)) text_name ∙ t.long;
  })

  shadow_from : (i n : List ℕ) → IsShadowed s d' i n → IsShadowed s d i n
  shadow_from i n (inl f) = inl (record {
    entry = f.entry;
    unknown = λ z. f.unknown (z ∙ sym (known_same (s.folder_of i) (s.seal i n)));
    no_name = λ z. f.no_name (at_same (s.folder_of i) (s.seal i n) ∙ z);
    there = λ z. f.there (there_same (s.folder_of i) (s.seal i n) f.entry ∙ z);
  })
  shadow_from i n (inr t) = inr (record {
    short = λ z. t.short (at_same (s.folder_of i) (s.seal i n) ∙ z);
    long = sym (inner (s.folder_of i) (s.long_of (s.seal i n)) text_name) ∙ t.long;
  })

  twice_to : (o : List ℕ → Path) → NamedTwice s v o → NamedTwice s v' o
  twice_to o t = record { one = t.one; other = t.other; folder = t.folder; two = t.two; first = ap (claimed s) (nodes_beside o t.one) ∙ t.first; second = ap (claimed s) (nodes_beside o t.other) ∙ t.second }

  twice_from : (o : List ℕ → Path) → NamedTwice s v' o → NamedTwice s v o
  twice_from o t = record { one = t.one; other = t.other; folder = t.folder; two = t.two; first = ap (claimed s) (sym (nodes_beside o t.one)) ∙ t.first; second = ap (claimed s) (sym (nodes_beside o t.other)) ∙ t.second }

  pub stays : (tree : Tree) → IsTreeOf s d tree → IsTree d' → IsTreeOf s d' tree
  stays tree is host = record {
    owner = is.owner;
    host = host;
    there = folder (s.folder_of []) ∙ is.there;
    first = same_owner s v v' is.owner is.first (λ q. ap (claimed s) (nodes_beside is.owner q));
    exact = λ q. is.exact q ∙ sym (nodes_beside is.owner q);
    marked = record {
      foreign = λ q. through _ _ _ (is.marked.foreign q) (has_foreign s d d' (node_at s v is.owner q) (node_at s v' is.owner q) (nodes_beside is.owner q) (λ j h. (foreign_to j, foreign_from j)));
      root = is.marked.root;
      shadowed = λ l q. through _ _ _ (is.marked.shadowed l q) (is_shadowed_in s d d' (node_at s v is.owner q) (node_at s v' is.owner q) (node_at s v is.owner (l ∷ q)) (node_at s v' is.owner (l ∷ q)) l
          (nodes_beside is.owner (l ∷ q)) (λ y h. nodes_beside is.owner q) (λ j y h g. (shadow_to j l, shadow_from j l)));
      twice = through _ _ _ is.marked.twice (twice_to is.owner, twice_from is.owner);
    };
    placed = λ n p i x at there. through _ _ _ (is.placed n p i x at there)
        ((λ z. at_same (s.folder_of i) (s.seal i n) ∙ z), (λ z. sym (at_same (s.folder_of i) (s.seal i n)) ∙ z));
  }

pub stays_beside : StaysBeside
stays_beside s d d' tree is host same = stays s d d' same tree is host
