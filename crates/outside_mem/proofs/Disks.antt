-- The disk that a map stands for.
use Rattle.std.proofs.Common.{◌≡◌, ◌≢◌, Bool, true, false, cond, List, [], ◌∷◌, Option, Some, None, IsSome, refl, sym, ap, subst, ◌∙◌, true≢false}
use Rattle.std.specs.Option.{option_map}
use Rattle.std.specs.Map.{lookup}
use Rattle.std.specs.BTreeMap.{is_at}
use Rattle.std.specs.Ordering.{eq_by_cmp}
use Rattle.std.specs.Cmp.{eq_by_cmp_equiv}
use Rattle.std.specs.FinMap as map
use Rattle.outside.specs.Disk.{Disk, Path, path_cmp, Node, folder, node_at, kind_at, kind_of, IsTree, parent}
use Rattle.outside.proofs.Paths.{paths_total, paths_apart, by_path, set_here, set_there}
use Rattle.outside_mem.specs.Held.{bare}
use Rattle.outside_mem.specs.Entries.{node_of, disk_of}
use Rattle.outside_mem.specs.declared.disk.Held.{Held}

-- ---- entries

inside : (b : Bool) (h : Held) (o : Option Held) → cond b (Some (node_of h)) (option_map node_of o) ≡ option_map node_of (cond b (Some h) o)
inside true h o = refl
inside false h o = refl

-- what the disk has at a path
pub get_disk : (es : List (Path × Held)) (q : Path) → map.get (disk_of es) q ≡ option_map node_of (lookup (is_at (path_cmp q)) es)
get_disk [] q = map.get-empty path_cmp q
get_disk (e ∷ es) q =
    map.get-insert paths_total (disk_of es) e.0 (node_of e.1) q
    ∙ ap (cond (eq_by_cmp path_cmp q e.0) (Some (node_of e.1))) (get_disk es q)
    ∙ inside (eq_by_cmp path_cmp q e.0) e.1 (lookup (is_at (path_cmp q)) es)

-- entries that differ at one path make disks that differ there
pub disk_put : (es fs : List (Path × Held)) (p : Path) (h : Held) → ((q : Path) → lookup (is_at (path_cmp q)) fs ≡ cond (is_at (path_cmp p) q) (Some h) (lookup (is_at (path_cmp q)) es)) → disk_of fs ≡ map.insert (disk_of es) p (node_of h)
disk_put es fs p h is = map.same_map paths_total paths_apart _ _ (λ q.
    get_disk fs q ∙ ap (option_map node_of) (is q)
    ∙ sym (inside (is_at (path_cmp p) q) h (lookup (is_at (path_cmp q)) es))
    ∙ ap (cond (is_at (path_cmp p) q) (Some (node_of h))) (sym (get_disk es q))
    ∙ ap (λ b. cond b (Some (node_of h)) (map.get (disk_of es) q)) ((eq_by_cmp_equiv paths_total).symm p q)
    ∙ sym (map.get-insert paths_total (disk_of es) p (node_of h) q))

-- the same, if the map is seen as a disk
pub held_put : (es fs : List (Path × Held)) (k p : Path) (h : Held) (disk : Disk) → k ≡ p → disk_of es ≡ disk → ((q : Path) → lookup (is_at (path_cmp q)) fs ≡ cond (is_at (path_cmp k) q) (Some h) (lookup (is_at (path_cmp q)) es)) → disk_of fs ≡ map.insert disk p (node_of h)
held_put es fs k p h disk same seen is = disk_put es fs k h is ∙ (λ i. map.insert (seen i) (same i) (node_of h))

outside : (b : Bool) (o : Option Held) → option_map node_of (cond b None o) ≡ cond b None (option_map node_of o)
outside true o = refl
outside false o = refl

-- entries that lack one path make a disk that lacks it
pub held_removed : (es fs : List (Path × Held)) (p : Path) (disk : Disk) → disk_of es ≡ disk → ((q : Path) → lookup (is_at (path_cmp q)) fs ≡ cond (is_at (path_cmp p) q) None (lookup (is_at (path_cmp q)) es)) → disk_of fs ≡ map.remove disk p
held_removed es fs p disk seen is = map.same_map paths_total paths_apart _ _ (λ q.
    get_disk fs q ∙ ap (option_map node_of) (is q)
    ∙ outside (is_at (path_cmp p) q) (lookup (is_at (path_cmp q)) es)
    ∙ ap (cond (is_at (path_cmp p) q) None) (sym (get_disk es q))
    ∙ ap (λ b. cond b None (map.get (disk_of es) q)) ((eq_by_cmp_equiv paths_total).symm p q)
    ∙ sym (map.get-remove paths_total (disk_of es) p q))
    ∙ ap (λ d. map.remove d p) seen

-- what a look-up finds is what the disk has
pub node_found : (es : List (Path × Held)) (q : Path) (o : Option Held) → o ≡ lookup (is_at (path_cmp q)) es → option_map node_of o ≡ node_at (disk_of es) q
node_found es q o e = ap (option_map node_of) e ∙ sym (get_disk es q)

pub kind_found : (es : List (Path × Held)) (q : Path) (o : Option Held) → o ≡ lookup (is_at (path_cmp q)) es → option_map kind_of (option_map node_of o) ≡ kind_at (disk_of es) q
kind_found es q o e = ap (option_map kind_of) (node_found es q o e)

-- ---- trees

-- the folder itself alone is a tree
pub bare_tree : IsTree bare
bare_tree = record { top = set_here map.empty [] (Some folder) [] refl; parents = λ q there. by_path q [] (λ e. set_here map.empty [] (Some folder) (parent q) (ap parent e)) (λ ne. absurd (none q ne there)) }
  where
    none : (q : Path) → q ≢ [] → IsSome (node_at bare q) → ⊥
    none q ne there = let e : node_at bare q ≡ None = set_there map.empty [] (Some folder) q ne ∙ map.get-empty path_cmp q in let h : IsSome {T = Node} None = subst IsSome e there in true≢false (sym h)
