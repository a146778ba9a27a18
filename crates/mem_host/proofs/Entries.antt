-- The names that a map stands for.
use Rattle.std.proofs.Common.{◌≡◌, Bool, true, false, cond, List, [], ◌∷◌, Option, Some, None, refl, sym, ap, ◌∙◌}
use Rattle.std.specs.Option.{option_map}
use Rattle.std.specs.Map.{lookup}
use Rattle.std.specs.BTreeMap.{is_at}
use Rattle.std.specs.Ordering.{eq_by_cmp}
use Rattle.std.specs.Cmp.{eq_by_cmp_equiv}
use Rattle.std.specs.FinMap as map
use Rattle.outside.specs.Disk.{Path, path_cmp}
use Rattle.host_calls.specs.Volume.{Names, entry_at}
use Rattle.outside.proofs.Paths.{paths_total, paths_apart}
use Rattle.mem_host.specs.Entries.{entry_of, names_of}
use Rattle.mem_host.specs.declared.names.MemEntry.{MemEntry}

-- ---- entries

inside : (b : Bool) (h : MemEntry) (o : Option MemEntry) → cond b (Some (entry_of h)) (option_map entry_of o) ≡ option_map entry_of (cond b (Some h) o)
inside true h o = refl
inside false h o = refl

-- what is at a path
pub get_names : (es : List (Path × MemEntry)) (q : Path) → map.get (names_of es) q ≡ option_map entry_of (lookup (is_at (path_cmp q)) es)
get_names [] q = map.get-empty path_cmp q
get_names (e ∷ es) q =
    map.get-insert paths_total (names_of es) e.0 (entry_of e.1) q
    ∙ ap (cond (eq_by_cmp path_cmp q e.0) (Some (entry_of e.1))) (get_names es q)
    ∙ inside (eq_by_cmp path_cmp q e.0) e.1 (lookup (is_at (path_cmp q)) es)

-- entries that differ at one path make names that differ there
pub names_put : (es fs : List (Path × MemEntry)) (p : Path) (h : MemEntry) → ((q : Path) → lookup (is_at (path_cmp q)) fs ≡ cond (is_at (path_cmp p) q) (Some h) (lookup (is_at (path_cmp q)) es)) → names_of fs ≡ map.insert (names_of es) p (entry_of h)
names_put es fs p h is = map.same_map paths_total paths_apart _ _ (λ q.
    get_names fs q ∙ ap (option_map entry_of) (is q)
    ∙ sym (inside (is_at (path_cmp p) q) h (lookup (is_at (path_cmp q)) es))
    ∙ ap (cond (is_at (path_cmp p) q) (Some (entry_of h))) (sym (get_names es q))
    ∙ ap (λ b. cond b (Some (entry_of h)) (map.get (names_of es) q)) ((eq_by_cmp_equiv paths_total).symm p q)
    ∙ sym (map.get-insert paths_total (names_of es) p (entry_of h) q))

-- the same, if the map is seen as names
pub held_put : (es fs : List (Path × MemEntry)) (k p : Path) (h : MemEntry) (names : Names) → k ≡ p → names_of es ≡ names → ((q : Path) → lookup (is_at (path_cmp q)) fs ≡ cond (is_at (path_cmp k) q) (Some h) (lookup (is_at (path_cmp q)) es)) → names_of fs ≡ map.insert names p (entry_of h)
held_put es fs k p h names same seen is = names_put es fs k h is ∙ (λ i. map.insert (seen i) (same i) (entry_of h))

outside : (b : Bool) (o : Option MemEntry) → option_map entry_of (cond b None o) ≡ cond b None (option_map entry_of o)
outside true o = refl
outside false o = refl

-- entries that lack one path make names that lack it
pub held_removed : (es fs : List (Path × MemEntry)) (p : Path) (names : Names) → names_of es ≡ names → ((q : Path) → lookup (is_at (path_cmp q)) fs ≡ cond (is_at (path_cmp p) q) None (lookup (is_at (path_cmp q)) es)) → names_of fs ≡ map.remove names p
held_removed es fs p names seen is = map.same_map paths_total paths_apart _ _ (λ q.
    get_names fs q ∙ ap (option_map entry_of) (is q)
    ∙ outside (is_at (path_cmp p) q) (lookup (is_at (path_cmp q)) es)
    ∙ ap (cond (is_at (path_cmp p) q) None) (sym (get_names es q))
    ∙ ap (λ b. cond b None (map.get (names_of es) q)) ((eq_by_cmp_equiv paths_total).symm p q)
    ∙ sym (map.get-remove paths_total (names_of es) p q))
    ∙ ap (λ d. map.remove d p) seen

-- what a look-up finds is what is there
pub entry_found : (es : List (Path × MemEntry)) (q : Path) (o : Option MemEntry) → o ≡ lookup (is_at (path_cmp q)) es → option_map entry_of o ≡ entry_at (names_of es) q
entry_found es q o e = ap (option_map entry_of) e ∙ sym (get_names es q)
