-- Names that make a tree, whatever bytes the files have.
use Rattle.std.proofs.Common.{◌≡◌, ◌≢◌, List, [], ◌∷◌, Option, Some, None, IsSome, option_map, refl, sym, ap, subst, ◌∙◌, inl, inr, true≢false}
use Rattle.std.specs.FinMap as map
use Rattle.outside.specs.Disk.{Path, path_cmp, parent, IsTree}
use Rattle.outside.specs.Changes.{Put}
use Rattle.outside.proofs.Trees.{tree_done}
use Rattle.outside.proofs.Paths.{by_path}
use Rattle.host_calls.specs.declared.found.Inode.{Inode}
use Rattle.host_calls.specs.Volume.{Names, Contents, Volume, Entry, Folder, File, entry_at, bytes_in, node_of, disk_of}
use Rattle.host_calls.specs.Names.{NameStep, MadeFolder, MadeFile, Moved, Dropped, Pending, Fits, after_step, names_after, MayName, IsTaken, AreFitting}
use Rattle.host_calls.proofs.Volumes.{node_in, folder_in, folder_from, disk_named, named_here, named_there}
use Rattle.host_calls.proofs.Parts.{goes_made_folder, goes_moved, goes_removed_file, can_put_new}
use Rattle.mem_host.specs.Entries.{bare}

abbrev pub with_bytes : Names → Contents → Volume
with_bytes names contents = record { names = names; contents = contents }

pub some_there : (c : Contents) (e : Option Entry) → IsSome (option_map (node_of c) e) → IsSome e
some_there c None h = absurd (true≢false (sym h))
some_there c (Some entry) h = refl

pub some_node : (c : Contents) (e : Option Entry) → IsSome e → IsSome (option_map (node_of c) e)
some_node c None h = absurd (true≢false (sym h))
some_node c (Some entry) h = refl

-- whether it is a tree doesn't hang on the bytes
pub tree_other : (names : Names) (c d : Contents) → IsTree (disk_of (with_bytes names c)) → IsTree (disk_of (with_bytes names d))
tree_other names c d tree = record {
  top = folder_in (with_bytes names d) [] (folder_from (with_bytes names c) [] tree.top);
  parents = λ path there. folder_in (with_bytes names d) (parent path) (folder_from (with_bytes names c) (parent path)
      (tree.parents path (subst IsSome (sym (node_in (with_bytes names c) path))
      (some_node c (entry_at names path) (some_there d (entry_at names path) (subst IsSome (node_in (with_bytes names d) path) there))))));
}

-- a step that fits leaves a tree
pub tree_stepped : (step : NameStep) (names : Names) (c : Contents) → Fits step names → IsTree (disk_of (with_bytes names c)) → IsTree (disk_of (with_bytes (after_step step names) c))
tree_stepped (MadeFolder p) names c fits tree = (goes_made_folder (with_bytes names c) p fits).tree tree
tree_stepped (MadeFile p i) names c fits tree =
    subst IsTree (sym (disk_named names c p (Some (File i))))
    (tree_done (Put p (bytes_in c i)) (disk_of (with_bytes names c)) tree (can_put_new (with_bytes names c) p fits))
tree_stepped (Moved from to) names c fits tree = (goes_moved (with_bytes names c) from to fits).tree tree
tree_stepped (Dropped p) names c fits tree = (goes_removed_file (with_bytes names c) p fits).tree tree

-- so do the steps that a power cut leaves
pub tree_left : (base : Names) (naming : List Pending) (names : Names) (c : Contents) → MayName base naming names → IsTree (disk_of (with_bytes base c)) → IsTree (disk_of (with_bytes names c))
tree_left base [] names c may tree = subst (λ (n : Names). IsTree (disk_of (with_bytes n c))) (sym may) tree
tree_left base (last ∷ older) names c may tree = one (tree_left base older may.0 c may.1 tree) may.2
  where
    one : IsTree (disk_of (with_bytes may.0 c)) → IsTaken last may.0 names → IsTree (disk_of (with_bytes names c))
    one before (inl taken) = subst (λ (n : Names). IsTree (disk_of (with_bytes n c))) (sym taken.1) (tree_stepped last.step may.0 c taken.0 before)
    one before (inr left) = subst (λ (n : Names). IsTree (disk_of (with_bytes n c))) (sym left.0) before

-- what reads give may be left
pub now_may_be : (base : Names) (naming : List Pending) → AreFitting base naming → MayName base naming (names_after base naming)
now_may_be base [] fitting = refl
now_may_be base (last ∷ older) fitting = (names_after base older, now_may_be base older fitting.0, inl (fitting.1, refl))

-- the folder itself alone
bare_folder : (q : Path) → IsSome (entry_at bare q) → q ≡ []
bare_folder q there = by_path q [] (λ e. e) (λ ne. absurd (none ne))
  where
    none : q ≢ [] → ⊥
    none ne = let e : entry_at bare q ≡ None = named_there map.empty [] (Some Folder) q ne ∙ map.get-empty path_cmp q in let h : IsSome {T = Entry} None = subst IsSome e there in true≢false (sym h)

pub bare_top : entry_at bare [] ≡ Some Folder
bare_top = named_here map.empty [] (Some Folder) [] refl

pub bare_tree : (c : Contents) → IsTree (disk_of (with_bytes bare c))
bare_tree c = record {
  top = folder_in (with_bytes bare c) [] bare_top;
  parents = λ q there. folder_in (with_bytes bare c) (parent q)
      (ap (λ (p : Path). entry_at bare (parent p)) (bare_folder q (some_there c (entry_at bare q) (subst IsSome (node_in (with_bytes bare c) q) there))) ∙ bare_top);
}

-- it has no file
pub bare_no_file : (q : Path) (i : Inode) → entry_at bare q ≢ Some (File i)
bare_no_file q i h = by_path q []
    (λ e. let f : Some Folder ≡ Some (File i) = sym (ap (entry_at bare) e ∙ bare_top) ∙ h in cc)
    (λ ne. let f : None ≡ Some (File i) = sym (named_there map.empty [] (Some Folder) q ne ∙ map.get-empty path_cmp q) ∙ h in cc)
