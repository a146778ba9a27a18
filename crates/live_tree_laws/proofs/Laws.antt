-- No change of a tree touches a stray: each names the paths of the node that it changes, and of a place where nothing is.
use Rattle.std.proofs.Common.{◌≡◌, ◌≢◌, ◌⊎◌, ℕ, Bool, true, false, List, [], ◌∷◌, ◌++◌, length, take, Option, None, Some, refl, sym, ap, ◌∙◌, subst, inl, inr}
use Rattle.std.proofs.lemmas.Bool.{cond-true, cond-false}
use Rattle.std.specs.FinMap.{get}
use Rattle.outside.specs.Disk.{Disk, Node as Thing, node_at as thing_at, folder as Folder, file as Bytes, IsTree, Path as HostPath}
use Rattle.outside.proofs.Paths.{by_path, set_here, set_there}
use Rattle.deeds.specs.Deeds.{PlainDeed, MakesDir, Puts, DoesAll, Does, IsAlikeBut, Unnamed}
use Rattle.deeds.specs.Repeatable.{journal_file, journal_name, journal_spelled, new_file, new_name, new_spelled}
use Rattle.deeds.proofs.Again.{stays}
use Rattle.deeds.proofs.Doing.{same_run}
use Rattle.clear_tree.specs.Walk.{Path, same_path, Sealing, Node, File, Link, Dir, node_at, claimed}
use Rattle.clear_tree.specs.Places.{folders_of, host_two, host_folder, host_entry, host_inner, text_contents, text_d, text_dir, text_symlink}
use Rattle.clear_tree.specs.Kept.{what_of, file_path}
use Rattle.clear_tree.proofs.Paths.{path_cases, same_path-itself}
use Rattle.tree_deed_laws.specs.Trees.{Tree, IsTreeOf, with_node, without_node, with_name}
use Rattle.tree_deed_laws.specs.Changes.{IsNew, IsHeldByNone, Leads}
use Rattle.tree_deed_laws.specs.Deeds.{entry_text, place_of, make_node, create_file_deeds, create_dir_deeds, remove_deeds, rename_deeds}
use Rattle.tree_deed_laws.proofs.Beside.{stays_beside}
use Rattle.tree_deed_laws.proofs.Creates.{creates_file, creates_directory}
use Rattle.tree_deed_laws.proofs.Exact.{parent_there}
use Rattle.tree_deed_laws.proofs.Maps.{get_with}
use Rattle.tree_deed_laws.proofs.Places.{free_places, free_identifier}
use Rattle.tree_deed_laws.proofs.Removes.{removes_file, removes_link, removes_directory}
use Rattle.tree_deed_laws.proofs.Renames.{renames_file, renames_link, renames_directory}
use Rattle.tree_deed_laws.proofs.Seeing.{entry_part, nothing}
use Rattle.live_tree_laws.specs.Writing.{with_file}
use Rattle.live_tree_laws.proofs.Rewriting.{contents_change}
use Rattle.live_tree_laws.specs.Strays.{known_file, IsOfTree, IsPairFolder, IsStray, KeepsStrays}
use Rattle.live_tree_laws.specs.StrayLaws.{CreatedFileKeeps, CreatedDirectoryKeeps, RemovedFileKeeps, RemovedLinkKeeps, RemovedDirectoryKeeps, RenamedFileKeeps, RenamedLinkKeeps, RenamedDirectoryKeeps, RewrittenFileKeeps, KeptBesideJournal}
use Rattle.live_tree_laws.proofs.StrayTrees.{keeps}
use Rattle.live_tree_laws.proofs.Unnamed.{IsOff, off_by, none_at, created, filled, removed, removed_file, removed_directory, renamed, renamed_file}
use Rattle.live_tree_laws.proofs.Gone.{removed_gone, removed_file_gone, removed_directory_gone, renamed_gone, renamed_file_gone}
use Rattle.live_tree_laws.proofs.Nodes.{less_from, less_to, more_from, more_it, more_to, moved_from, moved_it, moved_to, paths_alike}

-- a new place has nothing
new_entry : (s : Sealing) (d : Disk) (tree : Tree) (p : Path) (i n : List ℕ) (long : Bool) (drawn : Option (List ℕ)) → IsNew s d tree p i n long drawn
    → get d (host_entry (s.folder_of i) (entry_text s long (s.seal i n))) ≡ None
new_entry s d tree p i n false drawn new = sym (entry_part s d (s.folder_of i) (s.seal i n) (new.place.part refl)) ∙ (free_places s d new.place.claims i n drawn new.place.untaken).0
new_entry s d tree p i n true drawn new = (free_places s d new.place.claims i n drawn new.place.untaken).1

-- so something that is elsewhere is off it
module _ (s : Sealing) (d : Disk) (host : IsTree d) (path : HostPath) (there : get d path ≢ None) where
  off_new : (long : Bool) (F E known : List ℕ) → get d (host_entry F E) ≡ None → IsOff path long F E known
  off_new long F E known none = off_by path long F E known (λ at. there (none_at d host path long F E known none at))

-- and so is what is none of the tree's off each node
off_node : (s : Sealing) (tree : Tree) (p : Path) (i n : List ℕ) (x : Node) (path : HostPath) → get tree.nodes p ≡ Some (Dir i) → get tree.nodes (n ∷ p) ≡ Some x → (IsOfTree s tree path → ⊥)
    → IsOff path (tree.long (n ∷ p)) (s.folder_of i) (entry_text s (tree.long (n ∷ p)) (s.seal i n)) (known_file x)
off_node s tree p i n x path parent there none = off_by path (tree.long (n ∷ p)) (s.folder_of i) (entry_text s (tree.long (n ∷ p)) (s.seal i n)) (known_file x)
    (λ at. none (inl (record { above = p; identifier = i; name = n; node = x; parent = parent; there = there; is = at })))

-- ---- creations

pub created_file_keeps : CreatedFileKeeps
created_file_keeps s d after tree p i n header long texts is new does =
    keeps s d after tree (with_node tree (n ∷ p) (File header) long) is (subst (λ (x : Disk). IsTreeOf s x (with_node tree (n ∷ p) (File header) long)) same leads.clear)
    (λ path apart there. stays (create_file_deeds (place_of s i n long) (s.seal i n) header) d after path does (created path (s.folder_of i) (entry_text s long (s.seal i n)) long (s.seal i n) header (off_new s d is.host path there long _ _ text_contents free)))
    (more_from s d tree p i n (File header) long is new.parent new.free free (λ t e. cc))
    (λ path of. inl (more_to s d tree p i n (File header) long is new.parent new.free free (λ t e. cc) path of))
    (λ path apart none. inl (stays (create_file_deeds (place_of s i n long) (s.seal i n) header) d after path does
    (created path (s.folder_of i) (entry_text s long (s.seal i n)) long (s.seal i n) header
    (off_by path long _ _ text_contents (λ at. none (more_it s d tree p i n (File header) long is new.parent new.free free (λ t e. cc) path at))))))
  where
    leads : Leads s d (create_file_deeds (place_of s i n long) (s.seal i n) header) (with_node tree (n ∷ p) (File header) long)
    leads = creates_file s d tree p i n header long texts is new

    same : leads.after ≡ after
    same = same_run (create_file_deeds (place_of s i n long) (s.seal i n) header) d leads.after after leads.does does

    free : get d (host_entry (s.folder_of i) (entry_text s long (s.seal i n))) ≡ None
    free = new_entry s d tree p i n long None new

-- making a folder leaves what is there, but for a file in its place
makes_around : (d after : Disk) (q path : HostPath) → ((b : List ℕ) → get d q ≢ Some (Bytes b)) → Does (MakesDir q) d after → get d path ≢ None → get after path ≡ get d path
makes_around d after q path no_file (inl done) there = absurd done.0
makes_around d after q path no_file (inr (can, is)) there = ap (λ (x : Disk). get x path) is ∙ by_path path q (λ e. set_here d q (Some Folder) path e ∙ sym (folder (get d path) refl e)) (λ ne. set_there d q (Some Folder) path ne)
  where
    folder : (o : Option Thing) → get d path ≡ o → path ≡ q → get d path ≡ Some Folder
    folder None h e = absurd (there h)
    folder (Some Folder) h e = h
    folder (Some (Bytes b)) h e = absurd (no_file b (ap (get d) (sym e) ∙ h))

makes_or_not : (d after : Disk) (q path : HostPath) → Does (MakesDir q) d after → (get after path ≡ get d path) ⊎ ((path ≡ q) × (get after path ≡ Some Folder))
makes_or_not d after q path (inl done) = absurd done.0
makes_or_not d after q path (inr (can, is)) =
    by_path path q (λ e. inr (e, ap (λ (x : Disk). get x path) is ∙ set_here d q (Some Folder) path e)) (λ ne. inl (ap (λ (x : Disk). get x path) is ∙ set_there d q (Some Folder) path ne))

pub created_directory_keeps : CreatedDirectoryKeeps
created_directory_keeps s d after tree p i n t long texts is new valid does =
    keeps s d after tree (with_node tree (n ∷ p) (Dir t) long) is (subst (λ (x : Disk). IsTreeOf s x (with_node tree (n ∷ p) (Dir t) long)) same leads.clear)
    (λ path apart there. around path there)
    (more_from s d tree p i n (Dir t) long is new.parent new.free free own)
    (λ path of. inl (more_to s d tree p i n (Dir t) long is new.parent new.free free own path of))
    (λ path apart none. made path none)
  where
    leads : Leads s d (create_dir_deeds (place_of s i n long) (s.seal i n) (s.folder_of t) t) (with_node tree (n ∷ p) (Dir t) long)
    leads = creates_directory s d tree p i n t long texts is new valid

    same : leads.after ≡ after
    same = same_run (create_dir_deeds (place_of s i n long) (s.seal i n) (s.folder_of t) t) d leads.after after leads.does does

    free : get d (host_entry (s.folder_of i) (entry_text s long (s.seal i n))) ≡ None
    free = new_entry s d tree p i n long (Some t) new

    identifier : (get d (host_folder (s.folder_of t)) ≡ None) × ((b : List ℕ) → get d (host_two (s.folder_of t)) ≢ Some (Bytes b)) × ((q : Path) → claimed s (node_at s (folders_of s d) is.owner q) ≢ Some (s.folder_of t))
    identifier = free_identifier s d tree is new.place.claims t new.place.claimed (free_places s d new.place.claims i n (Some t) new.place.untaken).2

    own : (u : List ℕ) → ◌≡◌ {A = Node} (Dir t) (Dir u) → get d (host_folder (s.folder_of u)) ≡ None
    own u e = let same_t : t ≡ u = cc in subst (λ (z : List ℕ). get d (host_folder (s.folder_of z)) ≡ None) same_t identifier.0

    -- what the deeds after the first one leave of what is none of the new node's
    rest : (path : HostPath) → path ≢ host_folder (s.folder_of t) → IsOff path long (s.folder_of i) (entry_text s long (s.seal i n)) text_dir → get after path ≡ get does.0 path
    rest path apart off =
        stays (MakesDir (host_folder (s.folder_of t)) ∷ (make_node long (s.folder_of i) (entry_text s long (s.seal i n)) (s.seal i n) ++ Puts (host_inner (s.folder_of i) (entry_text s long (s.seal i n)) text_dir) t ∷ [])) does.0 after path does.2
        ((apart, tt), filled path (s.folder_of i) (entry_text s long (s.seal i n)) long (s.seal i n) t off)

    around : (path : HostPath) → get d path ≢ None → get after path ≡ get d path
    around path there =
        rest path (λ e. there (ap (get d) e ∙ identifier.0)) (off_new s d is.host path there long _ _ text_dir free)
        ∙ makes_around d does.0 (host_two (s.folder_of t)) path identifier.1 does.1 there

    made : (path : HostPath) → (IsOfTree s (with_node tree (n ∷ p) (Dir t) long) path → ⊥) → (get after path ≡ get d path) ⊎ IsPairFolder after path
    made path none = by_first (makes_or_not d does.0 (host_two (s.folder_of t)) path does.1)
      where
        later : get after path ≡ get does.0 path
        later = rest path
            (λ e. none (inr (record { at = n ∷ p; identifier = t; there = get_with tree.nodes (n ∷ p) (Dir t) (n ∷ p) ∙ cond-true (same_path (n ∷ p) (n ∷ p)) _ _ (same_path-itself (n ∷ p)); is = inl e })))
            (off_by path long _ _ text_dir (λ at. none (more_it s d tree p i n (Dir t) long is new.parent new.free free own path at)))

        by_first : (get does.0 path ≡ get d path) ⊎ ((path ≡ host_two (s.folder_of t)) × (get does.0 path ≡ Some Folder)) → (get after path ≡ get d path) ⊎ IsPairFolder after path
        by_first (inl same) = inl (later ∙ same)
        by_first (inr pair) = inr (record { pair = take 2 (s.folder_of t); is = pair.0; there = later ∙ pair.1 })

-- ---- removals

-- in no file and no link is a node
leaf : (s : Sealing) (d : Disk) (tree : Tree) → IsTreeOf s d tree → (q : Path) (x : Node) → get tree.nodes q ≡ Some x → ((t : List ℕ) → x ≢ Dir t) → (m : List ℕ) → get tree.nodes (m ∷ q) ≡ None
leaf s d tree is q x there no_directory m = nothing (get tree.nodes (m ∷ q)) (λ y e.
    let above = parent_there s (folders_of s d) is.owner q m y (sym (is.exact (m ∷ q)) ∙ e) in
    let w : ◌≡◌ {A = Option Node} (Some x) (Some (Dir above.0)) = sym there ∙ is.exact q ∙ above.1 in
    let same : x ≡ Dir above.0 = cc in
    no_directory above.0 same)

module _ (s : Sealing) (d after : Disk) (tree : Tree) (p : Path) (i n : List ℕ) (x : Node) (is : IsTreeOf s d tree) (held : IsHeldByNone tree p i n x) (childless : (m : List ℕ) → get tree.nodes (m ∷ n ∷ p) ≡ None)
    (deeds : List PlainDeed) (leads : Leads s d deeds (without_node tree (n ∷ p))) (does : DoesAll deeds d after) (unnamed : (path : HostPath) → (IsOfTree s tree path → ⊥) → Unnamed path deeds)
    (gone : get after (host_entry (s.folder_of i) (entry_text s (tree.long (n ∷ p)) (s.seal i n))) ≡ None) (own : (t : List ℕ) → x ≡ Dir t → get after (host_folder (s.folder_of t)) ≡ None) where
  fewer_tree : IsTreeOf s after (without_node tree (n ∷ p))
  fewer_tree = subst (λ (x : Disk). IsTreeOf s x (without_node tree (n ∷ p))) (same_run deeds d leads.after after leads.does does) leads.clear

  pub removal_keeps : KeepsStrays s d after
  removal_keeps =
      keeps s d after tree (without_node tree (n ∷ p)) is fewer_tree
      (λ path apart there. stays deeds d after path does (unnamed path apart)) (λ path of. inl (less_from s tree p n path of))
      (less_to s after tree p i n x fewer_tree.host held.parent held.there childless gone own) (λ path apart none. inl (stays deeds d after path does (unnamed path apart)))

pub removed_file_keeps : RemovedFileKeeps
removed_file_keeps s d after tree p i n b texts is held does =
    removal_keeps s d after tree p i n (File b) is held (leaf s d tree is (n ∷ p) (File b) held.there (λ t e. cc)) (remove_deeds (place_of s i n (tree.long (n ∷ p))) (what_of s (File b))) (removes_file s d tree p i n b texts is held) does
    (λ path apart. removed_file path (s.folder_of i) _ (tree.long (n ∷ p)) (off_node s tree p i n (File b) path held.parent held.there apart))
    (removed_file_gone d after (s.folder_of i) _ (tree.long (n ∷ p)) does) (λ t e. cc)

pub removed_link_keeps : RemovedLinkKeeps
removed_link_keeps s d after tree p i n b texts is held does =
    removal_keeps s d after tree p i n (Link b) is held (leaf s d tree is (n ∷ p) (Link b) held.there (λ t e. cc)) (remove_deeds (place_of s i n (tree.long (n ∷ p))) (what_of s (Link b))) (removes_link s d tree p i n b texts is held) does
    (λ path apart. removed path (s.folder_of i) _ (tree.long (n ∷ p)) text_symlink (off_node s tree p i n (Link b) path held.parent held.there apart))
    (removed_gone d after (s.folder_of i) _ (tree.long (n ∷ p)) text_symlink does) (λ t e. cc)

pub removed_directory_keeps : RemovedDirectoryKeeps
removed_directory_keeps s d after tree p i n t texts is held empty does =
    removal_keeps s d after tree p i n (Dir t) is held empty.no_child (remove_deeds (place_of s i n (tree.long (n ∷ p))) (what_of s (Dir t))) (removes_directory s d tree p i n t texts is held empty) does
    (λ path apart. removed_directory path (s.folder_of i) _ (tree.long (n ∷ p)) (s.folder_of t) (off_node s tree p i n (Dir t) path held.parent held.there apart)
    (λ e. apart (inr (record { at = n ∷ p; identifier = t; there = held.there; is = inl e })))
    (λ e. apart (inr (record { at = n ∷ p; identifier = t; there = held.there; is = inr (inl e) }))))
    both.0 (λ u e. let same : t ≡ u = cc in subst (λ (z : List ℕ). get after (host_folder (s.folder_of z)) ≡ None) same both.1)
  where
    both : (get after (host_entry (s.folder_of i) (entry_text s (tree.long (n ∷ p)) (s.seal i n))) ≡ None) × (get after (host_folder (s.folder_of t)) ≡ None)
    both = removed_directory_gone d after (s.folder_of i) _ (s.folder_of t) (tree.long (n ∷ p)) does

-- ---- renames

module _ (s : Sealing) (d after : Disk) (tree : Tree) (p : Path) (i n k : List ℕ) (x : Node) (long : Bool) (is : IsTreeOf s d tree) (held : IsHeldByNone tree p i n x) (new : IsNew s d tree p i k long None)
    (deeds : List PlainDeed) (leads : Leads s d deeds (with_name tree (n ∷ p) (k ∷ p) long)) (does : DoesAll deeds d after)
    (unnamed : (path : HostPath) → IsOff path (tree.long (n ∷ p)) (s.folder_of i) (entry_text s (tree.long (n ∷ p)) (s.seal i n)) (known_file x)
    → IsOff path long (s.folder_of i) (entry_text s long (s.seal i k)) (known_file x) → Unnamed path deeds)
    (gone : IsTree d → get d (host_entry (s.folder_of i) (entry_text s long (s.seal i k))) ≡ None → get after (host_entry (s.folder_of i) (entry_text s (tree.long (n ∷ p)) (s.seal i n))) ≡ None) where
  renamed_tree : IsTreeOf s after (with_name tree (n ∷ p) (k ∷ p) long)
  renamed_tree = subst (λ (z : Disk). IsTreeOf s z (with_name tree (n ∷ p) (k ∷ p) long)) (same_run deeds d leads.after after leads.does does) leads.clear

  pub rename_keeps : KeepsStrays s d after
  rename_keeps =
      keeps s d after tree (with_name tree (n ∷ p) (k ∷ p) long) is renamed_tree
      (λ path apart there. stays deeds d after path does (unnamed path (off_node s tree p i n x path held.parent held.there apart) (off_new s d is.host path there long _ _ (known_file x) free)))
      (moved_from s d tree p i n k long is names_apart held.parent new.free free)
      (moved_to s d tree p i n k long is names_apart held.parent new.free free after renamed_tree.host (gone is.host free))
      (λ path apart none. inl (stays deeds d after path does (unnamed path (off_node s tree p i n x path held.parent held.there apart)
      (off_by path long _ _ (known_file x) (λ at. none (moved_it s d tree p i n k long is names_apart held.parent new.free free x held.there path at))))))
    where
      free : get d (host_entry (s.folder_of i) (entry_text s long (s.seal i k))) ≡ None
      free = new_entry s d tree p i k long None new

      names_apart : n ≢ k
      names_apart e = let w : ◌≡◌ {A = Option Node} (Some x) None = sym held.there ∙ ap (λ (z : List ℕ). get tree.nodes (z ∷ p)) e ∙ new.free in cc

pub renamed_file_keeps : RenamedFileKeeps
renamed_file_keeps s d after tree p i n k b long texts is held new does =
    rename_keeps s d after tree p i n k (File b) long is held new (rename_deeds (place_of s i n (tree.long (n ∷ p))) (place_of s i k long) (s.seal i k) (what_of s (File b)))
    (renames_file s d tree p i n k b long texts is held new) does
    (λ path off off'. renamed_file path (s.folder_of i) _ _ (s.seal i k) (tree.long (n ∷ p)) long off off')
    (λ host free. renamed_file_gone d after (s.folder_of i) _ _ (s.seal i k) (tree.long (n ∷ p)) long host free does)

pub renamed_link_keeps : RenamedLinkKeeps
renamed_link_keeps s d after tree p i n k b long texts is held new does =
    rename_keeps s d after tree p i n k (Link b) long is held new (rename_deeds (place_of s i n (tree.long (n ∷ p))) (place_of s i k long) (s.seal i k) (what_of s (Link b)))
    (renames_link s d tree p i n k b long texts is held new) does
    (λ path off off'. renamed path (s.folder_of i) _ _ (s.seal i k) (tree.long (n ∷ p)) long text_symlink off off')
    (λ host free. renamed_gone d after (s.folder_of i) _ _ (s.seal i k) (tree.long (n ∷ p)) long text_symlink does)

pub renamed_directory_keeps : RenamedDirectoryKeeps
renamed_directory_keeps s d after tree p i n k t long texts is held new once does =
    rename_keeps s d after tree p i n k (Dir t) long is held new (rename_deeds (place_of s i n (tree.long (n ∷ p))) (place_of s i k long) (s.seal i k) (what_of s (Dir t)))
    (renames_directory s d tree p i n k t long texts is held new once) does
    (λ path off off'. renamed path (s.folder_of i) _ _ (s.seal i k) (tree.long (n ∷ p)) long text_dir off off')
    (λ host free. renamed_gone d after (s.folder_of i) _ _ (s.seal i k) (tree.long (n ∷ p)) long text_dir does)

-- ---- contents

module _ (s : Sealing) (tree : Tree) (p : Path) (n old bytes : List ℕ) (there : get tree.nodes (n ∷ p) ≡ Some (File old)) where
  abbrev written : Tree
  written = with_file tree (n ∷ p) bytes

  -- a node of the tree that is written is one before, of the same paths
  node_before : (q : Path) (y : Node) → get written.nodes q ≡ Some y → (x : Node) × (get tree.nodes q ≡ Some x) × (known_file x ≡ known_file y) × ((t : List ℕ) → y ≡ Dir t → x ≡ Dir t)
  node_before q y e = by_cases (path_cases (n ∷ p) q)
    where
      by_cases : ((same_path (n ∷ p) q ≡ true) × (n ∷ p ≡ q)) ⊎ ((same_path (n ∷ p) q ≡ false) × (n ∷ p ≢ q)) → (x : Node) × (get tree.nodes q ≡ Some x) × (known_file x ≡ known_file y) × ((t : List ℕ) → y ≡ Dir t → x ≡ Dir t)
      by_cases (inl same) =
          let w : ◌≡◌ {A = Option Node} (Some (File bytes)) (Some y) = sym (get_with tree.nodes (n ∷ p) (File bytes) q ∙ cond-true (same_path (n ∷ p) q) _ _ same.0) ∙ e in
          let y_is : File bytes ≡ y = cc in
          (File old, ap (get tree.nodes) (sym same.1) ∙ there, ap known_file y_is, (λ t f. let g : File bytes ≡ Dir t = y_is ∙ f in absurd cc))
      by_cases (inr apart) = (y, sym (get_with tree.nodes (n ∷ p) (File bytes) q ∙ cond-false (same_path (n ∷ p) q) _ _ apart.0) ∙ e, refl, (λ t f. f))

  -- and the other way round
  node_after : (q : Path) (y : Node) → get tree.nodes q ≡ Some y → (x : Node) × (get written.nodes q ≡ Some x) × (known_file x ≡ known_file y) × ((t : List ℕ) → y ≡ Dir t → x ≡ Dir t)
  node_after q y e = by_cases (path_cases (n ∷ p) q)
    where
      by_cases : ((same_path (n ∷ p) q ≡ true) × (n ∷ p ≡ q)) ⊎ ((same_path (n ∷ p) q ≡ false) × (n ∷ p ≢ q)) → (x : Node) × (get written.nodes q ≡ Some x) × (known_file x ≡ known_file y) × ((t : List ℕ) → y ≡ Dir t → x ≡ Dir t)
      by_cases (inl same) =
          let w : ◌≡◌ {A = Option Node} (Some (File old)) (Some y) = sym there ∙ ap (get tree.nodes) same.1 ∙ e in
          let y_is : File old ≡ y = cc in
          (File bytes, get_with tree.nodes (n ∷ p) (File bytes) q ∙ cond-true (same_path (n ∷ p) q) _ _ same.0, ap known_file y_is, (λ t f. let g : File old ≡ Dir t = y_is ∙ f in absurd cc))
      by_cases (inr apart) = (y, get_with tree.nodes (n ∷ p) (File bytes) q ∙ cond-false (same_path (n ∷ p) q) _ _ apart.0 ∙ e, refl, (λ t f. f))

pub rewritten_file_keeps : RewrittenFileKeeps
rewritten_file_keeps s d after tree p i n old bytes is parent there rewritten =
    keeps s d after tree (with_file tree (n ∷ p) bytes) is (contents_change s d after tree p i n old bytes is parent there rewritten)
    (λ path apart stood. others path apart)
    (λ path of. inl (paths_alike s (with_file tree (n ∷ p) bytes) tree (λ q. refl) (node_before s tree p n old bytes there) path of))
    (λ path of. inl (paths_alike s tree (with_file tree (n ∷ p) bytes) (λ q. refl) (node_after s tree p n old bytes there) path of))
    (λ path apart none. inl (others path apart))
  where
    off_file : (path : HostPath) (long : Bool) (F E : List ℕ) → IsOff path long F E text_contents → path ≢ file_path long F E
    off_file path false F E off = off.entry
    off_file path true F E off = off.inner

    others : (path : HostPath) → (IsOfTree s tree path → ⊥) → get after path ≡ get d path
    others path apart = rewritten.others path (off_file path (tree.long (n ∷ p)) (s.folder_of i) _ (off_node s tree p i n (File old) path parent there apart))

-- ---- beside the journal

-- the journal's two files aren't in the vault's folder
not_journal : (rest : HostPath) → text_d ∷ rest ≢ journal_file
not_journal rest e = let name : text_d ≡ journal_name = cc in let w : ◌≡◌ {A = ℕ} 1 14 = ap length (name ∙ journal_spelled) in cc

not_new : (rest : HostPath) → text_d ∷ rest ≢ new_file
not_new rest e = let name : text_d ≡ new_name = cc in let w : ◌≡◌ {A = ℕ} 1 18 = ap length (name ∙ new_spelled) in cc

beside_journal : (s : Sealing) (d after : Disk) → IsTree d → IsAlikeBut journal_file new_file d after → (path : HostPath) → IsStray s d path → IsStray s after path × (thing_at after path ≡ thing_at d path)
beside_journal s d after host alike path stray = (
  record {
    rest = stray.rest;
    inside = stray.inside;
    there = λ e. stray.there (sym same ∙ e);
    apart = λ tree of its. stray.apart tree (stays_beside s after d tree of host (λ q no_journal no_new. sym (alike q no_journal no_new))) its;
  },
  same,
)
  where
    same : get after path ≡ get d path
    same = alike path (λ e. not_journal stray.rest (sym stray.inside ∙ e)) (λ e. not_new stray.rest (sym stray.inside ∙ e))

pub kept_beside_journal : KeptBesideJournal
kept_beside_journal s d after host host' alike = record {
  kept = beside_journal s d after host alike;
  found = λ path stray. inl (beside_journal s after d host' (λ q no_journal no_new. sym (alike q no_journal no_new)) path stray).0;
}
