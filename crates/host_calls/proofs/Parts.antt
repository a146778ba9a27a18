-- What a step more leaves of a disk is a part of the change that took it.
use Rattle.std.proofs.Common.{◌≡◌, ◌≢◌, ◌⊎◌, ◌≤◌, ℕ, true, false, List, [], ◌∷◌, ◌++◌, length, take, Option, Some, None, IsNone, IsSome, option_map, unwrap_or, refl, sym, ap, subst, ◌∙◌, inl, inr, ⊎_elim, arith}
use Rattle.std.specs.Cmp.{IsTotalOrder}
use Rattle.std.specs.FinMap as map
use Rattle.outside.specs.Disk.{Disk, Path, Node, folder, file, node_at, parent, IsFolder, IsFile, IsTree, CanMakeDir, CanPut}
use Rattle.outside.specs.Changes.{Change, MakeDir, Put, Write, SetLen, Move, RemoveFile, RemoveDir, set_at, done, CanDo, CanMove, IsBare, IsFree, IsPartOf, MayStand, IsTorn, IsTornPut, IsCut, overwritten, in_file, bytes_or_none}
use Rattle.outside.proofs.Trees.{tree_done}
use Rattle.host_calls.specs.declared.found.Inode.{Inode}
use Rattle.host_calls.specs.Volume.{Names, Contents, Volume, Entry, Folder, File, entry_at, bytes_in, node_of, inode_cmp, each_value, disk_of}
use Rattle.host_calls.specs.Names.{NameStep, MadeFolder, MadeFile, Moved, Dropped, HasFolder, HasFile, CanMake, CanMoveTo, IsEmptyFolder, named, after_step}
use Rattle.host_calls.specs.Bytes.{Filed}
use Rattle.host_calls.specs.Story.{Files, bytes_of}
use Rattle.host_calls.proofs.Volumes.{inodes_total, inodes_apart, by_inode, filed_here, filed_there, get_each, node_in, folder_in, file_in, none_in, folder_from, file_from, none_from, disk_named, disk_moved, disk_written, unseen, bytes_here, bytes_there, gone_there}

-- none of a change, or a part of it that leaves a tree a tree
pub record Goes (change : Change) (old new : Disk) : Type 0 where
  pub part : IsPartOf change old new
  pub tree : IsTree old → IsTree new

pub goes_nowhere : (change : Change) (old new : Disk) → new ≡ old → Goes change old new
goes_nowhere change old new same = record { part = inl same; tree = λ tree. subst IsTree (sym same) tree }

-- ---- when a change can be made, by names and by paths

pub can_make_dir : (v : Volume) (p : Path) → CanMake v.names p → CanMakeDir (disk_of v) p
can_make_dir v p can = record { inside = folder_in v (parent p) can.inside; free = inl (subst IsNone (sym (none_in v p can.free)) refl) }

pub can_put_new : (v : Volume) (p : Path) → CanMake v.names p → CanPut (disk_of v) p
can_put_new v p can = record { inside = folder_in v (parent p) can.inside; free = inl (subst IsNone (sym (none_in v p can.free)) refl) }

free_in : (v : Volume) (p : Path) → (entry_at v.names p ≡ None) ⊎ HasFile v.names p → IsFree (node_at (disk_of v) p)
free_in v p (inl none) = inl (none_in v p none)
free_in v p (inr f) = inr (bytes_in v.contents f.0, file_in v p f.0 f.1)

pub can_move : (v : Volume) (from to : Path) → CanMoveTo v.names from to → CanMove (disk_of v) from to
can_move v from to can = record {
  there = (bytes_in v.contents can.there.0, file_in v from can.there.0 can.there.1);
  inside = folder_in v (parent to) can.inside;
  free = free_in v to can.free;
}

pub is_bare : (v : Volume) (p : Path) → IsEmptyFolder v.names p → IsBare (disk_of v) p
is_bare v p empty = record {
  below = empty.below;
  there = folder_in v p empty.there;
  no_child = λ name. none_in v (p ++ name ∷ []) (empty.no_child name);
}

-- ---- names

pub goes_made_folder : (v : Volume) (p : Path) → CanMake v.names p → Goes (MakeDir p) (disk_of v) (disk_of (record { names = after_step (MadeFolder p) v.names; contents = v.contents }))
goes_made_folder v p can =
    let is = disk_named v.names v.contents p (Some Folder) in
    record { part = inr (inr (Some folder, refl, is)); tree = λ tree. subst IsTree (sym is) (tree_done (MakeDir p) (disk_of v) tree (can_make_dir v p can)) }

pub goes_moved : (v : Volume) (from to : Path) → CanMoveTo v.names from to → Goes (Move from to) (disk_of v) (disk_of (record { names = after_step (Moved from to) v.names; contents = v.contents }))
goes_moved v from to can =
    let is = disk_moved v.names v.contents from to in
    let move = can_move v from to can in
    record { part = inr (inl (move.there, move.free, is)); tree = λ tree. subst IsTree (sym is) (tree_done (Move from to) (disk_of v) tree move) }

tree_dropped : (v : Volume) (p : Path) → HasFile v.names p ⊎ IsEmptyFolder v.names p → IsTree (disk_of v) → IsTree (set_at (disk_of v) p None)
tree_dropped v p (inl f) tree = tree_done (RemoveFile p) (disk_of v) tree (inr (bytes_in v.contents f.0, file_in v p f.0 f.1))
tree_dropped v p (inr empty) tree = tree_done (RemoveDir p) (disk_of v) tree (inr (is_bare v p empty))

pub goes_removed_file : (v : Volume) (p : Path) → HasFile v.names p ⊎ IsEmptyFolder v.names p → Goes (RemoveFile p) (disk_of v) (disk_of (record { names = after_step (Dropped p) v.names; contents = v.contents }))
goes_removed_file v p can =
    let is = disk_named v.names v.contents p None in
    record { part = inr (inr (None, refl, is)); tree = λ tree. subst IsTree (sym is) (tree_dropped v p can tree) }

pub goes_removed_dir : (v : Volume) (p : Path) → HasFile v.names p ⊎ IsEmptyFolder v.names p → Goes (RemoveDir p) (disk_of v) (disk_of (record { names = after_step (Dropped p) v.names; contents = v.contents }))
goes_removed_dir v p can =
    let is = disk_named v.names v.contents p None in
    record { part = inr (inr (None, refl, is)); tree = λ tree. subst IsTree (sym is) (tree_dropped v p can tree) }

-- ---- a new file

-- without the bytes of a file that has no name
pub without_bytes : (names : Names) (c : Contents) (i : Inode) → ((p : Path) → entry_at names p ≢ Some (File i)) → disk_of (record { names = names; contents = map.remove c i }) ≡ disk_of (record { names = names; contents = c })
without_bytes names c i new = unseen names (map.remove c i) c (λ p j is.
    ap (λ (o : Option (List ℕ)). unwrap_or o []) (gone_there c i j (λ e. new p (is ∙ ap (λ (k : Inode). Some (File k)) e))))

pub goes_created : (names : Names) (c : Contents) (p : Path) (i : Inode) (bytes held : List ℕ) → CanMake names p → ((q : Path) → entry_at names q ≢ Some (File i)) → map.get c i ≡ Some held → length held ≤ length bytes
    → Goes (Put p bytes) (disk_of (record { names = names; contents = map.remove c i })) (disk_of (record { names = after_step (MadeFile p i) names; contents = c }))
goes_created names c p i bytes held can new there few =
    let old : Volume = record { names = names; contents = map.remove c i } in
    let e : unwrap_or (map.get c i) [] ≡ held = ap (λ (o : Option (List ℕ)). unwrap_or o []) there in
    let is : disk_of (record { names = after_step (MadeFile p i) names; contents = c }) ≡ set_at (disk_of old) p (Some (file held)) =
    disk_named names c p (Some (File i))
    ∙ ap (λ (bs : List ℕ). set_at (disk_of (record { names = names; contents = c })) p (Some (file bs))) e
    ∙ ap (λ (d : Disk). set_at d p (Some (file held))) (sym (without_bytes names c i new)) in
    record {
      part = inr (inr (Some (file held), (held, refl, torn old), is));
      tree = λ tree. subst IsTree (sym is) (tree_done (Put p held) (disk_of old) tree (can_put_new old p can));
    }
  where
    torn : (old : Volume) → IsTornPut (length bytes) (bytes_or_none (node_at (disk_of old) p)) held
    torn old = omega arith

-- ---- bytes

-- a file whose bytes are others now
pub record IsExchanged (d : Disk) (p : Path) (before held : List ℕ) (new : Disk) : Type 0 where
  pub there : node_at d p ≡ Some (file before)
  pub is : new ≡ set_at d p (Some (file held))

tree_exchanged : (d : Disk) (p : Path) (before held : List ℕ) (new : Disk) → IsExchanged d p before held new → IsTree d → IsTree new
tree_exchanged d p before held new x tree = subst IsTree (sym x.is) (tree_done (Put p held) d tree (record {
  inside = tree.parents p (subst IsSome (sym x.there) refl);
  free = inr (before, x.there);
}))

pub goes_put : (d : Disk) (p : Path) (bytes before held : List ℕ) (new : Disk) → IsTornPut (length bytes) before held → IsExchanged d p before held new → Goes (Put p bytes) d new
goes_put d p bytes before held new torn x = record {
  part = inr (inr (Some (file held), (held, refl, subst (λ (o : Option Node). IsTornPut (length bytes) (bytes_or_none o) held) (sym x.there) torn), x.is));
  tree = tree_exchanged d p before held new x;
}

pub goes_write : (d : Disk) (p : Path) (at : ℕ) (bytes before held : List ℕ) (new : Disk) → IsTorn at (length bytes) before held → IsExchanged d p before held new → Goes (Write p at bytes) d new
goes_write d p at bytes before held new torn x = record {
  part = inr (inr (Some (file held), (before, held, x.there, refl, torn), x.is));
  tree = tree_exchanged d p before held new x;
}

pub goes_cut : (d : Disk) (p : Path) (n : ℕ) (before held : List ℕ) (new : Disk) → IsCut n before held → IsExchanged d p before held new → Goes (SetLen p n) d new
goes_cut d p n before held new cut x = record {
  part = inr (inr (Some (file held), (before, held, x.there, refl, cut), x.is));
  tree = tree_exchanged d p before held new x;
}

-- what bytes held in place of others make of a change at the path
abbrev pub IsHeldBy : Change → List ℕ → List ℕ → Type 0
IsHeldBy (Put p bytes) before held = IsTornPut (length bytes) before held
IsHeldBy (Write p at bytes) before held = (held ≡ before) ⊎ IsTorn at (length bytes) before held
IsHeldBy (SetLen p n) before held = (held ≡ before) ⊎ IsCut n before held
IsHeldBy other before held = ⊥

-- the path of a change of a file's bytes
abbrev pub IsBytesAt : Change → Path → Type 0
IsBytesAt (Put p bytes) q = p ≡ q
IsBytesAt (Write p at bytes) q = p ≡ q
IsBytesAt (SetLen p n) q = p ≡ q
IsBytesAt other q = ⊥

same_bytes : (names : Names) (c : Contents) (i : Inode) (before held : List ℕ) → held ≡ before
    → disk_of (record { names = names; contents = map.insert (map.insert c i before) i held }) ≡ disk_of (record { names = names; contents = map.insert c i before })
same_bytes names c i before held same = unseen names (map.insert (map.insert c i before) i held) (map.insert c i before) (λ p j is. by_inode j i
    (λ e. ap (bytes_in (map.insert (map.insert c i before) i held)) e ∙ bytes_here (map.insert c i before) i held ∙ same ∙ sym (ap (bytes_in (map.insert c i before)) e ∙ bytes_here c i before))
    (λ ne. bytes_there (map.insert c i before) i held j ne))

-- if the file has no name, no byte is seen
unnamed_bytes : (names : Names) (c : Contents) (i : Inode) (held : List ℕ) → ((q : Path) → entry_at names q ≢ Some (File i))
    → disk_of (record { names = names; contents = map.insert c i held }) ≡ disk_of (record { names = names; contents = c })
unnamed_bytes names c i held none = unseen names (map.insert c i held) c (λ p j is. bytes_there c i held j (λ e. none p (is ∙ ap (λ (k : Inode). Some (File k)) e)))

file_same : (j k : Inode) → Some (File j) ≡ Some (File k) → j ≡ k
file_same j k h = cc

-- a disk after other bytes of a file, which has a name at this path alone, if any
exchanged_or_not : (names : Names) (c : Contents) (p : Path) (i : Inode) (before held : List ℕ) → ((q : Path) → entry_at names q ≡ Some (File i) → q ≡ p)
    → (disk_of (record { names = names; contents = map.insert (map.insert c i before) i held }) ≡ disk_of (record { names = names; contents = map.insert c i before }))
    ⊎ IsExchanged (disk_of (record { names = names; contents = map.insert c i before })) p before held (disk_of (record { names = names; contents = map.insert (map.insert c i before) i held }))
exchanged_or_not names c p i before held alone = by_entry (entry_at names p) refl
  where
    not_here : (entry_at names p ≢ Some (File i)) → disk_of (record { names = names; contents = map.insert (map.insert c i before) i held }) ≡ disk_of (record { names = names; contents = map.insert c i before })
    not_here ne = unnamed_bytes names (map.insert c i before) i held (λ q is. ne (ap (entry_at names) (sym (alone q is)) ∙ is))

    here : entry_at names p ≡ Some (File i)
        → IsExchanged (disk_of (record { names = names; contents = map.insert c i before })) p before held (disk_of (record { names = names; contents = map.insert (map.insert c i before) i held }))
    here is = record {
      there = file_in (record { names = names; contents = map.insert c i before }) p i is ∙ ap (λ (bytes : List ℕ). Some (file bytes)) (bytes_here c i before);
      is = disk_written names (map.insert c i before) i held p is alone;
    }

    by_entry : (e : Option Entry) → entry_at names p ≡ e
        → (disk_of (record { names = names; contents = map.insert (map.insert c i before) i held }) ≡ disk_of (record { names = names; contents = map.insert c i before }))
        ⊎ IsExchanged (disk_of (record { names = names; contents = map.insert c i before })) p before held (disk_of (record { names = names; contents = map.insert (map.insert c i before) i held }))
    by_entry None is = inl (not_here (λ h. let f : None ≡ Some (File i) = sym is ∙ h in cc))
    by_entry (Some Folder) is = inl (not_here (λ h. let f : Some Folder ≡ Some (File i) = sym is ∙ h in cc))
    by_entry (Some (File j)) is = by_inode j i
        (λ e. inr (here (is ∙ ap (λ (k : Inode). Some (File k)) e)))
        (λ ne. inl (not_here (λ h. ne (file_same j i (sym is ∙ h)))))

-- bytes that are left of a change of a file's bytes are a part of it
pub goes_bytes : (change : Change) (names : Names) (c : Contents) (p : Path) (i : Inode) (before held : List ℕ) → IsBytesAt change p → IsHeldBy change before held → ((q : Path) → entry_at names q ≡ Some (File i) → q ≡ p)
    → Goes change (disk_of (record { names = names; contents = map.insert c i before })) (disk_of (record { names = names; contents = map.insert (map.insert c i before) i held }))
goes_bytes (MakeDir q) names c p i before held at by alone = absurd at
goes_bytes (Move from to) names c p i before held at by alone = absurd at
goes_bytes (RemoveFile q) names c p i before held at by alone = absurd at
goes_bytes (RemoveDir q) names c p i before held at by alone = absurd at
goes_bytes (Put q bytes) names c p i before held at torn alone =
    subst (λ (r : Path). Goes (Put r bytes) (disk_of (record { names = names; contents = map.insert c i before })) (disk_of (record { names = names; contents = map.insert (map.insert c i before) i held }))) (sym at)
    (⊎_elim (goes_nowhere (Put p bytes) _ _) (goes_put _ p bytes before held _ torn) (exchanged_or_not names c p i before held alone))
goes_bytes (Write q n bytes) names c p i before held at (inl same) alone = goes_nowhere (Write q n bytes) _ _ (same_bytes names c i before held same)
goes_bytes (Write q n bytes) names c p i before held at (inr torn) alone =
    subst (λ (r : Path). Goes (Write r n bytes) (disk_of (record { names = names; contents = map.insert c i before })) (disk_of (record { names = names; contents = map.insert (map.insert c i before) i held }))) (sym at)
    (⊎_elim (goes_nowhere (Write p n bytes) _ _) (goes_write _ p n bytes before held _ torn) (exchanged_or_not names c p i before held alone))
goes_bytes (SetLen q n) names c p i before held at (inl same) alone = goes_nowhere (SetLen q n) _ _ (same_bytes names c i before held same)
goes_bytes (SetLen q n) names c p i before held at (inr cut) alone =
    subst (λ (r : Path). Goes (SetLen r n) (disk_of (record { names = names; contents = map.insert c i before })) (disk_of (record { names = names; contents = map.insert (map.insert c i before) i held }))) (sym at)
    (⊎_elim (goes_nowhere (SetLen p n) _ _) (goes_cut _ p n before held _ cut) (exchanged_or_not names c p i before held alone))
