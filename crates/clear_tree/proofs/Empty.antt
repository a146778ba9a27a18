-- A vault of which only the root's folder is there stands for the root alone.
use Rattle.std.proofs.Common.{◌≡◌, ◌≢◌, ℕ, Bool, true, false, cond, List, [], ◌∷◌, length, Option, Some, None, refl, sym, ap, ap₂, ◌∙◌, subst, true≢false, arith}
use Rattle.std.specs.FinMap.{get, insert, empty, entries, len, get-empty, get-insert, entries-insert, len-empty, len-entries}
use Rattle.std.specs.FinMap.Entries.{put}
use Rattle.std.specs.Ordering.{is_gt, is_eq, eq_by_cmp}
use Rattle.std.proofs.lemmas.Bool.{cond-true, cond-false}
use Rattle.std.proofs.lemmas.Cmp.{tied_itself, nat_list_cmp_total, lists_total}
use Rattle.std.specs.declared.cmp.Ordering.{Ordering}
use Rattle.std.specs.declared.cmp.Ordering.TheVariants.{Less, Equal, Greater}
use Rattle.std.specs.FinMap.{slice_cmp-IsAntisymmetric, nat_cmp-IsAntisymmetric}
use Rattle.outside.specs.Disk.{Disk, IsFolder, Node as Thing, folder as Folder, Path as HostPath, path_cmp}
use Rattle.clear_tree.specs.Walk.{Path, Sealing, Node, File, Link, Dir, Bad, is_name, look, node, below, node_at, claimed, walk_cmp}
use Rattle.clear_tree.specs.Places.{folders_of, host_two, host_folder, host_entry, host_inner, text_d, text_name, entry_at, either_kind, short_at, folder_at, long_kind, bytes_of}
use Rattle.clear_tree.specs.Marks.{Marks, HasForeign, IsShadowedIn}
use Rattle.clear_tree.specs.Rows.{Nodes, IsClear, rows_from, rows_of}
use Rattle.clear_tree.specs.Laws.{BareVaultIsClear, EmptyVaultIsClear, root_rows}
use Rattle.clear_tree.proofs.Determined.{walk_total}

-- ---- host paths

apart_false : (q k : HostPath) → q ≢ k → eq_by_cmp path_cmp q k ≡ false
apart_false q k h = go (path_cmp q k) refl
  where
    go : (r : Ordering) → path_cmp q k ≡ r → is_eq (path_cmp q k) ≡ false
    go Less e = ap is_eq e
    go Equal e = absurd (h (slice_cmp-IsAntisymmetric (slice_cmp-IsAntisymmetric nat_cmp-IsAntisymmetric) q k e))
    go Greater e = ap is_eq e

put_there : (d : Disk) (k : HostPath) (x : Thing) → get (insert d k x) k ≡ Some x
put_there d k x = get-insert (lists_total nat_list_cmp_total) d k x k ∙ cond-true (eq_by_cmp path_cmp k k) _ _ (ap is_eq (tied_itself (lists_total nat_list_cmp_total) k))

put_beside : (d : Disk) (k : HostPath) (x : Thing) (q : HostPath) → q ≢ k → get (insert d k x) q ≡ get d q
put_beside d k x q h = get-insert (lists_total nat_list_cmp_total) d k x q ∙ cond-false (eq_by_cmp path_cmp q k) _ _ (apart_false q k h)

-- ---- paths of the tree

root_apart : (m : List ℕ) (q : Path) → eq_by_cmp walk_cmp (m ∷ q) [] ≡ false
root_apart m q = refl

-- ---- the root alone

length_none : {X : Type 0} (xs : List X) → length xs ≡ 0 → xs ≡ []
length_none [] none = refl
length_none (x ∷ xs) none = absurd (omega arith)

abbrev pub root_alone : Nodes
root_alone = insert empty [] (Dir [])

entries_alone : entries root_alone ≡ ([], Dir []) ∷ []
entries_alone =
    entries-insert walk_total (empty {X = Node} {R = walk_cmp}) [] (Dir [])
    ∙ ap (put walk_cmp [] (Dir [])) (length_none (entries (empty {X = Node} {R = walk_cmp})) (sym (len-entries (empty {X = Node} {R = walk_cmp})) ∙ len-empty walk_cmp Node))

len_alone : len root_alone ≡ 1
len_alone = len-entries root_alone ∙ ap (λ (es : List (Path × Node)). length es) entries_alone

rows_alone : (s : Sealing) (now : ℕ) → rows_of s now root_alone (record { foreign = λ p. false; shadowed = λ p. false; twice = false }) ≡ root_rows now
rows_alone s now = λ i. record {
  nodes = rows_from s now (record { foreign = λ p. false; shadowed = λ p. false; twice = false }) (entries_alone i) 0 (entries_alone i);
  next = len_alone i;
  named_twice = false;
}

-- ---- a disk with the root's folder, and nothing below that

module _ (s : Sealing) (d : Disk) (there : IsFolder d (host_folder (s.folder_of []))) (entry_none : (u : List ℕ) → get d (host_entry (s.folder_of []) u) ≡ None)
    (inner_none : (u l : List ℕ) → get d (host_inner (s.folder_of []) u l) ≡ None) where
  abbrev h : List ℕ
  h = s.folder_of []

  no_entry : (u : List ℕ) → entry_at s d h u ≡ None
  no_entry u = go (s.is_part u)
    where
      go : (b : Bool) → cond b (get d (host_entry h u)) None ≡ None
      go true = entry_none u
      go false = refl

  never_seen : (u : List ℕ) → (folders_of s d).seen h u ≡ None
  never_seen u = go (s.is_text u)
    where
      go : (b : Bool) → cond b (either_kind (entry_at s d h u) (short_at d h u) (long_kind u (bytes_of (get d (host_inner h (s.long_of u) text_name))) (folder_at d h (s.long_of u)))) None ≡ None
      go true = ap₂ (λ (w x : Option Thing). either_kind w (short_at d h u) (long_kind u (bytes_of x) (folder_at d h (s.long_of u)))) (no_entry u) (inner_none (s.long_of u) text_name)
      go false = refl

  look_none : (m : List ℕ) → look s (folders_of s d) [] m ≡ None
  look_none m = go (is_name m (s.open_name [] (s.seal [] m)))
    where
      go : (b : Bool) → cond b ((folders_of s d).seen (s.folder_of []) (s.seal [] m)) None ≡ None
      go true = never_seen (s.seal [] m)
      go false = refl

  abbrev first : List ℕ → Path
  first f = []

  child_none : (q : Path) (m : List ℕ) → node_at s (folders_of s d) first (m ∷ q) ≡ None
  unfolding node_at
  child_none [] m = ap (node s (folders_of s d) first (m ∷ [])) (look_none m)
  child_none (k ∷ q) m = ap (below s (folders_of s d) first (m ∷ k ∷ q) m) (child_none q k)

  root_claims : (q : Path) (f : List ℕ) → claimed s (node_at s (folders_of s d) first q) ≡ Some f → (q ≡ []) × (s.folder_of [] ≡ f)
  unfolding node_at
  root_claims [] f c = (refl, cc)
  root_claims (m ∷ q) f c = let a : claimed s (node_at s (folders_of s d) first (m ∷ q)) ≡ None = ap (claimed s) (child_none q m) in absurd (cc)

  exact : (p : Path) → get root_alone p ≡ node_at s (folders_of s d) first p
  unfolding node_at
  exact [] = get-insert walk_total empty [] (Dir []) []
  exact (m ∷ q) =
      get-insert walk_total empty [] (Dir []) (m ∷ q) ∙ cond-false (eq_by_cmp walk_cmp (m ∷ q) []) (Some (Dir [])) (get (empty {X = Node} {R = walk_cmp}) (m ∷ q)) (root_apart m q)
      ∙ get-empty walk_cmp (m ∷ q) ∙ sym (child_none q m)

  abbrev unmarked : Marks
  unmarked = record { foreign = λ p. false; shadowed = λ p. false; twice = false }

  not_true : {P : Type 0} → (P → ⊥) → (false ≡ true → P) × (P → false ≡ true)
  not_true lacks = (λ e. absurd (true≢false (sym e)), λ p. absurd (lacks p))

  no_foreign : (p : Path) → HasForeign s d (node_at s (folders_of s d) first p) → ⊥
  unfolding node_at
  no_foreign [] f = f.1.there (entry_none f.0)
  no_foreign (m ∷ q) f = subst (HasForeign s d) (child_none q m) f

  no_shadow : (n : List ℕ) (p : Path) → IsShadowedIn s d (node_at s (folders_of s d) first p) n (node_at s (folders_of s d) first (n ∷ p)) → ⊥
  no_shadow n p f = subst (IsShadowedIn s d (node_at s (folders_of s d) first p) n) (child_none p n) f

  pub bare_is_clear : (now : ℕ) → IsClear s d now (root_rows now)
  unfolding node_at
  bare_is_clear now = record {
    owner = first;
    nodes = root_alone;
    marks = unmarked;
    there = there;
    first = record {
      holds = λ q f c. ap (λ (z : List ℕ). Some z) (root_claims q f c).1;
      first = λ q f c. subst (λ (z : Path). is_gt (walk_cmp [] z) ≡ false) (sym (root_claims q f c).0) refl;
    };
    exact = exact;
    marked = record {
      foreign = λ p. not_true (no_foreign p);
      root = refl;
      shadowed = λ n p. not_true (no_shadow n p);
      twice = not_true (λ t. t.two ((root_claims t.one t.folder t.first).0 ∙ sym (root_claims t.other t.folder t.second).0));
    };
    rows_are = sym (rows_alone s now);
  }

pub bare_vault_is_clear : BareVaultIsClear
bare_vault_is_clear s d now there entries inside = bare_is_clear s d there entries inside now

-- ---- there is one

module _ (s : Sealing) where
  -- the folder itself, `d`, its part of two characters, and the root's folder
  abbrev pub empty_vault : Disk
  empty_vault = insert (insert (insert (insert empty [] Folder) (text_d ∷ []) Folder) (host_two (s.folder_of [])) Folder) (host_folder (s.folder_of [])) Folder

  pub empty_entry : (g u : List ℕ) → get empty_vault (host_entry g u) ≡ None
  empty_entry g u =
      put_beside _ (host_folder (s.folder_of [])) Folder (host_entry g u) (λ e. cc) ∙ put_beside _ (host_two (s.folder_of [])) Folder (host_entry g u) (λ e. cc)
      ∙ put_beside _ (text_d ∷ []) Folder (host_entry g u) (λ e. cc) ∙ put_beside _ [] Folder (host_entry g u) (λ e. cc) ∙ get-empty path_cmp (host_entry g u)

  pub empty_inner : (g u l : List ℕ) → get empty_vault (host_inner g u l) ≡ None
  empty_inner g u l =
      put_beside _ (host_folder (s.folder_of [])) Folder (host_inner g u l) (λ e. cc) ∙ put_beside _ (host_two (s.folder_of [])) Folder (host_inner g u l) (λ e. cc)
      ∙ put_beside _ (text_d ∷ []) Folder (host_inner g u l) (λ e. cc) ∙ put_beside _ [] Folder (host_inner g u l) (λ e. cc) ∙ get-empty path_cmp (host_inner g u l)

pub empty_vault_is_clear : EmptyVaultIsClear
empty_vault_is_clear s now =
    (empty_vault s, root_rows now, bare_is_clear s (empty_vault s) (put_there _ (host_folder (s.folder_of [])) Folder) (empty_entry s (s.folder_of [])) (empty_inner s (s.folder_of [])) now)
