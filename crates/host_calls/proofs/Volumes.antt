-- What is at a path of a volume, and how a disk changes with its names and bytes.
use Rattle.std.proofs.Common.{◌≡◌, ◌≢◌, ℕ, Bool, true, false, cond, List, [], ◌∷◌, Option, Some, None, option_map, unwrap_or, map as each_of, refl, sym, ap, subst, ◌∙◌, true≢false, nat_cmp, is_eq, Ordering, Less, Equal, Greater}
use Rattle.std.specs.Bool.{Decides}
use Rattle.std.specs.Ordering.{eq_by_cmp}
use Rattle.std.specs.Cmp.{IsTotalOrder, nat_cmp_total, tied_itself}
use Rattle.std.specs.FinMap as map
use Rattle.std.proofs.lemmas.Bool.{false_from_ne_true}
use Rattle.std.proofs.lemmas.Cmp.{on_total, then_total}
use Rattle.std.proofs.lemmas.Map.Lookups.{exact_pairs, exact_unsigned}
use Rattle.outside.specs.Disk.{Disk, Path, Node, folder, file, path_cmp, node_at, IsFolder}
use Rattle.outside.specs.Changes.{Move, set_at, done}
use Rattle.outside.proofs.Paths.{paths_total, path_decides, by_path, set_here, set_there, same_disk}
use Rattle.host_calls.specs.declared.found.Inode.{Inode}
use Rattle.host_calls.specs.Volume.{inode_cmp, Entry, Folder, File, Names, Contents, Volume, entry_at, bytes_in, node_of, each_value, disk_of}
use Rattle.host_calls.specs.Names.{HasFolder, named}

-- ---- inodes

pub inodes_total : IsTotalOrder inode_cmp
inodes_total = then_total (on_total (λ (i : Inode). i.dev) nat_cmp_total) (on_total (λ (i : Inode). i.ino) nat_cmp_total)

-- two that compare equal are one
pub inodes_apart : map.IsAntisymmetric inode_cmp
inodes_apart a b h = ap (λ (p : ℕ × ℕ). record { dev = p.0; ino = p.1 }) (exact_pairs nat_cmp nat_cmp exact_unsigned exact_unsigned (a.dev, a.ino) (b.dev, b.ino) h)

tied : (r : Ordering) → is_eq r ≡ true → r ≡ Equal
tied Less e = absurd (true≢false (sym e))
tied Equal e = refl
tied Greater e = absurd (true≢false (sym e))

pub inode_decides : (a b : Inode) → Decides (eq_by_cmp inode_cmp a b) (a ≡ b)
inode_decides a b = (
  λ e. inodes_apart a b (tied (inode_cmp a b) e),
  λ e. ap is_eq (subst (λ (c : Inode). inode_cmp a c ≡ Equal) e (tied_itself inodes_total a)),
)

decided : {C P : Type 0} (b : Bool) → Decides b P → (P → C) → ((P → ⊥) → C) → C
decided true d same other = same (d.0 refl)
decided false d same other = other (λ p. true≢false (sym (d.1 p)))

-- two inodes are one or not
pub by_inode : {C : Type 0} (a b : Inode) → (a ≡ b → C) → (a ≢ b → C) → C
by_inode a b same other = decided (eq_by_cmp inode_cmp a b) (inode_decides a b) same other

-- what was inserted is at its inode
pub filed_here : {X : Type 0} (m : map.FinMap inode_cmp X) (a : Inode) (x : X) → map.get (map.insert m a x) a ≡ Some x
filed_here m a x = map.get-insert inodes_total m a x a ∙ ap (λ (b : Bool). cond b (Some x) (map.get m a)) ((inode_decides a a).1 refl)

-- and elsewhere nothing changed
pub filed_there : {X : Type 0} (m : map.FinMap inode_cmp X) (a : Inode) (x : X) (b : Inode) → b ≢ a → map.get (map.insert m a x) b ≡ map.get m b
filed_there m a x b ne = map.get-insert inodes_total m a x b ∙ ap (λ (t : Bool). cond t (Some x) (map.get m b)) (false_from_ne_true _ (λ e. ne ((inode_decides b a).0 e)))

-- what was removed is gone
pub gone_here : {X : Type 0} (m : map.FinMap inode_cmp X) (a : Inode) → map.get (map.remove m a) a ≡ None
gone_here m a = map.get-remove inodes_total m a a ∙ ap (λ (b : Bool). cond b None (map.get m a)) ((inode_decides a a).1 refl)

pub gone_there : {X : Type 0} (m : map.FinMap inode_cmp X) (a b : Inode) → b ≢ a → map.get (map.remove m a) b ≡ map.get m b
gone_there m a b ne = map.get-remove inodes_total m a b ∙ ap (λ (t : Bool). cond t None (map.get m b)) (false_from_ne_true _ (λ e. ne ((inode_decides b a).0 e)))

-- ---- names

named_at : (names : Names) (p : Path) (entry : Option Entry) (q : Path) (b : Bool) → eq_by_cmp path_cmp q p ≡ b → entry_at (named names p entry) q ≡ cond b entry (entry_at names q)
named_at names p None q b is = map.get-remove paths_total names p q ∙ ap (λ (t : Bool). cond t None (entry_at names q)) is
named_at names p (Some entry) q b is = map.get-insert paths_total names p entry q ∙ ap (λ (t : Bool). cond t (Some entry) (entry_at names q)) is

-- what was named is at its path
pub named_here : (names : Names) (p : Path) (entry : Option Entry) (q : Path) → q ≡ p → entry_at (named names p entry) q ≡ entry
named_here names p entry q is = named_at names p entry q true ((path_decides q p).1 is)

-- and elsewhere nothing changed
pub named_there : (names : Names) (p : Path) (entry : Option Entry) (q : Path) → q ≢ p → entry_at (named names p entry) q ≡ entry_at names q
named_there names p entry q ne = named_at names p entry q false (false_from_ne_true _ (λ e. ne ((path_decides q p).0 e)))

-- ---- maps

find_each : {K X Y : Type 0} (R : K → K → Ordering) (f : X → Y) (q : K) (es : List (K × X)) → map.find R q (each_of (λ (e : K × X). (e.0, f e.1)) es) ≡ option_map f (map.find R q es)
find_each R f q [] = refl
find_each {K = K} {X = X} R f q (e ∷ es) =
    elim (eq_by_cmp R q e.0) as (λ b. cond b (Some (f e.1)) (map.find R q (each_of (λ (e : K × X). (e.0, f e.1)) es)) ≡ option_map f (cond b (Some e.1) (map.find R q es))) [
      | true ↦ refl
      | false ↦ find_each R f q es
    ]

pub get_each : {K X Y : Type 0} {R : K → K → Ordering} (o : IsTotalOrder R) (f : X → Y) (m : map.FinMap R X) (q : K) → map.get (each_value f m) q ≡ option_map f (map.get m q)
unfolding each_value
get_each {K = K} {X = X} {R = R} o f m q =
    map.get-from_entries o (each_of (λ (e : K × X). (e.0, f e.1)) (map.entries m)) q
    ∙ find_each R f q (map.entries m)
    ∙ ap (option_map f) (sym (map.get-entries m q))

-- ---- disks

pub node_in : (v : Volume) (p : Path) → node_at (disk_of v) p ≡ option_map (node_of v.contents) (entry_at v.names p)
unfolding disk_of
node_in v p = get_each paths_total (node_of v.contents) v.names p

pub folder_in : (v : Volume) (p : Path) → HasFolder v.names p → IsFolder (disk_of v) p
folder_in v p h = node_in v p ∙ ap (option_map (node_of v.contents)) h

pub file_in : (v : Volume) (p : Path) (i : Inode) → entry_at v.names p ≡ Some (File i) → node_at (disk_of v) p ≡ Some (file (bytes_in v.contents i))
file_in v p i h = node_in v p ∙ ap (option_map (node_of v.contents)) h

pub none_in : (v : Volume) (p : Path) → entry_at v.names p ≡ None → node_at (disk_of v) p ≡ None
none_in v p h = node_in v p ∙ ap (option_map (node_of v.contents)) h

entry_folder : (c : Contents) (e : Option Entry) → option_map (node_of c) e ≡ Some folder → e ≡ Some Folder
entry_folder c None h = cc
entry_folder c (Some Folder) h = refl
entry_folder c (Some (File i)) h = cc

entry_none : (c : Contents) (e : Option Entry) → option_map (node_of c) e ≡ None → e ≡ None
entry_none c None h = refl
entry_none c (Some Folder) h = cc
entry_none c (Some (File i)) h = cc

file_bytes : (a b : List ℕ) → Some (file a) ≡ Some (file b) → a ≡ b
file_bytes a b h = cc

-- a name of a file, whose bytes these are
pub record IsFileOf (v : Volume) (p : Path) (bytes : List ℕ) : Type 0 where
  pub inode : Inode
  pub there : entry_at v.names p ≡ Some (File inode)
  pub bytes_are : bytes_in v.contents inode ≡ bytes

entry_file : (v : Volume) (p : Path) (bytes : List ℕ) (e : Option Entry) → entry_at v.names p ≡ e → option_map (node_of v.contents) e ≡ Some (file bytes) → IsFileOf v p bytes
entry_file v p bytes None is h = let f : None ≡ Some (file bytes) = h in cc
entry_file v p bytes (Some Folder) is h = let f : Some folder ≡ Some (file bytes) = h in cc
entry_file v p bytes (Some (File i)) is h = record { inode = i; there = is; bytes_are = file_bytes _ _ h }

pub folder_from : (v : Volume) (p : Path) → IsFolder (disk_of v) p → HasFolder v.names p
folder_from v p h = entry_folder v.contents (entry_at v.names p) (sym (node_in v p) ∙ h)

pub none_from : (v : Volume) (p : Path) → node_at (disk_of v) p ≡ None → entry_at v.names p ≡ None
none_from v p h = entry_none v.contents (entry_at v.names p) (sym (node_in v p) ∙ h)

pub file_from : (v : Volume) (p : Path) (bytes : List ℕ) → node_at (disk_of v) p ≡ Some (file bytes) → IsFileOf v p bytes
file_from v p bytes h = entry_file v p bytes (entry_at v.names p) refl (sym (node_in v p) ∙ h)

-- volumes with alike nodes at each path are one disk
pub alike : (a b : Volume) → ((p : Path) → option_map (node_of a.contents) (entry_at a.names p) ≡ option_map (node_of b.contents) (entry_at b.names p)) → disk_of a ≡ disk_of b
alike a b same = same_disk (disk_of a) (disk_of b) (λ p. node_in a p ∙ same p ∙ sym (node_in b p))

same_node : (c d : Contents) (e : Option Entry) → ((i : Inode) → e ≡ Some (File i) → bytes_in c i ≡ bytes_in d i) → option_map (node_of c) e ≡ option_map (node_of d) e
same_node c d None same = refl
same_node c d (Some Folder) same = refl
same_node c d (Some (File i)) same = ap (λ (bytes : List ℕ). Some (file bytes)) (same i refl)

-- the bytes of files without a name aren't seen
pub unseen : (names : Names) (c d : Contents) → ((p : Path) (i : Inode) → entry_at names p ≡ Some (File i) → bytes_in c i ≡ bytes_in d i)
    → disk_of (record { names = names; contents = c }) ≡ disk_of (record { names = names; contents = d })
unseen names c d same = alike (record { names = names; contents = c }) (record { names = names; contents = d }) (λ p. same_node c d (entry_at names p) (λ i is. same p i is))

-- a name more, or one less
pub disk_named : (names : Names) (c : Contents) (p : Path) (entry : Option Entry)
    → disk_of (record { names = named names p entry; contents = c }) ≡ set_at (disk_of (record { names = names; contents = c })) p (option_map (node_of c) entry)
disk_named names c p entry =
    let old : Volume = record { names = names; contents = c } in
    let new : Volume = record { names = named names p entry; contents = c } in
    same_disk (disk_of new) (set_at (disk_of old) p (option_map (node_of c) entry)) (λ q. by_path q p
    (λ is. node_in new q ∙ ap (option_map (node_of c)) (named_here names p entry q is) ∙ sym (set_here (disk_of old) p (option_map (node_of c) entry) q is))
    (λ ne. node_in new q ∙ ap (option_map (node_of c)) (named_there names p entry q ne) ∙ sym (set_there (disk_of old) p (option_map (node_of c) entry) q ne ∙ node_in old q)))

-- a file that is moved
pub disk_moved : (names : Names) (c : Contents) (from to : Path)
    → disk_of (record { names = named (named names from None) to (entry_at names from); contents = c }) ≡ done (Move from to) (disk_of (record { names = names; contents = c }))
disk_moved names c from to =
    let old : Volume = record { names = names; contents = c } in
    disk_named (named names from None) c to (entry_at names from)
    ∙ ap (λ (d : Disk). set_at d to (option_map (node_of c) (entry_at names from))) (disk_named names c from None)
    ∙ ap (λ (node : Option Node). set_at (set_at (disk_of old) from None) to node) (sym (node_in old from))

pub bytes_here : (c : Contents) (i : Inode) (held : List ℕ) → bytes_in (map.insert c i held) i ≡ held
bytes_here c i held = ap (λ (o : Option (List ℕ)). unwrap_or o []) (filed_here c i held)

pub bytes_there : (c : Contents) (i : Inode) (held : List ℕ) (j : Inode) → j ≢ i → bytes_in (map.insert c i held) j ≡ bytes_in c j
bytes_there c i held j ne = ap (λ (o : Option (List ℕ)). unwrap_or o []) (filed_there c i held j ne)

-- a file's bytes changed, which has a name at this path alone
pub disk_written : (names : Names) (c : Contents) (i : Inode) (held : List ℕ) (p : Path) → entry_at names p ≡ Some (File i)
    → ((q : Path) → entry_at names q ≡ Some (File i) → q ≡ p)
    → disk_of (record { names = names; contents = map.insert c i held }) ≡ set_at (disk_of (record { names = names; contents = c })) p (Some (file held))
disk_written names c i held p there alone =
    let old : Volume = record { names = names; contents = c } in
    let new : Volume = record { names = names; contents = map.insert c i held } in
    same_disk (disk_of new) (set_at (disk_of old) p (Some (file held))) (λ q. by_path q p
    (λ is. file_in new q i (ap (entry_at names) is ∙ there) ∙ ap (λ (bytes : List ℕ). Some (file bytes)) (bytes_here c i held) ∙ sym (set_here (disk_of old) p (Some (file held)) q is))
    (λ ne. node_in new q ∙ same_node (map.insert c i held) c (entry_at names q) (λ j is. by_inode j i
    (λ e. absurd (ne (alone q (is ∙ ap (λ (k : Inode). Some (File k)) e))))
    (λ other. bytes_there c i held j other)) ∙ sym (set_there (disk_of old) p (Some (file held)) q ne ∙ node_in old q)))
