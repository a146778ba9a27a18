-- Who has a folder, and what a claim shows.
use Rattle.std.proofs.Common.{◌≡◌, ◌≢◌, ℕ, Bool, true, false, cond, ◌&&◌, List, [], ◌∷◌, Option, Some, None, refl, sym, ap, ◌∙◌, subst, ap₂, true≢false}
use Rattle.std.proofs.lemmas.Bool.{and_parts, cond-true}
use Rattle.std.proofs.lemmas.Slice.Eq.{bytes_eq-Decides}
use Rattle.clear_tree.specs.Walk.{Path, same_path, Sealing, Kind, Folders, Node, File, Link, Dir, Bad, is_name, look, node, below, node_at, claimed, IsOwner, is_good, Plain, Named, Linked, Bare, ChangedAt}
use Rattle.clear_tree.proofs.Paths.{same_path-true, root_first}

pub is_name-true : (n : List ℕ) (o : Option (List ℕ)) → is_name n o ≡ true → o ≡ Some n
is_name-true n None e = absurd (true≢false (sym e))
is_name-true n (Some m) e = ap (λ (a : List ℕ). Some a) ((bytes_eq-Decides m n).0 e)

pub node_dir : (s : Sealing) (v : Folders) (o : List ℕ → Path) (p : Path) (e : Option Kind) (j : List ℕ) →
    node s v o p e ≡ Some (Dir j) → is_good s v o p j ≡ true
node_dir s v o p None j h = cc
node_dir s v o p (Some (Plain b)) j h = cc
node_dir s v o p (Some (Linked b)) j h = cc
node_dir s v o p (Some Bare) j h = cc
node_dir s v o p (Some (Named t)) j h = go (is_good s v o p t) refl h
  where
    go : (g : Bool) → is_good s v o p t ≡ g → ◌≡◌ {A = Option Node} (Some (cond g (Dir t) (Bad t))) (Some (Dir j)) → is_good s v o p j ≡ true
    go true eg h2 = let e : t ≡ j = cc in subst (λ (z : List ℕ). is_good s v o p z ≡ true) e eg
    go false eg h2 = cc

pub below_dir : (s : Sealing) (v : Folders) (o : List ℕ → Path) (p : Path) (m : List ℕ) (x : Option Node) (j : List ℕ) →
    below s v o p m x ≡ Some (Dir j) → is_good s v o p j ≡ true
below_dir s v o p m None j h = cc
below_dir s v o p m (Some (Dir i)) j h = node_dir s v o p (look s v i m) j h
below_dir s v o p m (Some (File c)) j h = cc
below_dir s v o p m (Some (Link c)) j h = cc
below_dir s v o p m (Some (Bad t)) j h = cc

-- a directory has its folder
pub dir_owner : (s : Sealing) (v : Folders) (o : List ℕ → Path) → IsOwner s v o → (q : Path) (j : List ℕ) →
    node_at s v o q ≡ Some (Dir j) → o (s.folder_of j) ≡ q
unfolding node_at
dir_owner s v o own [] j h =
    let e : j ≡ [] = cc in
    root_first (o (s.folder_of j)) (own.first [] (s.folder_of j) (ap (λ (z : List ℕ). Some (s.folder_of z)) (sym e)))
dir_owner s v o own (m ∷ q) j h =
    same_path-true (o (s.folder_of j)) (m ∷ q)
    (and_parts _ _ (and_parts _ _ (below_dir s v o (m ∷ q) m (node_at s v o q) j h)).1).1

-- two directories with one folder are one
pub one_dir : (s : Sealing) (v : Folders) (o : List ℕ → Path) → IsOwner s v o → (q p : Path) (j i : List ℕ) →
    node_at s v o q ≡ Some (Dir j) → node_at s v o p ≡ Some (Dir i) → s.folder_of j ≡ s.folder_of i → (q ≡ p) × (j ≡ i)
one_dir s v o own q p j i hq hp e =
    let eq : q ≡ p = sym (dir_owner s v o own q j hq) ∙ ap o e ∙ dir_owner s v o own p i hp in
    let h : node_at s v o q ≡ node_at s v o p = ap (node_at s v o) eq in
    (eq, cc)

-- two nodes' entries are apart if their paths are
pub entry_apart : (s : Sealing) (v : Folders) (o : List ℕ → Path) → IsOwner s v o → (q p : Path) (m n j i : List ℕ) →
    is_name n (s.open_name i (s.seal i n)) ≡ true →
    node_at s v o q ≡ Some (Dir j) → node_at s v o p ≡ Some (Dir i) → m ∷ q ≢ n ∷ p →
    is_name m (s.open_name j (s.seal j m)) ≡ true → s.folder_of j ≡ s.folder_of i → s.seal j m ≡ s.seal i n → ⊥
entry_apart s v o own q p m n j i named hq hp ne tm ef et =
    let one : (q ≡ p) × (j ≡ i) = one_dir s v o own q p j i hq hp ef in
    let a : s.open_name j (s.seal j m) ≡ Some m = is_name-true m _ tm in
    let b : s.open_name i (s.seal i n) ≡ Some n = is_name-true n _ named in
    let c : s.open_name j (s.seal j m) ≡ s.open_name i (s.seal i n) = ap₂ s.open_name one.1 et in
    let d : m ≡ n = cc in
    ne (ap₂ (λ (x : List ℕ) (y : Path). x ∷ y) d one.0)

-- an entry is looked up alike in both if what its place shows is the same
pub look_by : (s : Sealing) (v v' : Folders) (m j : List ℕ) →
    (is_name m (s.open_name j (s.seal j m)) ≡ true → v'.seen (s.folder_of j) (s.seal j m) ≡ v.seen (s.folder_of j) (s.seal j m)) →
    look s v' j m ≡ look s v j m
look_by s v v' m j h = go (is_name m (s.open_name j (s.seal j m))) refl
  where
    go : (b : Bool) → is_name m (s.open_name j (s.seal j m)) ≡ b →
        cond b (v'.seen (s.folder_of j) (s.seal j m)) None ≡ cond b (v.seen (s.folder_of j) (s.seal j m)) None
    go true e = h e
    go false e = refl

pub look_same : (s : Sealing) (v v' : Folders) (o : List ℕ → Path) → IsOwner s v o → (q p : Path) (m n j i : List ℕ) →
    ChangedAt v v' (s.folder_of i) (s.seal i n) → is_name n (s.open_name i (s.seal i n)) ≡ true →
    node_at s v o q ≡ Some (Dir j) → node_at s v o p ≡ Some (Dir i) → m ∷ q ≢ n ∷ p → look s v' j m ≡ look s v j m
look_same s v v' o own q p m n j i ch named hq hp ne =
    look_by s v v' m j (λ e. ch.others (s.folder_of j) (s.seal j m) (entry_apart s v o own q p m n j i named hq hp ne e))

-- a node that names nothing has nothing below it
pub below_leaf : (s : Sealing) (v : Folders) (o : List ℕ → Path) (p : Path) (m : List ℕ) (x : Option Node) →
    claimed s x ≡ None → below s v o p m x ≡ None
below_leaf s v o p m None h = refl
below_leaf s v o p m (Some (Dir i)) h = cc
below_leaf s v o p m (Some (File c)) h = refl
below_leaf s v o p m (Some (Link c)) h = refl
below_leaf s v o p m (Some (Bad t)) h = refl

-- a node that a folder's text gives names its folder, good or Bad
pub named_claim : (s : Sealing) (v : Folders) (o : List ℕ → Path) (p : Path) (t : List ℕ) →
    s.valid_id t ≡ true → claimed s (node s v o p (Some (Named t))) ≡ Some (s.folder_of t)
named_claim s v o p t h = go (is_good s v o p t)
  where
    go : (g : Bool) → claimed s (Some (cond g (Dir t) (Bad t))) ≡ Some (s.folder_of t)
    go true = refl
    go false = cond-true (s.valid_id t) _ _ h

-- if the same paths name the same folders, the owners stay
pub same_owner : (s : Sealing) (v v' : Folders) (o : List ℕ → Path) → IsOwner s v o →
    ((q : Path) → claimed s (node_at s v' o q) ≡ claimed s (node_at s v o q)) → IsOwner s v' o
same_owner s v v' o own same = record {
  holds = λ q f h. same (o f) ∙ own.holds q f (sym (same q) ∙ h);
  first = λ q f h. own.first q f (sym (same q) ∙ h);
}

-- the node of an entry, if it has no folder or what the walk asks of its folder agrees
pub node_agree : (s : Sealing) (v v' : Folders) (o o' : List ℕ → Path) (p p' : Path) (e : Option Kind) →
    ((t : List ℕ) → e ≡ Some (Named t) → s.valid_id t ≡ true → (v'.present (s.folder_of t) ≡ v.present (s.folder_of t)) × (same_path (o' (s.folder_of t)) p' ≡ same_path (o (s.folder_of t)) p)) →
    node s v' o' p' e ≡ node s v o p e
node_agree s v v' o o' p p' None h = refl
node_agree s v v' o o' p p' (Some (Plain b)) h = refl
node_agree s v v' o o' p p' (Some (Linked b)) h = refl
node_agree s v v' o o' p p' (Some Bare) h = refl
node_agree s v v' o o' p p' (Some (Named t)) h = ap (λ (b : Bool). Some (cond b (Dir t) (Bad t))) (go (s.valid_id t) refl)
  where
    go : (b : Bool) → s.valid_id t ≡ b →
        (b && (v'.present (s.folder_of t) && same_path (o' (s.folder_of t)) p')) ≡ (b && (v.present (s.folder_of t) && same_path (o (s.folder_of t)) p))
    go true e = let k : (v'.present (s.folder_of t) ≡ v.present (s.folder_of t)) × (same_path (o' (s.folder_of t)) p' ≡ same_path (o (s.folder_of t)) p) = h t refl e in
        ap₂ (λ (a b : Bool). a && b) k.0 k.1
    go false e = refl

pub child_at : (s : Sealing) (v : Folders) (o : List ℕ → Path) (m j : List ℕ) (q : Path) →
    node_at s v o q ≡ Some (Dir j) → node_at s v o (m ∷ q) ≡ node s v o (m ∷ q) (look s v j m)
unfolding node_at
child_at s v o m j q h = ap (below s v o (m ∷ q) m) h

pub child_claim : (s : Sealing) (v : Folders) (o : List ℕ → Path) (m j t : List ℕ) (q : Path) →
    node_at s v o q ≡ Some (Dir j) → look s v j m ≡ Some (Named t) → s.valid_id t ≡ true →
    claimed s (node_at s v o (m ∷ q)) ≡ Some (s.folder_of t)
child_claim s v o m j t q h l valid =
    ap (claimed s) (child_at s v o m j q h ∙ ap (node s v o (m ∷ q)) l) ∙ named_claim s v o (m ∷ q) t valid
