-- The entries of nodes: the node at an entry of a directory, and which entry is kept of a node.
use Rattle.std.proofs.Common.{◌≡◌, ◌≢◌, ℕ, Bool, true, false, List, [], ◌∷◌, Some, None, IsTrue, refl, sym, ◌∙◌, subst, inl, inr, ◌⊎◌, true≢false}
use Rattle.std.proofs.lemmas.Bool.{cases_eq}
use Rattle.outside.specs.Disk.{Disk}
use Rattle.tree_model.specs.Rows.{root}
use Rattle.clear_tree.specs.Walk.{Path, Sealing, Kind, Plain, Named, Linked, Bare, Node, node}
use Rattle.clear_tree.specs.Places.{folders_of, entry_at, entry_of}
use Rattle.clear_tree.specs.Queue.{In}
use Rattle.tree_deed_laws.specs.Deeds.{entry_text, place_of}
use Rattle.tree_deed_laws.proofs.Seeing.{entry_cases, some_there, text_cases}
use Rattle.live_tree.specs.Held.{HeldNode}

-- ---- looked for among all

abbrev pub IsIn : ℕ → List ℕ → ℕ × HeldNode → Type 0
IsIn parent entry e = (e.0 ≢ root) × (e.1.kept.parent ≡ parent) × (e.1.kept.entry ≡ entry)

is_in : (parent : ℕ) (entry : List ℕ) (e : ℕ × HeldNode) → IsIn parent entry e ⊎ (IsIn parent entry e → ⊥)
is_in parent entry e = go (cases_eq e.0 root) (cases_eq e.1.kept.parent parent) (text_cases e.1.kept.entry entry)
  where
    go : (e.0 ≡ root) ⊎ (e.0 ≢ root) → (e.1.kept.parent ≡ parent) ⊎ (e.1.kept.parent ≢ parent) → (e.1.kept.entry ≡ entry) ⊎ (e.1.kept.entry ≢ entry) → IsIn parent entry e ⊎ (IsIn parent entry e → ⊥)
    go (inl top) p t = inr (λ is. is.0 top)
    go (inr below) (inl inside) (inl at) = inl (below, inside, at)
    go (inr below) (inl inside) (inr off) = inr (λ is. off is.2)
    go (inr below) (inr outside) t = inr (λ is. outside is.1)

pub search : (parent : ℕ) (entry : List ℕ) (es : List (ℕ × HeldNode)) → ((e : ℕ × HeldNode) × In e es × IsIn parent entry e) ⊎ ((e : ℕ × HeldNode) → In e es → IsIn parent entry e → ⊥)
search parent entry [] = inr (λ e at is. at)
search parent entry (x ∷ es) = go (is_in parent entry x) (search parent entry es)
  where
    go : IsIn parent entry x ⊎ (IsIn parent entry x → ⊥) → ((e : ℕ × HeldNode) × In e es × IsIn parent entry e) ⊎ ((e : ℕ × HeldNode) → In e es → IsIn parent entry e → ⊥)
        → ((e : ℕ × HeldNode) × In e (x ∷ es) × IsIn parent entry e) ⊎ ((e : ℕ × HeldNode) → In e (x ∷ es) → IsIn parent entry e → ⊥)
    go (inl is) rest = inl (x, inl refl, is)
    go (inr other) (inl found) = inl (found.0, inr found.1, found.2)
    go (inr other) (inr none) = inr none_of
      where
        none_of : (e : ℕ × HeldNode) → In e (x ∷ es) → IsIn parent entry e → ⊥
        none_of e (inl same) is = other (subst (IsIn parent entry) same is)
        none_of e (inr at) is = none e at is

-- a node folder of a known kind, or a host file, is a node
pub some_node : (s : Sealing) (d : Disk) (owner : List ℕ → Path) (q : Path) (kind : Kind) → kind ≢ Bare → (x : Node) × (node s (folders_of s d) owner q (Some kind) ≡ Some x)
some_node s d owner q (Plain b) known = (_, refl)
some_node s d owner q (Linked b) known = (_, refl)
some_node s d owner q (Named text) known = (_, refl)
some_node s d owner q Bare known = absurd (known refl)

-- the entry that a tree keeps of a node is the one where it is seen
pub entry_is : (s : Sealing) (d : Disk) (i n : List ℕ) (long : Bool) → (IsTrue long → entry_at s d (s.folder_of i) (s.seal i n) ≡ None) → (entry_at s d (s.folder_of i) (s.seal i n) ≡ None → IsTrue long)
    → (place_of s i n long).entry ≡ entry_of s d (s.folder_of i) (s.seal i n)
entry_is s d i n long to back = go long refl (entry_cases s d (s.folder_of i) (s.seal i n))
  where
    h : List ℕ
    h = s.folder_of i

    t : List ℕ
    t = s.seal i n

    go : (b : Bool) → long ≡ b → ((entry_at s d h t ≡ None) × (entry_of s d h t ≡ s.long_of t)) ⊎ ((x : _) × (entry_at s d h t ≡ Some x) × (entry_of s d h t ≡ t)) → entry_text s b t ≡ entry_of s d h t
    go true e (inl far) = sym far.1
    go true e (inr near) = absurd (some_there _ _ near.1 (to e))
    go false e (inl far) = absurd (true≢false (sym (back far.0) ∙ e))
    go false e (inr near) = sym near.2
