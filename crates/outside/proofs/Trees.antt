-- Changes keep trees.
use Rattle.std.proofs.Common.{◌≡◌, ◌≢◌, ◌⊎◌, ℕ, ◌-◌, List, [], ◌∷◌, ◌++◌, length, take, Option, Some, None, IsSome, IsNone, refl, sym, ap, subst, ◌∙◌, inl, inr, arith}
use Rattle.outside.specs.Disk.{Disk, Path, Node, folder, file, node_at, parent, IsFile, IsFolder, IsTree}
use Rattle.outside.specs.Changes.{Change, MakeDir, Put, Write, SetLen, Move, RemoveFile, RemoveDir, CanDo, done, in_file, overwritten, set_at, IsFree, IsBare}
use Rattle.outside.proofs.Paths.{by_path, set_here, set_there}

not_none : (o : Option Node) → o ≡ None → IsSome o → ⊥
not_none o none some = let h : IsSome {T = Node} None = subst IsSome none some in cc

-- a node that is put into a folder that is there, and is a folder or takes no folder's place
pub tree_set : (d : Disk) (p : Path) (v : Node) → IsTree d → IsFolder d (parent p) → (v ≡ folder) ⊎ (IsFolder d p → ⊥) → IsTree (set_at d p (Some v))
tree_set d p v tree within fit = record { top = kept [] tree.top; parents = λ q there. kept (parent q) (above q there) }
  where
    replaced : (q : Path) → IsFolder d q → q ≡ p → (v ≡ folder) ⊎ (IsFolder d p → ⊥) → IsFolder (set_at d p (Some v)) q
    replaced q h e (inl is) = set_here d p (Some v) q e ∙ ap Some is
    replaced q h e (inr none) = absurd (none (subst (IsFolder d) e h))

    kept : (q : Path) → IsFolder d q → IsFolder (set_at d p (Some v)) q
    kept q h = by_path q p (λ e. replaced q h e fit) (λ ne. set_there d p (Some v) q ne ∙ h)

    above : (q : Path) → IsSome (node_at (set_at d p (Some v)) q) → IsFolder d (parent q)
    above q there = by_path q p (λ e. subst (λ (t : Path). IsFolder d (parent t)) (sym e) within) (λ ne. tree.parents q (subst IsSome (set_there d p (Some v) q ne) there))

-- nothing in a file's place, or in nothing's
pub tree_unset : (d : Disk) (p : Path) → IsTree d → (IsFolder d p → ⊥) → IsTree (set_at d p None)
tree_unset d p tree none = record { top = kept [] tree.top; parents = λ q there. kept (parent q) (above q there) }
  where
    kept : (q : Path) → IsFolder d q → IsFolder (set_at d p None) q
    kept q h = by_path q p (λ e. absurd (none (subst (IsFolder d) e h))) (λ ne. set_there d p None q ne ∙ h)

    above : (q : Path) → IsSome (node_at (set_at d p None) q) → IsFolder d (parent q)
    above q there = by_path q p (λ e. absurd (not_none _ (set_here d p None q e) there)) (λ ne. tree.parents q (subst IsSome (set_there d p None q ne) there))

-- what is free is no folder
pub no_folder : (d : Disk) (p : Path) → IsFree (node_at d p) → IsFolder d p → ⊥
no_folder d p (inl none) is = let f : Some folder ≡ None = sym is ∙ none in cc
no_folder d p (inr f) is = let g : Some folder ≡ Some (file f.0) = sym is ∙ f.1 in cc

last_part : (x : List ℕ) (xs : Path) → (name : List ℕ) × (x ∷ xs ≡ take (length xs) (x ∷ xs) ++ name ∷ [])
last_part x [] = (x, refl)
last_part x (y ∷ ys) = let more = last_part y ys in (more.0, ap (λ (l : Path). x ∷ l) more.1)

as_child : (q : Path) → q ≢ [] → (name : List ℕ) × (q ≡ parent q ++ name ∷ [])
as_child [] ne = absurd (ne refl)
as_child (x ∷ xs) ne =
    let l = last_part x xs in
    let e : length (x ∷ xs) - 1 ≡ length xs = omega arith in
    (l.0, l.1 ∙ ap (λ (n : ℕ). take n (x ∷ xs) ++ l.0 ∷ []) (sym e))

-- nothing in a bare folder's place
pub tree_unset_bare : (d : Disk) (p : Path) → IsTree d → IsBare d p → IsTree (set_at d p None)
tree_unset_bare d p tree bare = record { top = set_there d p None [] (λ e. bare.below (sym e)) ∙ tree.top; parents = λ q there. above q there }
  where
    child : (q : Path) → q ≢ p → IsSome (node_at d q) → parent q ≡ p → ⊥
    child q ne there e = by_path q []
        (λ root. bare.below (sym e ∙ ap parent root))
        (λ below. let c = as_child q below in
        not_none _ (ap (λ (t : Path). node_at d t) (c.1 ∙ ap (λ (t : Path). t ++ c.0 ∷ []) e) ∙ bare.no_child c.0) there)

    still : (q : Path) → q ≢ p → IsSome (node_at d q) → IsFolder (set_at d p None) (parent q)
    still q ne there = set_there d p None (parent q) (child q ne there) ∙ tree.parents q there

    above : (q : Path) → IsSome (node_at (set_at d p None) q) → IsFolder (set_at d p None) (parent q)
    above q there = by_path q p (λ e. absurd (not_none _ (set_here d p None q e) there)) (λ ne. still q ne (subst IsSome (set_there d p None q ne) there))

-- a change that can be done leaves a tree a tree
pub tree_done : (change : Change) (d : Disk) → IsTree d → CanDo change d → IsTree (done change d)
tree_done (MakeDir p) d tree can = tree_set d p folder tree can.inside (inl refl)
tree_done (Put p bytes) d tree can = tree_set d p (file bytes) tree can.inside (inr (λ is. free can.free is))
  where
    free : IsNone (node_at d p) ⊎ IsFile d p → IsFolder d p → ⊥
    free (inl none) is = let h : IsNone (Some folder) = subst IsNone is none in cc
    free (inr f) is = let g : Some folder ≡ Some (file f.0) = sym is ∙ f.1 in cc
tree_done (Write p at bytes) d tree can =
    subst (λ (o : Option Node). IsTree (set_at d p (in_file (λ old. overwritten old at bytes) o))) (sym can.1)
    (tree_set d p (file (overwritten can.0 at bytes)) tree (tree.parents p (subst IsSome (sym can.1) refl)) (inr (λ is. no_folder d p (inr (can.0, can.1)) is)))
tree_done (SetLen p n) d tree can =
    subst (λ (o : Option Node). IsTree (set_at d p (in_file (take n) o))) (sym can.1)
    (tree_set d p (file (take n can.0)) tree (tree.parents p (subst IsSome (sym can.1) refl)) (inr (λ is. no_folder d p (inr (can.0, can.1)) is)))
tree_done (Move from to) d tree can =
    let moved = tree_unset d from tree (λ is. no_folder d from (inr can.there) is) in
    let apart : parent to ≢ from = λ e. no_folder d from (inr can.there) (subst (IsFolder d) e can.inside) in
    subst (λ (o : Option Node). IsTree (set_at (set_at d from None) to o)) (sym can.there.1)
    (tree_set (set_at d from None) to (file can.there.0) moved (set_there d from None (parent to) apart ∙ can.inside) (inr (λ is. by_path to from
    (λ e. let f : None ≡ Some folder = sym (set_here d from None to e) ∙ is in cc)
    (λ ne. no_folder d to can.free (sym (set_there d from None to ne) ∙ is)))))
tree_done (RemoveFile p) d tree can = tree_unset d p tree (λ is. no_folder d p can is)
tree_done (RemoveDir p) d tree (inl none) = tree_unset d p tree (λ is. no_folder d p (inl none) is)
tree_done (RemoveDir p) d tree (inr bare) = tree_unset_bare d p tree bare
