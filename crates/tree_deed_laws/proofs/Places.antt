-- If no place is taken: what is free on the disk.
use Rattle.std.proofs.Common.{◌≡◌, ◌≢◌, ℕ, Bool, true, false, cond, List, [], ◌∷◌, Option, Some, None, bytes_eq, refl, sym, ap, ◌∙◌, inl, inr, ◌⊎◌, true≢false}
use Rattle.std.specs.FinMap.{get}
use Rattle.std.proofs.lemmas.Slice.Eq.{bytes_eq-Decides}
use Rattle.outside.specs.Disk.{Disk, Node as Thing, folder as Folder, file as Bytes, Path as HostPath}
use Rattle.clear_tree.specs.Walk.{Path, Sealing, node_at, claimed}
use Rattle.clear_tree.specs.Places.{entry_at, folders_of, host_two, host_folder, host_entry}
use Rattle.clear_tree.specs.Queue.{In}
use Rattle.clear_tree.proofs.Places.{contains_at, in_at}
use Rattle.tree_deed_laws.specs.Trees.{Tree, IsTreeOf}
use Rattle.tree_deed_laws.specs.Taken.{Claim, IsClaimed, AreClaimed, or_else, if_there, if_file, first_claim, taken, taken_by_identifier}
use Rattle.tree_deed_laws.proofs.Seeing.{some_there}

both_none : (a b : Option HostPath) → or_else a b ≡ None → (a ≡ None) × (b ≡ None)
both_none None b h = (refl, h)
both_none (Some p) b h = absurd (cc)

not_there : (p : HostPath) (w : Option Thing) → if_there p w ≡ None → w ≡ None
not_there p None h = refl
not_there p (Some x) h = absurd (cc)

no_file_there : (p : HostPath) (w : Option Thing) → if_file p w ≡ None → (b : List ℕ) → w ≢ Some (Bytes b)
no_file_there p None h b e = cc
no_file_there p (Some Folder) h b e = cc
no_file_there p (Some (Bytes c)) h b e = cc

pub free_places : (s : Sealing) (d : Disk) (claims : List Claim) (i n : List ℕ) (drawn : Option (List ℕ)) → taken s d claims i n drawn ≡ None →
    (entry_at s d (s.folder_of i) (s.seal i n) ≡ None) × (get d (host_entry (s.folder_of i) (s.long_of (s.seal i n))) ≡ None) × (taken_by_identifier s d claims drawn ≡ None)
free_places s d claims i n drawn h =
    let a = both_none (if_there (host_entry (s.folder_of i) (s.seal i n)) (entry_at s d (s.folder_of i) (s.seal i n))) _ h in
    let b = both_none (if_there (host_entry (s.folder_of i) (s.long_of (s.seal i n))) (get d (host_entry (s.folder_of i) (s.long_of (s.seal i n))))) _ a.1 in
    (not_there _ _ a.0, not_there _ _ b.0, b.1)

no_claim : (f : List ℕ) (claims : List Claim) → first_claim f claims ≡ None → (c : Claim) → In c claims → c.folder ≢ f
no_claim f [] h c i e = i
no_claim f (a ∷ claims) h c i e = go (bytes_eq a.folder f) refl h i (λ h2 j. no_claim f claims h2 c j e)
  where
    go : (b : Bool) → bytes_eq a.folder f ≡ b → cond b (Some a.place) (first_claim f claims) ≡ None → (c ≡ a) ⊎ In c claims → (first_claim f claims ≡ None → In c claims → ⊥) → ⊥
    go true t h2 j ih = cc
    go false t h2 (inl is) ih = true≢false (sym ((bytes_eq-Decides a.folder f).1 (ap (λ (z : Claim). z.folder) (sym is) ∙ e)) ∙ t)
    go false t h2 (inr j) ih = ih h2 j

unclaimed : (f : List ℕ) (claims : List Claim) → first_claim f claims ≡ None → IsClaimed f claims → ⊥
unclaimed f claims h c =
    let at = contains_at claims c.claim c.there in
    no_claim f claims h c.claim (in_at claims at.0 c.claim at.1) c.names

pub free_identifier : (s : Sealing) (d : Disk) (tree : Tree) (is : IsTreeOf s d tree) (claims : List Claim) (t : List ℕ) → AreClaimed s tree.nodes claims →
    taken_by_identifier s d claims (Some t) ≡ None →
    (get d (host_folder (s.folder_of t)) ≡ None) × ((b : List ℕ) → get d (host_two (s.folder_of t)) ≢ Some (Bytes b)) ×
    ((q : Path) → claimed s (node_at s (folders_of s d) is.owner q) ≢ Some (s.folder_of t))
unfolding node_at
free_identifier s d tree is claims t all h = (absent, no_file_there _ _ b.0, fresh)
  where
    a : (if_there (host_folder (s.folder_of t)) (get d (host_folder (s.folder_of t))) ≡ None)
        × (or_else (if_file (host_two (s.folder_of t)) (get d (host_two (s.folder_of t)))) (first_claim (s.folder_of t) claims) ≡ None)
    a = both_none (if_there (host_folder (s.folder_of t)) (get d (host_folder (s.folder_of t)))) _ h

    b : (if_file (host_two (s.folder_of t)) (get d (host_two (s.folder_of t))) ≡ None) × (first_claim (s.folder_of t) claims ≡ None)
    b = both_none (if_file (host_two (s.folder_of t)) (get d (host_two (s.folder_of t)))) _ a.1

    absent : get d (host_folder (s.folder_of t)) ≡ None
    absent = not_there _ _ a.0

    fresh : (q : Path) → claimed s (node_at s (folders_of s d) is.owner q) ≢ Some (s.folder_of t)
    fresh [] e =
        let f : s.folder_of [] ≡ s.folder_of t = cc in
        some_there _ _ is.there (ap (λ (z : List ℕ). get d (host_folder z)) f ∙ absent)
    fresh (m ∷ q) e = unclaimed (s.folder_of t) claims b.1 (all m q (s.folder_of t) (ap (claimed s) (is.exact (m ∷ q)) ∙ e))
