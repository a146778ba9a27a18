-- The nodes of a whole listing are exactly the directory's.
use Rattle.std.proofs.Common.{◌≡◌, ◌≢◌, ℕ, Bool, List, [], ◌∷◌, ◌++◌, Option, Some, None, IsSome, Contains, refl, sym, ap, subst, ◌∙◌}
use Rattle.std.specs.Ordering.{nat_cmp}
use Rattle.std.specs.Cmp.{eq_by_cmp_equiv}
use Rattle.std.specs.Cmp.Lexicographic.{slice_cmp, nat_list_cmp_total}
use Rattle.std.specs.List.Sorted.{IsStrictlySortedBy}
use Rattle.std.specs.Map.{keys_of}
use Rattle.std.proofs.lemmas.List.Elements.{All-contains, All-contains_itself, All-weaker, All-map}
use Rattle.std.proofs.lemmas.Map.Keys.{IsDistinct-from_sorted}
use Rattle.std.proofs.lemmas.Map.Lookups.{exact_bytes}
use Rattle.std.proofs.lemmas.Map.Views.{lookup-from_Contains, Contains-keys_from_lookup, tells_apart}
use Rattle.outside.specs.Disk.{Disk, Path, Node as Thing, node_at, IsTree, IsListing}
use Rattle.clear_tree.specs.Walk.{Sealing, Kind, Bare, look}
use Rattle.clear_tree.specs.Places.{folders_of, host_folder, entry_of}
use Rattle.clear_tree.specs.Scan.{Found, IsFound, IsScanned, names_of}
use Rattle.tree_loading.specs.declared.found.FoundNode.{FoundNode}
use Rattle.tree_loading.specs.Ciphers.{AreCiphers}
use Rattle.tree_loading.specs.Scanned.{found_of, all_found}
use Rattle.tree_loading.specs.Entries.{AreThere, IsGathered}
use Rattle.tree_loading.proofs.Cases.{entry_there}

abbrev Nodes : Type 0
Nodes = List (List ℕ × FoundNode)

pub names : (nodes : Nodes) → names_of (all_found nodes) ≡ keys_of nodes
names [] = refl
names (x ∷ xs) = ap (λ (ns : List (List ℕ)). x.0 ∷ ns) (names xs)

-- nodes by name are in order
pub found_sorted : (nodes : Nodes) (found : List Found) → found ≡ all_found nodes → IsStrictlySortedBy (slice_cmp nat_cmp) (keys_of nodes) → IsStrictlySortedBy (slice_cmp nat_cmp) (names_of found)
found_sorted nodes found is sorted = subst (λ (ns : List (List ℕ)). IsStrictlySortedBy (slice_cmp nat_cmp) ns) (sym (ap names_of is ∙ names nodes)) sorted

pub none_sorted : (found : List Found) (nodes : Nodes) → nodes ≡ [] → found ≡ all_found nodes → IsStrictlySortedBy (slice_cmp nat_cmp) (names_of found)
unfolding IsStrictlySortedBy
none_sorted found nodes none is = subst (λ (f : List Found). IsStrictlySortedBy (slice_cmp nat_cmp) (names_of f)) (sym (is ∙ ap all_found none)) tt

some_from : (o : Option Thing) → o ≢ None → IsSome o
some_from None h = absurd (h refl)
some_from (Some x) h = refl

not_none : (o : Option Thing) → IsSome o → o ≢ None
not_none o some none = let bad : IsSome {T = Thing} None = subst IsSome none some in cc

module _ (s : Sealing) (laws : AreCiphers s) (d : Disk) (i : List ℕ) (entries : List (List ℕ)) (tree : IsTree d) (listing : IsListing d (host_folder (s.folder_of i)) entries) where
  all_there : AreThere s d i entries
  all_there u among = record { tree = tree; there = not_none (node_at d (host_folder (s.folder_of i) ++ u ∷ [])) ((listing.exact u).0 among) }

  module _ (nodes : Nodes) (b : Bool) (sorted : IsStrictlySortedBy (slice_cmp nat_cmp) (keys_of nodes)) (all : IsGathered s d i entries nodes b) where
    each : (e : List ℕ × FoundNode) → Contains nodes e → IsFound s d i (found_of e)
    each e inside =
        all.sound e.0 e.1 (lookup-from_Contains (eq_by_cmp_equiv nat_list_cmp_total) e.0 e.1 nodes (IsDistinct-from_sorted (slice_cmp nat_cmp) (keys_of nodes) sorted) inside)

    complete : (name : List ℕ) (kind : Kind) → look s (folders_of s d) i name ≡ Some kind → kind ≢ Bare → Contains (names_of (all_found nodes)) name
    complete name kind shown known =
        let among : Contains entries (entry_of s d (s.folder_of i) (s.seal i name)) =
        (listing.exact (entry_of s d (s.folder_of i) (s.seal i name))).1
        (entry_there s laws d i (entry_of s d (s.folder_of i) (s.seal i name)) tree (record { name = name; kind = kind; shown = shown; known = known; place = refl })) in
        subst (λ (ns : List (List ℕ)). Contains ns name) (sym (names nodes)) (Contains-keys_from_lookup (tells_apart exact_bytes) name nodes (all.complete name kind shown known among))

    gathered_scanned : IsScanned s d i (all_found nodes) b
    gathered_scanned = record {
      sound = λ f inside. All-contains (IsFound s d i) (all_found nodes) f
          (All-map (IsFound s d i) found_of nodes (All-weaker (Contains nodes) (λ (e : List ℕ × FoundNode). IsFound s d i (found_of e)) each nodes (All-contains_itself nodes))) inside;
      complete = complete;
      ascending = subst (λ (ns : List (List ℕ)). IsStrictlySortedBy (slice_cmp nat_cmp) ns) (sym (names nodes)) sorted;
      marked = (
        λ is. let found = all.marked.0 is in (found.0, found.2),
        λ found. all.marked.1 (found.0, (listing.exact found.0).1 (some_from (node_at d (host_folder (s.folder_of i) ++ found.0 ∷ [])) found.1.there), found.1),
      );
    }

-- the listing of a directory's folder and what was gathered of it say what the folder shows
pub is_scanned : (s : Sealing) (laws : AreCiphers s) (d : Disk) (i : List ℕ) (folder : Path) (entries : List (List ℕ)) (gathered nodes : Nodes) (b : Bool)
    → folder ≡ host_folder (s.folder_of i) → nodes ≡ gathered → IsStrictlySortedBy (slice_cmp nat_cmp) (keys_of nodes) → IsTree d → IsListing d folder entries
    → (AreThere s d i entries → IsGathered s d i entries gathered b) → IsScanned s d i (all_found nodes) b
is_scanned s laws d i folder entries gathered nodes b at same sorted tree listing all =
    let listed : IsListing d (host_folder (s.folder_of i)) entries = subst (λ (p : Path). IsListing d p entries) at listing in
    gathered_scanned s laws d i entries tree listed nodes b sorted
    (subst (λ (ns : Nodes). IsGathered s d i entries ns b) (sym same) (all (all_there s laws d i entries tree listed)))
