-- What the functions over a folder learn: a host file at a short place, and the name that a `name.c9s` holds.
use Rattle.std.proofs.Common.{◌≡◌, ◌≢◌, ◌↔◌, ℕ, ◌-◌, ◌≤◌, Bool, true, false, IsTrue, List, [], ◌∷◌, ◌++◌, length, take, Option, Some, None, IsSome, Contains, refl, sym, ap, subst, ◌∙◌, arith, length-append}
use Rattle.std.specs.Option.{option_map}
use Rattle.std.specs.FinMap.{get}
use Rattle.std.proofs.lemmas.List.{take_all, take_at, length-take}
use Rattle.outside.specs.declared.folder.Kind.TheVariants.{File as FileKind}
use Rattle.outside.specs.Disk.{Disk, Path, Node as Thing, folder as Folder, file as Bytes, kind_of, kind_at, parent, IsFile, IsFolder, IsListing, IsTree}
use Rattle.vault_keys.specs.Keys.{KeyPair}
use Rattle.vault_names.specs.Sealed.{opened_name, IsSealedName}
use Rattle.vault_names.specs.Places.{ReadsLong}
use Rattle.vault_names.specs.Folder.{base32, hash_of}
use Rattle.clear_tree.specs.Walk.{Plain}
use Rattle.clear_tree.specs.Places.{bytes_of, either_kind, host_entry, host_inner, text_name}
use Rattle.tree_loading.specs.declared.found.Shown.TheVariants.{File}
use Rattle.tree_loading.specs.Format.{sealing_of}
use Rattle.tree_loading.specs.Reading.{file_at, name_in, name_limit, short_at, short_kind, is_further, HoldsFurther}
use Rattle.tree_loading.specs.Showing.{IsPlace}
use Rattle.tree_loading.specs.Entries.{IsLongName, IsNoLongName}

-- ---- a host file at a short place

node_of_file : (node : Option Thing) (size : ℕ) → Some (FileKind size) ≡ option_map kind_of node → (bytes : List ℕ) × (node ≡ Some (Bytes bytes)) × (length bytes ≡ size)
node_of_file None size e = absurd cc
node_of_file (Some Folder) size e = absurd cc
node_of_file (Some (Bytes bytes)) size e = (bytes, refl, cc)

pub named_file : (d : Disk) (path : Path) (size : ℕ) → Some (FileKind size) ≡ kind_at d path → IsFile d path
named_file d path size kind = let found = node_of_file (get d path) size kind in (found.0, found.1)

some_from : (o : Option Thing) → o ≢ None → IsSome o
some_from None h = absurd (h refl)
some_from (Some x) h = refl

parent_is : (node : Path) (entry : List ℕ) → parent (node ++ entry ∷ []) ≡ node
parent_is node entry =
    let n : length (node ++ entry ∷ []) - 1 ≡ length node = omega (arith, length-append node (entry ∷ [])) in
    ap (λ (k : ℕ). take k (node ++ entry ∷ [])) n ∙ take_at node (entry ∷ []) (length node) refl

pub file_place : (d : Disk) (node : Path) (size : ℕ) → IsTree d → Some (FileKind size) ≡ kind_at d node
    → IsPlace d node false (short_at d node) (Some (record { shown = File size; further = false }))
file_place d node size tree kind =
    let found = node_of_file (get d node) size kind in (
      Plain found.0,
      ap (λ (o : Option Thing). either_kind o (short_kind d node) None) found.1,
      record {
        shows = found.2;
        further = (
          λ (bad : false ≡ true). absurd cc,
          λ has.
              let folder : get d (parent (node ++ has.0 ∷ [])) ≡ Some Folder = tree.parents (node ++ has.0 ∷ []) (some_from (get d (node ++ has.0 ∷ [])) has.2) in
              let bad : Some (Bytes found.0) ≡ Some Folder = sym found.1 ∙ ap (λ (p : Path). get d p) (sym (parent_is node has.0)) ∙ folder in
              cc bad,
        );
      },
    )

-- ---- the names in a node folder

not_none : (o : Option Thing) → IsSome o → o ≢ None
not_none o some none = let bad : IsSome {T = Thing} None = subst IsSome none some in cc

-- its further entries, by its names
pub further_listed : (d : Disk) (node : Path) (names : List (List ℕ)) (known : List ℕ) (long further : Bool) → IsListing d node names
    → IsTrue further ↔ ((name : List ℕ) × Contains names name × IsTrue (is_further known long name)) → IsTrue further ↔ HoldsFurther d node known long
further_listed d node names known long further listing is = (
  λ yes. let found = is.0 yes in (found.0, found.2, not_none (get d (node ++ found.0 ∷ [])) ((listing.exact found.0).0 found.1)),
  λ has. is.1 (has.0, (listing.exact has.0).1 (some_from (get d (node ++ has.0 ∷ [])) has.2), has.1),
)

-- ---- the name that a node folder's `name.c9s` holds

some_named : (o : Option Thing) (text : List ℕ) → option_map (take name_limit) (bytes_of o) ≡ Some text → IsSome o
some_named None text h = absurd cc
some_named (Some x) text h = refl

pub no_folder_unnamed : (d : Disk) (node : Path) (text : List ℕ) → IsTree d → ¬ IsFolder d node → name_in d node ≡ Some text → ⊥
no_folder_unnamed d node text tree none read =
    let folder : get d (parent (node ++ text_name ∷ [])) ≡ Some Folder = tree.parents (node ++ text_name ∷ []) (some_named (get d (node ++ text_name ∷ [])) text read) in
    none (ap (λ (p : Path). get d p) (sym (parent_is node text_name)) ∙ folder)

whole : (o : Option (List ℕ)) (t : List ℕ) → length t ≤ 1392 → Some t ≡ option_map (take name_limit) o → o ≡ Some t
whole None t short e = absurd cc
whole (Some b) t short e =
    let front : take 1393 b ≡ t = cc in
    let len : length b ≤ 1393 = omega (arith, length-take 1393 b, ap length front) in
    ap Some (sym (take_all 1393 b len) ∙ front)

front : (o : Option (List ℕ)) (t : List ℕ) → length t ≤ 1392 → o ≡ Some t → option_map (take name_limit) o ≡ Some t
front o t short h = ap (option_map (take name_limit)) h ∙ ap Some (take_all 1393 t (omega arith))

module _ (keys : KeyPair) (d : Disk) (i u : List ℕ) (node : Path) (at : node ≡ host_entry (base32 (hash_of keys i)) u) (text : List ℕ) (read : Some text ≡ name_in d node) where
  read_here : Some text ≡ name_in d (host_entry (base32 (hash_of keys i)) u)
  read_here = read ∙ ap (name_in d) at

  same_text : (n t : List ℕ) → IsLongName (sealing_of keys) d i u n t → text ≡ t
  same_text n t is =
      let both : Some text ≡ Some t = read_here ∙ front (file_at d (host_inner (base32 (hash_of keys i)) u text_name)) t is.holds.short is.holds.held in cc

  pub unread : (ReadsLong u text → ⊥) → IsNoLongName (sealing_of keys) d i u
  unread other n t is = other (subst (λ (x : List ℕ). ReadsLong u x) (sym (same_text n t is)) (record { short = is.holds.short; hashed = is.holds.hashed }))

  pub unopened : None ≡ opened_name keys i text → IsNoLongName (sealing_of keys) d i u
  unopened none n t is = let bad : None ≡ Some n = none ∙ ap (opened_name keys i) (same_text n t is) ∙ is.opened.opens in cc bad

  pub long_named : (n : List ℕ) → ReadsLong u text → IsSealedName keys i text n → Some n ≡ opened_name keys i text → IsLongName (sealing_of keys) d i u n text
  long_named n reads sealed opens = record {
    holds = record {
      held = whole (file_at d (host_inner (base32 (hash_of keys i)) u text_name)) text reads.short read_here;
      hashed = reads.hashed;
      short = reads.short;
    };
    opened = record { opens = sym opens; sealed = sealed.sealed };
  }
