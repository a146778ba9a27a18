-- What the folder of one directory shows: its nodes by name, and whether it has foreign entries.
use Rattle.std.specs.Prelude.{◌≡◌, ◌≢◌, ◌↔◌, ℕ, List, length, map, Bool, Some, IsTrue, Contains}
use Rattle.std.specs.Ordering.{nat_cmp}
use Rattle.std.specs.Cmp.Lexicographic.{slice_cmp}
use Rattle.std.specs.List.Sorted.{IsStrictlySortedBy}
use Rattle.outside.specs.Disk.{Disk}
use Rattle.clear_tree.specs.Walk.{Sealing, Kind, Plain, Named, Linked, Bare, look}
use Rattle.clear_tree.specs.Places.{folders_of, entry_at, entry_of}
use Rattle.clear_tree.specs.Marks.{Foreign, IsShadowed}
use Rattle.clear_tree.specs.Kept.{is_absent, kept_text}

-- what an entry shows: a file or a link with the size of its host file in bytes, or the text of a `dir.c9r`, as far as it is kept
pub data Shown : Type 0 where
  ShownFile : ℕ → Shown
  ShownLink : ℕ → Shown
  ShownText : List ℕ → Shown

-- a node of the directory: its name, its entry, and whether that is the long place
pub record Found : Type 0 where
  pub name : List ℕ
  pub entry : List ℕ
  pub long : Bool
  pub shown : Shown
  pub shadowed : Bool

abbrev pub ShowsAs : Kind → Shown → Type 0
ShowsAs (Plain b) (ShownFile size) = length b ≡ size
ShowsAs (Plain b) (ShownLink size) = ⊥
ShowsAs (Plain b) (ShownText text) = ⊥
ShowsAs (Linked b) (ShownFile size) = ⊥
ShowsAs (Linked b) (ShownLink size) = length b ≡ size
ShowsAs (Linked b) (ShownText text) = ⊥
ShowsAs (Named t) (ShownFile size) = ⊥
ShowsAs (Named t) (ShownLink size) = ⊥
ShowsAs (Named t) (ShownText text) = text ≡ kept_text t
ShowsAs Bare shown = ⊥

-- a node as it was found is one of the directory of an identifier
pub record IsFound (s : Sealing) (d : Disk) (identifier : List ℕ) (found : Found) : Type 0 where
  pub kind : Kind
  pub looked : look s (folders_of s d) identifier found.name ≡ Some kind
  pub shows : ShowsAs kind found.shown
  pub entry : found.entry ≡ entry_of s d (s.folder_of identifier) (s.seal identifier found.name)
  pub long : found.long ≡ is_absent (entry_at s d (s.folder_of identifier) (s.seal identifier found.name))
  pub shadowed : IsTrue found.shadowed ↔ IsShadowed s d identifier found.name

abbrev pub names_of : List Found → List (List ℕ)
names_of found = map (λ f. f.name) found

-- All nodes of the directory of an identifier were found, in the order of their names' bytes, and whether its folder has foreign entries.
pub record IsScanned (s : Sealing) (d : Disk) (identifier : List ℕ) (found : List Found) (foreign : Bool) : Type 0 where
  pub sound : (f : Found) → Contains found f → IsFound s d identifier f
  pub complete : (name : List ℕ) (kind : Kind) → look s (folders_of s d) identifier name ≡ Some kind → kind ≢ Bare → Contains (names_of found) name
  pub ascending : IsStrictlySortedBy (slice_cmp nat_cmp) (names_of found)
  pub marked : IsTrue foreign ↔ Foreign s d identifier
