-- What is taken for a new name in a directory that isn't marked.
use Rattle.std.proofs.Common.{◌≡◌, ◌≢◌, ℕ, ◌==◌, Bool, true, false, cond, List, Option, Some, None, IsSome, Result, Ok, Err, refl, sym, ap, ◌∙◌, inl, inr, ◌⊎◌, arith}
use Rattle.std.specs.Option.{option_and_then}
use Rattle.std.specs.FinMap.{get}
use Rattle.outside.specs.Disk.{Disk, Node as Thing, folder as Folder, file as Bytes, Path as HostPath}
use Rattle.pending_files.specs.Laid.{LookAlike, outline}
use Rattle.vault_keys.specs.Keys.{KeyPair}
use Rattle.tree_model.specs.Names.{NameFault, clear_name}
use Rattle.tree_model.specs.Rows.{Content, Rows}
use Rattle.clear_tree.specs.Walk.{Sealing}
use Rattle.clear_tree.specs.Places.{entry_at, host_entry}
use Rattle.clear_tree.specs.Kept.{What, KeptFile, KeptLink, KeptDir, KeptBad}
use Rattle.vault_names.proofs.Opening.{and_then_some}
use Rattle.tree_loading.specs.Format.{sealing_of}
use Rattle.tree_deed_laws.specs.Taken.{if_there, or_else, taken, taken_by_identifier}
use Rattle.live_tree.specs.Held.{HeldNode, HeldTree, node_of, live_row, live_rows, IsFree}
use Rattle.live_tree_laws.proofs.Numbers.{nodes_have_rows}
use Rattle.name_places.specs.Claims.{claims_in}
use Rattle.node_changes.specs.Changed.{StandsOn}
use Rattle.node_changes.specs.Placed.{identifier_at, identifier_in, name_of, taken_in}
use Rattle.store_laws.specs.Places.{AreUnmarked, IsAnothersPlace}
use Rattle.store_laws.proofs.Directory.{IsAnother, long_is_anothers, short_is_free}
use Rattle.store_laws.proofs.Clear.{clear_names_are_valid}
use Rattle.store_laws.proofs.Names.{sealing_tells_names}
use Rattle.store_laws.proofs.Unmarked.{found_unmarked}

-- ---- what is there on a disk that looks alike

there_too : (x y : Option Thing) → outline y ≡ outline x → x ≢ None → y ≢ None
there_too None y same some none = some refl
there_too (Some Folder) y same some none = let e : ◌≡◌ {A = Option Thing} None (Some Folder) = sym (ap outline none) ∙ same in absurd cc
there_too (Some (Bytes b)) y same some none = let e : ◌≡◌ {A = Option Thing} None (Some (Bytes _)) = sym (ap outline none) ∙ same in absurd cc

entry_too : (part : Bool) (x y : Option Thing) → outline y ≡ outline x → cond part x None ≢ None → cond part y None ≢ None
entry_too true x y same some = there_too x y same some
entry_too false x y same some = some

-- ---- which of the places it is

which : (p q : HostPath) (x y : Option Thing) (z : Option HostPath) (path : HostPath) → or_else (if_there p x) (or_else (if_there q y) z) ≡ Some path
    → (x ≢ None) ⊎ (((path ≡ q) × (y ≢ None)) ⊎ (z ≡ Some path))
which p q (Some a) y z path h = inl (λ e. cc)
which p q None (Some b) z path h = inr (inl (let e : q ≡ path = cc in sym e, λ e. cc))
which p q None None z path h = inr (inr h)

name_is : (r : Result (List ℕ) NameFault) (n : List ℕ) → name_of r ≡ Some n → r ≡ Ok n
name_is (Ok m) n e = let same : m ≡ n = cc in ap Ok same
name_is (Err fault) n e = absurd cc

directory_is : (what : What) (i : List ℕ) → identifier_in what ≡ Some i → (folder : List ℕ) × (what ≡ KeptDir i folder)
directory_is (KeptFile size) i e = absurd cc
directory_is (KeptLink size) i e = absurd cc
directory_is (KeptDir j folder) i e = let same : j ≡ i = cc in (folder, ap (λ (k : List ℕ). KeptDir k folder) same)
directory_is (KeptBad text) i e = absurd cc

pub drawn_one : (s : Sealing) (d : Disk) (live : HeldTree) (drawn : Option (List ℕ)) (path : HostPath) → taken_by_identifier s d (claims_in s live) drawn ≡ Some path → IsSome drawn
drawn_one s d live None path e = absurd cc
drawn_one s d live (Some t) path e = refl

-- a directory, a clear name, and the place that is taken for it there
pub record IsSite (s : Sealing) (d : Disk) (live : HeldTree) (parent : ℕ) (name : List ℕ) (drawn : Option (List ℕ)) (path : HostPath) : Type 0 where
  pub held : HeldNode
  pub there : node_of live parent ≡ Some held
  pub identifier : List ℕ
  pub folder : List ℕ
  pub dir : held.kept.what ≡ KeptDir identifier folder
  pub directory : identifier_at live parent ≡ Some identifier
  pub clear : List ℕ
  pub clear_is : clear_name name ≡ Ok clear
  pub found : taken s d (claims_in s live) identifier clear drawn ≡ Some path

pub site : (s : Sealing) (d : Disk) (live : HeldTree) (parent : ℕ) (name : List ℕ) (drawn : Option (List ℕ)) (path : HostPath) → taken_in s d live parent name drawn ≡ Some path → IsSite s d live parent name drawn path
site s d live parent name drawn path h =
    let i = and_then_some (λ i. option_and_then (λ n. taken s d (claims_in s live) i n drawn) (name_of (clear_name name))) (identifier_at live parent) path h in
    let n = and_then_some (λ n. taken s d (claims_in s live) i.0 n drawn) (name_of (clear_name name)) path i.2 in
    let held = and_then_some (λ (node : HeldNode). identifier_in node.kept.what) (node_of live parent) i.0 i.1 in
    let dir = directory_is held.0.kept.what i.0 held.2 in
    record {
      held = held.0;
      there = held.1;
      identifier = i.0;
      folder = dir.0;
      dir = dir.1;
      directory = i.1;
      clear = n.0;
      clear_is = name_is (clear_name name) n.0 n.1;
      found = n.2;
    }

module _ (keys : KeyPair) (disk later : Disk) (alike : LookAlike disk later) (live : HeldTree) (claims : List (List ℕ × ℕ)) (contents : ℕ → Content) (stands : StandsOn (sealing_of keys) later live claims contents)
    (unmarked : AreUnmarked (live_rows contents live)) where
  abbrev s : Sealing
  s = sealing_of keys

  abbrev its : Rows
  its = live_rows contents live

  no_mark : (number : ℕ) (held : HeldNode) → node_of live number ≡ Some held → held.kept.foreign ≡ false
  no_mark number held there = found_unmarked (λ row. row.number == number) its.nodes (live_row contents (number, held)) unmarked (nodes_have_rows live contents number held there)

  -- if the name is free in the directory
  pub at_site : (parent : ℕ) (name : List ℕ) (drawn : Option (List ℕ)) (path : HostPath) (it : IsSite (sealing_of keys) disk live parent name drawn path) → IsFree live parent it.clear
      → IsAnothersPlace (sealing_of keys) live parent name path ⊎ (taken_by_identifier (sealing_of keys) disk (claims_in (sealing_of keys) live) drawn ≡ Some path)
  at_site parent name drawn path it free =
      go (which (host_entry h t) (host_entry h (s.long_of t)) (entry_at s disk h t) (get disk (host_entry h (s.long_of t))) (taken_by_identifier s disk (claims_in s live) drawn) path it.found)
    where
      h : List ℕ
      h = s.folder_of it.identifier

      t : List ℕ
      t = s.seal it.identifier it.clear

      go : (entry_at s disk h t ≢ None) ⊎ (((path ≡ host_entry h (s.long_of t)) × (get disk (host_entry h (s.long_of t)) ≢ None)) ⊎ (taken_by_identifier s disk (claims_in s live) drawn ≡ Some path))
          → IsAnothersPlace s live parent name path ⊎ (taken_by_identifier s disk (claims_in s live) drawn ≡ Some path)
      go (inl some) =
          absurd (short_is_free s (sealing_tells_names keys) later stands.tree live stands.is stands.holds parent it.held it.there it.identifier it.folder it.dir (no_mark parent it.held it.there) it.clear free
          (clear_names_are_valid name it.clear it.clear_is) (entry_too (s.is_part t) (get disk (host_entry h t)) (get later (host_entry h t)) (alike (host_entry h t) (omega arith)) some))
      go (inr (inl long)) =
          let other : IsAnother live parent it.clear (s.long_of t) =
          long_is_anothers s (sealing_tells_names keys) later stands.tree live stands.is stands.holds parent it.held it.there it.identifier it.folder it.dir (no_mark parent it.held it.there) it.clear free
          (there_too (get disk (host_entry h (s.long_of t))) (get later (host_entry h (s.long_of t))) (alike (host_entry h (s.long_of t)) (omega arith)) long.1) in
          inl (record {
            identifier = it.identifier;
            directory = it.directory;
            clear = it.clear;
            clear_is = it.clear_is;
            path_is = long.0;
            number = other.number;
            node = other.node;
            child = other.child;
            another = other.another;
            there = other.there;
          })
      go (inr (inr drew)) = inr drew
