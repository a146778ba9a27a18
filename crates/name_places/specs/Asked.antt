-- What a new name is asked for, and which of its places is taken.
use Rattle.std.specs.Prelude.{◌≡◌, ℕ, Bool, true, false, cond, List, Option, Some, None, IfSome}
use Rattle.std.specs.FinMap.{get}
use Rattle.std.specs.Option.{option_map, option_and_then}
use Rattle.outside.specs.Disk.{Disk, Path as HostPath}
use Rattle.vault_path.specs.Parts.{is_part}
use Rattle.vault_keys.specs.Keys.{KeyPair}
use Rattle.vault_names.specs.Places.{long_folder}
use Rattle.clear_tree.specs.Walk.{Sealing}
use Rattle.clear_tree.specs.Places.{host_two, host_folder, host_entry, host_inner, text_dir}
use Rattle.tree_loading.specs.Format.{sealing_of}
use Rattle.tree_deed_laws.specs.Taken.{or_else, if_there, if_file, taken}
use Rattle.live_tree.specs.Held.{HeldNode, HeldTree, IsTree, node_of, parent_folder}
use Rattle.name_places.specs.declared.name.NewPlace.{NewPlace}
use Rattle.name_places.specs.declared.directory.NewDirectory.{NewDirectory}
use Rattle.name_places.specs.Claims.{AreClaimsOf, HaveHostEntries, claims_in, number_in}

-- The place is that of a name in the directory of identifier i, whose folder is the parent's; the directory that is drawn, if any, has the
-- folder of its identifier; and the claims are those of a tree that a disk may have.
pub record IsAsked (s : Sealing) (i n parent : List ℕ) (place : NewPlace) (drawn : Option NewDirectory) (tree : HeldTree) (claims : List (List ℕ × ℕ)) : Type 0 where
  pub above : parent ≡ s.folder_of i
  pub text : place.text ≡ s.seal i n
  pub own : IfSome drawn (λ directory. directory.folder ≡ s.folder_of directory.identifier)
  pub is_tree : IsTree tree
  pub entries : HaveHostEntries tree
  pub indexed : AreClaimsOf s tree claims

abbrev pub identifier_in : Option NewDirectory → Option (List ℕ)
identifier_in drawn = option_map (λ (directory : NewDirectory). directory.identifier) drawn

-- the path is the first that is taken, on this disk
abbrev pub IsTaken : List ℕ → NewPlace → Option NewDirectory → HeldTree → List (List ℕ × ℕ) → Option HostPath → Disk → Type 0
IsTaken parent place drawn tree claims path d = (keys : KeyPair) (i n : List ℕ) → IsAsked (sealing_of keys) i n parent place drawn tree claims
    → path ≡ taken (sealing_of keys) d (claims_in (sealing_of keys) tree) i n (identifier_in drawn)

-- ---- the same by what is looked at

-- by the 32 characters of a folder and a text
abbrev pub taken_short : Disk → List ℕ → List ℕ → Option HostPath
taken_short d h t = if_there (host_entry h t) (cond (is_part t) (get d (host_entry h t)) None)

abbrev pub taken_place : Disk → List ℕ → List ℕ → Option HostPath
taken_place d h t = or_else (taken_short d h t) (if_there (host_entry h (long_folder t)) (get d (host_entry h (long_folder t))))

-- by the 32 characters of a new folder and the path of a claim
abbrev pub taken_folder : Disk → List ℕ → Option HostPath → Option HostPath
taken_folder d f claim = or_else (if_there (host_folder f) (get d (host_folder f))) (or_else (if_file (host_two f) (get d (host_two f))) claim)

abbrev pub path_where : Bool → HostPath → Option HostPath
path_where true path = Some path
path_where false path = None

abbrev pub claim_in : HeldTree → HeldNode → Option HostPath
claim_in tree node = option_and_then (λ above. path_where (is_part node.kept.entry) (host_inner above node.kept.entry text_dir)) (parent_folder tree node.kept)

-- the `dir.c9r` of the node that the index has for a folder
abbrev pub claim_path : HeldTree → List (List ℕ × ℕ) → List ℕ → Option HostPath
claim_path tree claims f = option_and_then (λ number. option_and_then (claim_in tree) (node_of tree number)) (number_in claims f)
