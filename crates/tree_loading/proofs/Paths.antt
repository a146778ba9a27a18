-- The paths of a directory's folder, of its entries and of what is in them.
use Rattle.std.proofs.Common.{◌≡◌, ℕ, ◌≤◌, true, List, [], ◌∷◌, ◌++◌, length, refl, arith, length-append}
use Rattle.std.proofs.lemmas.Bool.Decides.{nat_tests}
use Rattle.std.proofs.lemmas.List.Folds.{list_all-append}
use Rattle.vault_path.specs.Parts.{is_part, is_path}
use Rattle.vault_keys.specs.Keys.{KeyPair}
use Rattle.vault_names.specs.Folder.{base32, hash_of}
use Rattle.vault_names.proofs.PartLemmas.{is_path-digits}
use Rattle.clear_tree.specs.Places.{host_folder}
use Rattle.tree_loading.specs.Reading.{CanHoldNodes}

longer : (parts : List (List ℕ)) (part : List ℕ) → length parts ≤ 5 → is_path parts ≡ true → is_part part ≡ true → is_path (parts ++ part ∷ []) ≡ true
longer parts part few path is = grind (arith, nat_tests, list_all-append is_part parts (part ∷ []), length-append parts (part ∷ []))

pub is_part-last : (parts : List (List ℕ)) (part : List ℕ) → is_path (parts ++ part ∷ []) ≡ true → is_part part ≡ true
is_part-last parts part path = grind (arith, nat_tests, list_all-append is_part parts (part ∷ []))

nodes_of : (parts : List (List ℕ)) → length parts ≡ 3 → is_path parts ≡ true → CanHoldNodes parts
nodes_of parts three path = record {
  entries = λ part is. longer parts part (omega arith) path is;
  inner = λ entry good part is.
      longer (parts ++ entry ∷ []) part (omega (arith, length-append parts (entry ∷ []))) (longer parts entry (omega arith) path good) is;
}

-- the folder of a directory, by its 32 characters
pub CanHoldNodes-host_folder : (keys : KeyPair) (identifier : List ℕ) → CanHoldNodes (host_folder (base32 (hash_of keys identifier)))
CanHoldNodes-host_folder keys identifier = nodes_of (host_folder (base32 (hash_of keys identifier))) refl (is_path-digits (hash_of keys identifier))
