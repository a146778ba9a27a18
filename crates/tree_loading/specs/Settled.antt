-- What a node is, as it is settled.
use Rattle.std.specs.Prelude.{◌≡◌, ℕ, List}
use Rattle.std.specs.BTreeSet.{BTreeSet}
use Rattle.outside.specs.Disk.{Disk}
use Rattle.vault_keys.specs.Keys.{KeyPair}
use Rattle.clear_tree.specs.Places.{folders_of}
use Rattle.clear_tree.specs.Built.{kept_what}
use Rattle.clear_tree.specs.Scan.{Shown}
use Rattle.clear_tree.specs.Loading.{new_what, names_again, with_claims}
use Rattle.tree_loading.specs.Format.{sealing_of}
use Rattle.tree_loading.specs.declared.naming.Settled.{Settled}
use Rattle.tree_loading.specs.Under.{is_claimed}

pub record IsSettled (keys : KeyPair) (d : Disk) (claims : BTreeSet (List ℕ)) (shown : Shown) (settled : Settled) : Type 0 where
  pub what : kept_what settled.what ≡ new_what (sealing_of keys) (folders_of (sealing_of keys) d).present (is_claimed claims) shown
  pub again : settled.again ≡ names_again (sealing_of keys) (is_claimed claims) shown

-- the folder that this names is named now, beside those of before
abbrev pub Claims : KeyPair → BTreeSet (List ℕ) → BTreeSet (List ℕ) → Shown → Type 0
Claims keys old new shown = (folder : List ℕ) → is_claimed new folder ≡ with_claims (sealing_of keys) (is_claimed old) shown folder
