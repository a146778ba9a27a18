-- The value that is written, by the texts of its members.
use Rattle.std.specs.Prelude.{ℕ, List, codes}
use Rattle.serde_json.specs.Data.{Data, number, string, object, unsigned, member, no_members}
use Rattle.masterkey_file.specs.KeyFile.{new_block_size, new_cost}

abbrev pub value_of_texts : List ℕ → List ℕ → List ℕ → List ℕ → Data
value_of_texts mac_key encryption_key salt version_mac =
    object (member (codes "hmacMasterKey") (string mac_key)
    (member (codes "primaryMasterKey") (string encryption_key)
    (member (codes "scryptBlockSize") (number (unsigned new_block_size))
    (member (codes "scryptCostParam") (number (unsigned new_cost))
    (member (codes "scryptSalt") (string salt)
    (member (codes "version") (number (unsigned 999))
    (member (codes "versionMac") (string version_mac) no_members)))))))
