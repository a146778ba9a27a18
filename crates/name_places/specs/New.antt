-- The place of a new name, and a new directory (Cryptomator's vault format 8).
use Rattle.std.specs.Prelude.{◌≡◌, ℕ, List, length, Bool, true, false, not, nat_le, IsTrue}
use Rattle.uuid.specs.Parts.{with_version, with_variant}
use Rattle.uuid.specs.Text.{hyphenated_text, lower}
use Rattle.uuid.specs.declared.Version.TheVariants.{Random}
use Rattle.uuid.specs.declared.Variant.TheVariants.{RFC4122}
use Rattle.vault_path.specs.Parts.{is_part, is_path}
use Rattle.clear_tree.specs.Walk.{Sealing, is_name}
use Rattle.clear_tree.specs.Places.{host_folder}
use Rattle.tree_deed_laws.specs.Deeds.{place_of}
use Rattle.name_places.specs.declared.name.NewPlace.{NewPlace}
use Rattle.name_places.specs.declared.directory.NewDirectory.{NewDirectory}

-- a text is at its long place if it has more characters than the threshold
abbrev pub is_long : ℕ → List ℕ → Bool
is_long threshold text = not (nat_le (length text) threshold)

-- The place of a name in the directory of identifier i: that of its text by the threshold. The name opens to itself there, and host paths
-- can be made of its entry.
pub record IsNewPlace (s : Sealing) (i n : List ℕ) (threshold : ℕ) (place : NewPlace) : Type 0 where
  pub text : place.text ≡ s.seal i n
  pub long : place.long ≡ is_long threshold (s.seal i n)
  pub entry : place.entry ≡ (place_of s i n place.long).entry
  pub part : IsTrue (is_part place.entry)
  pub named : is_name n (s.open_name i (s.seal i n)) ≡ true
  pub short : place.long ≡ false → s.is_part (s.seal i n) ≡ true

-- the version 4 UUID of 16 bytes (RFC 9562, section 5.4), as text in lower case with hyphens
abbrev pub identifier_of : List ℕ → List ℕ
identifier_of drawn = hyphenated_text lower (with_version (with_variant drawn RFC4122) Random)

-- The directory of 16 drawn bytes: their identifier, and the folder of that, of which host paths can be made.
pub record IsNewDirectory (s : Sealing) (drawn : List ℕ) (directory : NewDirectory) : Type 0 where
  pub identifier : directory.identifier ≡ identifier_of drawn
  pub valid : s.valid_id directory.identifier ≡ true
  pub folder : directory.folder ≡ s.folder_of directory.identifier
  pub path : IsTrue (is_path (host_folder directory.folder))
