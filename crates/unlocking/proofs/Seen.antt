-- What is seen at a path, by what the folder answered.
use Rattle.std.proofs.Common.{◌≡◌, ℕ, List, length, replicate, Option, Some, None, refl, sym, ap, subst, ◌∙◌}
use Rattle.std.specs.Option.{option_map}
use Rattle.std.proofs.lemmas.List.{length-replicate}
use Rattle.outside.specs.Calls.{Told}
use Rattle.outside.specs.Disk.{Disk, Path, Node, folder, file, node_at, kind_of, kind_at}
use Rattle.outside.specs.Images.{Log, disk_in}
use Rattle.outside.specs.declared.folder.Kind.{Kind}
use Rattle.outside.specs.declared.folder.Kind.TheVariants.{File}
use Rattle.unlocking.specs.FromFiles as keys
use Rattle.unlocking.specs.Files.{found_in}
use Rattle.unlocking.specs.Finding.{Sees}

-- a node whose kind is a file of so many bytes
file_node : (n : ℕ) (node : Option Node) → Some (File n) ≡ option_map kind_of node → (bytes : List ℕ) × (node ≡ Some (file bytes)) × (n ≡ length bytes)
file_node n None e = absurd cc
file_node n (Some folder) e = absurd cc
file_node n (Some (file bytes)) e = (bytes, refl, cc)

abbrev IsOf : ℕ → (ℕ → Type 0) → keys.FoundFile → Type 0
IsOf n P seen = (bytes : List ℕ) × (seen ≡ keys.file bytes) × (n ≡ length bytes) × P n

-- a file of so many bytes is seen
pub length_seen : (disk : Option Disk) (path : Path) (kind : Option Kind) (n : ℕ) (P : ℕ → Type 0) → kind ≡ Some (File n) → Told disk (λ d. kind ≡ kind_at d path) → P n → Sees disk path (IsOf n P)
length_seen None path kind n P is told p = (keys.file (replicate n 0), tt, (replicate n 0, refl, sym (length-replicate n 0), p))
length_seen (Some d) path kind n P is told p =
    let f = file_node n (node_at d path) (sym is ∙ told) in
    (keys.file f.0, ap found_in (sym f.1), (f.0, refl, f.2, p))

whole : (disk : Option Disk) (path : Path) (bytes : List ℕ) (P : Type 0) → Told disk (λ d. node_at d path ≡ Some (file bytes)) → P → Sees disk path (λ seen. (seen ≡ keys.file bytes) × P)
whole None path bytes P told p = (keys.file bytes, tt, (refl, p))
whole (Some d) path bytes P told p = (keys.file bytes, ap found_in (sym told), (refl, p))

-- a file with these bytes is seen
pub bytes_seen : (log later : Option Log) (path : Path) (bytes : List ℕ) (P : Type 0) → later ≡ log → Told (disk_in later) (λ d. node_at d path ≡ Some (file bytes)) → P
    → Sees (disk_in log) path (λ seen. (seen ≡ keys.file bytes) × P)
bytes_seen log later path bytes P same told p = subst (λ l. Sees (disk_in l) path (λ seen. (seen ≡ keys.file bytes) × P)) same (whole (disk_in later) path bytes P told p)
