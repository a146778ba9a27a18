-- What `find` says of a file.
use Rattle.std.specs.Prelude.{◌≡◌, ℕ, ◌<◌, ◌≤◌, List, length, Option, Some}
use Rattle.outside.specs.Calls.{Told}
use Rattle.outside.specs.Disk.{Disk, Path, file as file_node, node_at}
use Rattle.vault_layout.specs.Limits.{key_file_limit}
use Rattle.unlocking.specs.FromFiles as keys
use Rattle.unlocking.specs.Files.{found_at}
use Rattle.unlocking.specs.declared.finding.Found.{Found}
use Rattle.unlocking.specs.declared.finding.Found.TheVariants.{Absent, Folder, TooLong, File}

-- the file that is there is this; of one above the limit its length alone is said
abbrev pub IsFound : Found → keys.FoundFile → Type 0
IsFound Absent found = found ≡ keys.absent
IsFound Folder found = found ≡ keys.folder
IsFound (TooLong n) found = (bytes : List ℕ) × (found ≡ keys.file bytes) × (n ≡ length bytes) × (key_file_limit < n)
IsFound (File bytes) found = (found ≡ keys.file bytes.items) × (length bytes.items ≤ key_file_limit)

-- P of a key file that is seen at a path: the disk's if that is told, and else some
abbrev pub Sees : Option Disk → Path → (keys.FoundFile → Type 0) → Type 0
Sees disk path P = (seen : keys.FoundFile) × Told disk (λ d. seen ≡ found_at d path) × P seen

abbrev pub IsSeenAs : Option Disk → Path → Found → Type 0
IsSeenAs disk path found = Sees disk path (IsFound found)

-- a file of so many bytes is there
abbrev pub HasLength : Disk → Path → ℕ → Type 0
HasLength disk path n = (bytes : List ℕ) × (node_at disk path ≡ Some (file_node bytes)) × (length bytes ≡ n)
