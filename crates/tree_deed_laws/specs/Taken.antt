-- When a place that a change needs is taken already.
use Rattle.std.specs.Prelude.{◌≡◌, ℕ, cond, List, [], ◌∷◌, Option, Some, None, bytes_eq, Contains}
use Rattle.std.specs.FinMap.{get}
use Rattle.outside.specs.Disk.{Disk, Node as Thing, folder as Folder, file as Bytes, Path as HostPath}
use Rattle.clear_tree.specs.Walk.{Path, Sealing, claimed}
use Rattle.clear_tree.specs.Places.{entry_at, host_two, host_folder, host_entry}
use Rattle.clear_tree.specs.Rows.{Nodes}

-- a folder that a node names, and where the `dir.c9r` is that names it
pub record Claim : Type 0 where
  pub folder : List ℕ
  pub place : HostPath

-- among the claims is one of this folder
pub record IsClaimed (folder : List ℕ) (claims : List Claim) : Type 0 where
  pub claim : Claim
  pub there : Contains claims claim
  pub names : claim.folder ≡ folder

-- each node below the root that names a folder, a directory or a Bad node, has its claim
abbrev pub AreClaimed : Sealing → Nodes → List Claim → Type 0
AreClaimed s nodes claims = (n : List ℕ) (p : Path) (f : List ℕ) → claimed s (get nodes (n ∷ p)) ≡ Some f → IsClaimed f claims

abbrev pub or_else : Option HostPath → Option HostPath → Option HostPath
or_else (Some p) other = Some p
or_else None other = other

abbrev pub if_there : HostPath → Option Thing → Option HostPath
if_there p None = None
if_there p (Some x) = Some p

abbrev pub if_file : HostPath → Option Thing → Option HostPath
if_file p None = None
if_file p (Some Folder) = None
if_file p (Some (Bytes b)) = Some p

-- the place of the first claim of a folder; claims are in the order of their nodes' numbers
abbrev pub first_claim : List ℕ → List Claim → Option HostPath
first_claim f [] = None
first_claim f (claim ∷ claims) = cond (bytes_eq claim.folder f) (Some claim.place) (first_claim f claims)

-- of an identifier that was drawn: its folder, a file at that folder's part of two characters, and a node that names the folder
abbrev pub taken_by_identifier : Sealing → Disk → List Claim → Option (List ℕ) → Option HostPath
taken_by_identifier s d claims None = None
taken_by_identifier s d claims (Some t) =
    or_else (if_there (host_folder (s.folder_of t)) (get d (host_folder (s.folder_of t))))
    (or_else (if_file (host_two (s.folder_of t)) (get d (host_two (s.folder_of t)))) (first_claim (s.folder_of t) claims))

-- Of a new name in the directory of an identifier, with the identifier that was drawn, if any: the first that is there of its short place, if
-- that is a part of a path, its long place, and those of the identifier.
abbrev pub taken : Sealing → Disk → List Claim → List ℕ → List ℕ → Option (List ℕ) → Option HostPath
taken s d claims i n drawn =
    or_else (if_there (host_entry (s.folder_of i) (s.seal i n)) (entry_at s d (s.folder_of i) (s.seal i n)))
    (or_else (if_there (host_entry (s.folder_of i) (s.long_of (s.seal i n))) (get d (host_entry (s.folder_of i) (s.long_of (s.seal i n)))))
    (taken_by_identifier s d claims drawn))
