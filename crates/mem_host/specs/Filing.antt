-- The files of a host in memory, which have numbers from 0 on in the order in which they were made.
use Rattle.std.specs.Prelude.{◌≡◌, ◌<◌, ℕ, suc, List, [], ◌∷◌, Some}
use Rattle.std.specs.FinMap as map
use Rattle.outside.specs.Disk.{Disk}
use Rattle.host_calls.specs.declared.found.Inode.{Inode}
use Rattle.host_calls.specs.Bytes.{Filed}
use Rattle.host_calls.specs.Volume.{Names, each_value, disk_of}
use Rattle.host_calls.specs.Story.{Files, bytes_of}

-- how many there are, and what each holds
pub record Filing : Type 0 where
  pub count : ℕ
  pub held : Files

-- the inode of the file of this number
abbrev pub numbered : ℕ → Inode
numbered n = record { dev = 1; ino = n }

-- files, the first of this number
abbrev pub files_from : ℕ → List Filed → Files
files_from n [] = map.empty
files_from n (filed ∷ more) = map.insert (files_from (suc n) more) (numbered n) filed

-- an inode of one of the first so many
abbrev pub IsBelow : ℕ → Inode → Type 0
IsBelow count inode = (n : ℕ) × (n < count) × (inode ≡ numbered n)

-- each number below the count is that of a file, and no other inode is one's
pub record IsFiling (filing : Filing) : Type 0 where
  pub given : (n : ℕ) → n < filing.count → (filed : Filed) × (map.get filing.held (numbered n) ≡ Some filed)
  pub below : (inode : Inode) (filed : Filed) → map.get filing.held inode ≡ Some filed → IsBelow filing.count inode

-- what reads give
abbrev pub disk_held : Names → Filing → Disk
disk_held names filing = disk_of (record { names = names; contents = each_value bytes_of filing.held })
