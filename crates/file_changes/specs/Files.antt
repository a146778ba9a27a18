-- Which host files can be rewritten, and what is sealed for one.
use Rattle.std.specs.Prelude.{◌≡◌, ℕ, List, Option, Some}
use Rattle.outside.specs.Calls.{Told}
use Rattle.outside.specs.Disk.{Disk, Path as HostPath, IsTree, node_at as thing_at, file as host_file}
use Rattle.outside.specs.Images.{Log, disk_in}
use Rattle.vault_keys.specs.Keys.{KeyPair}
use Rattle.tree_model.specs.Rows.{Content}
use Rattle.file_chunks.specs.File.{content_of}
use Rattle.content_reader.specs.Reading.{IsFileOf as IsHostFileOf}
use Rattle.content_laws.specs.Rewriting.{Rewriting, CanPut}
use Rattle.content_laws.specs.Laws.{IsRewritten}

-- a host file at a path can be rewritten so
pub record HasFileFor (d : Disk) (path : HostPath) (r : Rewriting) : Type 0 where
  pub tree : IsTree d
  pub bytes : List ℕ
  pub there : thing_at d path ≡ Some (host_file bytes)
  pub can : CanPut bytes r

-- the chunks that are sealed make this change of the content of a host file at a path, whatever its bytes are
abbrev pub IsSealedFor : KeyPair → HostPath → ℕ → Rewriting → (Content → Option Content) → Disk → Type 0
IsSealedFor keys path size r change d = (bytes : List ℕ) → IsHostFileOf d path size bytes → IsRewritten keys bytes r (change (content_of keys bytes))

-- and of the one that is told
abbrev pub IsSealedIn : KeyPair → HostPath → ℕ → Rewriting → (Content → Option Content) → Option Log → Type 0
IsSealedIn keys path size r change log = Told (disk_in log) (IsSealedFor keys path size r change)
