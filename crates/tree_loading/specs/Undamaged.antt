-- A vault's disk without damage, as far as it can be seen: every node is what the format makes, every byte of a content opens, and
-- nothing is marked.
use Rattle.std.specs.Prelude.{◌≡◌, ◌≢◌, ⊤, ℕ, false, IsTrue}
use Rattle.std.specs.List.{AllByRecursion}
use Rattle.outside.specs.Disk.{Disk}
use Rattle.vault_keys.specs.Keys.{KeyPair}
use Rattle.tree_model.specs.declared.refusal.Refusal.TheVariants as refusals
use Rattle.tree_model.specs.Rows.{Cell, good, damaged, Content, bad_size, chunks, Row, Rows, bad}
use Rattle.tree_model.specs.Asked.{read}
use Rattle.tree_model.specs.Step.{step, refuses}
use Rattle.tree_loading.specs.Clear.{IsClear}

-- a chunk that opens
abbrev pub IsGood : Cell → Type 0
IsGood (good bytes) = ⊤
IsGood (damaged n) = ⊥

-- a content of a good size whose header and chunks open. That of a directory is such a one
abbrev pub IsWhole : Content → Type 0
IsWhole bad_size = ⊥
IsWhole (chunks opens cells) = IsTrue opens × AllByRecursion IsGood cells

-- a node that isn't Bad, of whole content, and without a mark
pub record IsSound (row : Row) : Type 0 where
  pub good : row.kind ≢ bad
  pub whole : IsWhole row.content
  pub unforeign : row.foreign ≡ false
  pub unshadowed : row.shadowed ≡ false

-- A disk without damage under these keys: its clear rows, of a vault that is unlocked at some second, are sound, and no identifier is
-- named twice.
pub record Undamaged (keys : KeyPair) (disk : Disk) : Type 0 where
  pub now : ℕ
  pub rows : Rows
  pub clear : IsClear keys disk now rows
  pub sound : AllByRecursion IsSound rows.nodes
  pub once : rows.named_twice ≡ false

-- In the rows of a disk without damage no read is answered damaged, of whatever node and slice.
abbrev pub UndamagedIsRead : Type 0
UndamagedIsRead = (keys : KeyPair) (disk : Disk) (undamaged : Undamaged keys disk) (number at most second : ℕ) →
    (step undamaged.rows (read number at most) second).answer ≢ refuses refusals.Damaged
