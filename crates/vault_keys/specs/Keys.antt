-- The two keys of a vault.
use Rattle.std.specs.Prelude.{ℕ, List}

-- the encryption key and the MAC key, 32 bytes each
pub record KeyPair : Type 0 where
  pub enc : List ℕ
  pub mac : List ℕ
