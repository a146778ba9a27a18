-- What is drawn for a new vault.
use Rattle.std.specs.Prelude.{◌≡◌, ℕ, List, ◌++◌, length}
use Rattle.vault_keys.specs.Keys.{KeyPair}
use Rattle.vault_make.specs.declared.draws.Draws.{Draws}

-- the two keys, scrypt's salt, and the bytes of the vault file's identifier
pub record NewSecrets : Type 0 where
  pub keys : KeyPair
  pub salt : List ℕ
  pub jti : List ℕ

-- the bytes in the order in which they are drawn
abbrev pub drawn_bytes : NewSecrets → List ℕ
drawn_bytes s = s.keys.enc ++ s.keys.mac ++ s.salt ++ s.jti

-- 32, 32, 8 and 16 of them
pub record AreOfLength (s : NewSecrets) : Type 0 where
  pub enc : length s.keys.enc ≡ 32
  pub mac : length s.keys.mac ≡ 32
  pub salt : length s.salt ≡ 8
  pub jti : length s.jti ≡ 16

-- draws as the code has them
abbrev pub draws_data : Draws → NewSecrets
draws_data draws = record { keys = draws.keys; salt = draws.salt; jti = draws.jti }
