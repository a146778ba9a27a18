-- The masterkey file of a vault (Cryptomator's vault format 8, `masterkey.cryptomator`): a JSON object with the vault's two keys, each wrapped
-- (RFC 3394) under a key that scrypt (RFC 7914) makes of the password.
use Rattle.std.specs.Prelude.{ℕ, ◌*◌, ◌^◌, List, ◌++◌, length, Bool, ◌&&◌, Option, Some, None, option_and_then, option_map, Result, Ok, Err, codes, decimal, nat_lt, nat_le, ◌==◌, if◌then◌else◌}
use Rattle.std.specs.Int.{is_power_of_two}
use Rattle.std.specs.Option.{ok_or}
use Rattle.std.specs.Result.{result_ok}
use Rattle.base64.specs.GeneralPurpose.{decode_of, encode_of}
use Rattle.base64.specs.Engines.{standard}
use Rattle.sha2.specs.Sha256.{sha256}
use Rattle.serde_json.specs.Data.{Data, number, string, object, unsigned, member, no_members}
use Rattle.serde_json.specs.Written.{compact_text}
use Rattle.aes_block.specs.Aes.{aes, inverse_aes}
use Rattle.aes_block.specs.Bytes.{bytes_of}
use Rattle.vault_keys.specs.Keys.{KeyPair}
use Rattle.hmac_sha.specs.Hmac.{hmac}
use Rattle.key_wrap.specs.Wrap.{wrapped, unwrapped}
use Rattle.scrypt_kdf.specs.Scrypt.{scrypt}
use Rattle.json_members.specs.Members.{object_of, text_at, integer_at}
use Rattle.json_members.specs.Steps.{result_and_then}
use Rattle.vault_layout.specs.Limits.{key_file_limit}

-- the members that are read. Every other member, `version` and `versionMac` too, isn't looked at
pub data Field : Type 0 where
  salt : Field
  cost : Field
  block_size : Field
  encryption_key : Field
  mac_key : Field

abbrev pub name_of : Field → List ℕ
name_of salt = codes "scryptSalt"
name_of cost = codes "scryptCostParam"
name_of block_size = codes "scryptBlockSize"
name_of encryption_key = codes "primaryMasterKey"
name_of mac_key = codes "hmacMasterKey"

-- what the members hold: the salt, scrypt's cost N and block size r, and the two wrapped keys
pub record Fields : Type 0 where
  pub salt_bytes : List ℕ
  pub n : ℕ
  pub r : ℕ
  pub wrapped_encryption_key : List ℕ
  pub wrapped_mac_key : List ℕ

-- the bytes of a member in base64 (RFC 4648, section 4), if they are of a length that may be
abbrev pub bytes_at : Field → (ℕ → Bool) → Data → Option (List ℕ)
bytes_at f fits value =
    option_and_then (λ bytes. if fits (length bytes) then Some bytes else None)
    (option_and_then (λ text. result_ok (decode_of standard text)) (text_at (name_of f) value))

-- a salt has 0 to 1,024 bytes
abbrev pub fits_salt : ℕ → Bool
fits_salt n = nat_le n 1024

-- a wrapped key has 40 bytes
abbrev pub fits_key : ℕ → Bool
fits_key n = n == 40

-- why no keys are read from a file
pub data Fault : Type 0 where
  too_long : ℕ → Fault
  not_json : Fault
  bad_field : Field → Fault
  bad_cost : Fault
  wrong_password : Fault

-- a fault as the report has it
abbrev pub fault_text : Fault → List ℕ
fault_text (too_long n) = codes "too long " ++ decimal n
fault_text not_json = codes "not JSON"
fault_text (bad_field f) = codes "field " ++ name_of f
fault_text bad_cost = codes "cost"
fault_text wrong_password = codes "wrong password"

-- a member's value, or the fault of that field; then the rest
abbrev pub on_field : {A B : Type 0} → Field → Option A → (A → Result B Fault) → Result B Fault
on_field f value rest = result_and_then rest (ok_or value (bad_field f))

-- the members, in the order of their tests
abbrev pub fields_in : Data → Result Fields Fault
fields_in value =
    on_field salt (bytes_at salt fits_salt value) (λ s.
    on_field cost (integer_at (name_of cost) value) (λ n.
    on_field block_size (integer_at (name_of block_size) value) (λ r.
    on_field encryption_key (bytes_at encryption_key fits_key value) (λ enc.
    on_field mac_key (bytes_at mac_key fits_key value) (λ mac.
    Ok (record { salt_bytes = s; n = n; r = r; wrapped_encryption_key = enc; wrapped_mac_key = mac }))))))

-- what a file's members hold
unfoldable pub fields_of : List ℕ → Result Fields Fault
fields_of bytes =
    if nat_lt key_file_limit (length bytes) then Err (too_long (length bytes))
    else result_and_then fields_in (ok_or (object_of bytes) not_json)

-- scrypt takes this cost and block size with one part: a power of two above 1, and a block size above 0, of which the table has at most
-- 2^30 bytes
unfoldable pub is_good_cost : ℕ → ℕ → Bool
is_good_cost n r = is_power_of_two n && nat_lt 1 n && nat_lt 0 r && nat_le (128 * n * r) (2 ^ 30)

-- the key that wraps the others: scrypt with one part
abbrev pub wrapping_key : List ℕ → Fields → List ℕ
wrapping_key password f = scrypt password f.salt_bytes f.n f.r 1 32

-- the two keys under the key that wraps them, and None if the check value of one of them differs
abbrev pub unwrapped_keys : List ℕ → Fields → Option KeyPair
unwrapped_keys kek f =
    option_and_then (λ enc. option_map (λ mac. record { enc = enc; mac = mac }) (unwrapped (inverse_aes kek) f.wrapped_mac_key))
    (unwrapped (inverse_aes kek) f.wrapped_encryption_key)

-- the cost is looked at once all members are found, and the password once the cost is good
abbrev pub keys_in : List ℕ → Fields → Result KeyPair Fault
keys_in password f =
    if is_good_cost f.n f.r then ok_or (unwrapped_keys (wrapping_key password f) f) wrong_password else Err bad_cost

-- the keys that a password opens in a file
unfoldable pub keys_of : List ℕ → List ℕ → Result KeyPair Fault
keys_of bytes password = result_and_then (keys_in password) (fields_of bytes)

-- ---- what is written

abbrev pub text_of : List ℕ → Data
text_of bytes = string (encode_of standard bytes)

-- the MAC of the version 999 as four bytes, most significant first
abbrev pub version_mac : KeyPair → List ℕ
version_mac keys = hmac sha256 64 keys.mac (bytes_of 4 999)

-- scrypt's cost, block size and parallelization in a new file
abbrev pub new_cost : ℕ
new_cost = 32768

abbrev pub new_block_size : ℕ
new_block_size = 8

abbrev pub new_parallelization : ℕ
new_parallelization = 1

-- the members in the order of their names' bytes
abbrev pub written_value : KeyPair → List ℕ → List ℕ → Data
written_value keys password salt_bytes =
    let kek = scrypt password salt_bytes new_cost new_block_size new_parallelization 32 in
    object (member (codes "hmacMasterKey") (text_of (wrapped (aes kek) keys.mac))
    (member (codes "primaryMasterKey") (text_of (wrapped (aes kek) keys.enc))
    (member (codes "scryptBlockSize") (number (unsigned new_block_size))
    (member (codes "scryptCostParam") (number (unsigned new_cost))
    (member (codes "scryptSalt") (text_of salt_bytes)
    (member (codes "version") (number (unsigned 999))
    (member (codes "versionMac") (text_of (version_mac keys)) no_members)))))))

-- the file of these keys under a password, with a salt of 8 bytes: compact JSON
unfoldable pub key_file : KeyPair → List ℕ → List ℕ → List ℕ
key_file keys password salt_bytes = compact_text (written_value keys password salt_bytes)
