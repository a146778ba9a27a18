-- The errors of `read` as faults, and what they are shown as.
use Rattle.std.specs.Prelude.{◌≡◌, ℕ, List, Result, Err, codes, ⊤}
use Rattle.json_members.specs.declared.ObjectErr.{ObjectErr}
use Rattle.json_members.specs.declared.ObjectErr.TheVariants as object
use Rattle.scrypt_kdf.specs.declared.scrypt_derivation.ScryptErr.{ScryptErr}
use Rattle.scrypt_kdf.specs.declared.scrypt_derivation.ScryptErr.TheVariants as scrypt
use Rattle.masterkey_file.specs.KeyFile as files
use Rattle.masterkey_file.specs.declared.reading.KeyFileErr.{KeyFileErr}
use Rattle.masterkey_file.specs.declared.reading.KeyFileErr.TheVariants.{TooLong, NotJson, Field, Cost, WrongPassword, Memory}
use Rattle.masterkey_file.specs.declared.reading.FieldName.{FieldName}
use Rattle.masterkey_file.specs.declared.reading.FieldName.TheVariants as names

abbrev pub field_of : FieldName → files.Field
field_of names.ScryptSalt = files.salt
field_of names.ScryptCostParam = files.cost
field_of names.ScryptBlockSize = files.block_size
field_of names.PrimaryMasterKey = files.encryption_key
field_of names.HmacMasterKey = files.mac_key

-- the error is the fault that was found; running out of memory says nothing
abbrev pub IsFault : {A : Type 0} → KeyFileErr → Result A files.Fault → Type 0
IsFault (TooLong n) found = found ≡ Err (files.too_long n)
IsFault NotJson found = found ≡ Err files.not_json
IsFault (Field name) found = found ≡ Err (files.bad_field (field_of name))
IsFault Cost found = found ≡ Err files.bad_cost
IsFault WrongPassword found = found ≡ Err files.wrong_password
IsFault Memory found = ⊤

-- what is said of a file that is no object
abbrev pub object_error : ObjectErr → KeyFileErr
object_error object.NotObject = NotJson
object_error object.Memory = Memory

-- what is said of a cost that scrypt refuses
abbrev pub scrypt_error : ScryptErr → KeyFileErr
scrypt_error scrypt.BadCost = Cost
scrypt_error scrypt.TooLarge = Cost
scrypt_error scrypt.Memory = Memory

-- an error as it is shown
abbrev pub error_text : KeyFileErr → List ℕ
error_text (TooLong n) = files.fault_text (files.too_long n)
error_text NotJson = files.fault_text files.not_json
error_text (Field name) = files.fault_text (files.bad_field (field_of name))
error_text Cost = files.fault_text files.bad_cost
error_text WrongPassword = files.fault_text files.wrong_password
error_text Memory = codes "out of memory"
