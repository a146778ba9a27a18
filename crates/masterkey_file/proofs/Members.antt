-- What a file's members hold, and its keys, step by step.
use Rattle.std.proofs.Common.{◌≡◌, ℕ, true, false, nat_lt, List, length, Result, Ok, Err, refl, ap}
use Rattle.std.specs.Option.{ok_or}
use Rattle.json_members.specs.Members.{object_of}
use Rattle.json_members.specs.Steps.{result_and_then}
use Rattle.vault_layout.specs.Limits.{key_file_limit}
use Rattle.masterkey_file.specs.declared.reading.KeyFileErr.{KeyFileErr}
use Rattle.masterkey_file.specs.declared.reading.KeyFileErr.TheVariants.{TooLong, NotJson, Field, Cost, WrongPassword, Memory}
use Rattle.masterkey_file.specs.KeyFile.{Fault, Fields, too_long, not_json, fields_in, fields_of, keys_in, keys_of}
use Rattle.masterkey_file.specs.Faults.{IsFault}

-- a fault stays one, whatever would have followed it
pub IsFault-then : {A B : Type 0} (e : KeyFileErr) (found : Result A Fault) (rest : A → Result B Fault) → IsFault e found
    → IsFault e (result_and_then rest found)
IsFault-then (TooLong n) found rest h = ap (result_and_then rest) h
IsFault-then NotJson found rest h = ap (result_and_then rest) h
IsFault-then (Field name) found rest h = ap (result_and_then rest) h
IsFault-then Cost found rest h = ap (result_and_then rest) h
IsFault-then WrongPassword found rest h = ap (result_and_then rest) h
IsFault-then Memory found rest h = tt

-- a file above the limit is too long
pub fields_of-long : (bytes : List ℕ) → nat_lt key_file_limit (length bytes) ≡ true → fields_of bytes ≡ Err (too_long (length bytes))
unfolding fields_of
fields_of-long bytes long = rw long refl

-- a file within the limit is looked into
pub fields_of-short : (bytes : List ℕ) → nat_lt key_file_limit (length bytes) ≡ false
    → fields_of bytes ≡ result_and_then fields_in (ok_or (object_of bytes) not_json)
unfolding fields_of
fields_of-short bytes short = rw short refl

-- a file's fault is the fault of its keys
pub IsFault-keys : (e : KeyFileErr) (bytes password : List ℕ) → IsFault e (fields_of bytes) → IsFault e (keys_of bytes password)
unfolding keys_of
IsFault-keys e bytes password h = IsFault-then e (fields_of bytes) (keys_in password) h

-- the keys are those in the members
pub keys_of-fields : (bytes password : List ℕ) (fields : Fields) → fields_of bytes ≡ Ok fields → keys_of bytes password ≡ keys_in password fields
unfolding keys_of
keys_of-fields bytes password fields is = ap (λ (found : Result Fields Fault). result_and_then (keys_in password) found) is

-- a file above the limit has no keys
pub keys_of-long : (bytes password : List ℕ) → nat_lt key_file_limit (length bytes) ≡ true → keys_of bytes password ≡ Err (too_long (length bytes))
unfolding keys_of
keys_of-long bytes password long = ap (λ (found : Result Fields Fault). result_and_then (keys_in password) found) (fields_of-long bytes long)
