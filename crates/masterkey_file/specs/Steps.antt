-- The steps of `read`, of which private functions speak.
use Rattle.std.specs.Prelude.{◌≡◌, Bool, false, ⊤}
use Rattle.masterkey_file.specs.KeyFile as files
use Rattle.masterkey_file.specs.declared.reading.KeyFileErr.{KeyFileErr}
use Rattle.masterkey_file.specs.declared.reading.KeyFileErr.TheVariants.{TooLong, NotJson, Field, Cost, WrongPassword, Memory}
use Rattle.masterkey_file.specs.declared.fields.Fields.{Fields}

-- the members as the code has them
abbrev pub fields_data : Fields → files.Fields
fields_data f = record {
  salt_bytes = f.salt.items;
  n = f.cost;
  r = f.block_size;
  wrapped_encryption_key = f.wrapped_encryption_key;
  wrapped_mac_key = f.wrapped_mac_key;
}

-- the error is that of the cost
abbrev pub IsCostFault : KeyFileErr → Bool → Type 0
IsCostFault (TooLong n) is_good = ⊥
IsCostFault NotJson is_good = ⊥
IsCostFault (Field name) is_good = ⊥
IsCostFault Cost is_good = is_good ≡ false
IsCostFault WrongPassword is_good = ⊥
IsCostFault Memory is_good = ⊤
