-- Where a secret is read from.
use Rattle.std.specs.Prelude.{◌≡◌, ℕ, List, [], Option, Some, None, Result, Ok, Err, ⊤}
use Rattle.host_links.specs.declared.secret.SecretSource.{SecretSource}
use Rattle.host_links.specs.declared.secret.SecretSource.TheVariants.{Input, File, Refused, Unopened}
use Rattle.host_links.specs.Behind.{source_reader, untold_reader}
use Rattle.outside_real.specs.declared.opened.SecretFileErr.{SecretFileErr}
use Rattle.outside_real.specs.declared.opened.SecretFileErr.TheVariants.{Exposed, NotAFile, Failed}

-- the faults of what is read, or how often a file was to be read that couldn't be opened
abbrev pub secret_faults : {I F L : Type 0} → SecretSource I F L → ℕ
secret_faults (Input source) = source.faults
secret_faults (File source) = source.faults
secret_faults Refused = 0
secret_faults (Unopened faults) = faults

-- the bytes that are left in what is read, by what its reader tells of them: none in a file that is refused
abbrev pub secret_left : {I F L : Type 0} → (I → Option (List ℕ)) → (F → Option (List ℕ)) → SecretSource I F L → Option (List ℕ)
secret_left input_left file_left (Input source) = input_left (untold_reader (source_reader source))
secret_left input_left file_left (File source) = file_left (untold_reader (source_reader source))
secret_left input_left file_left Refused = Some []
secret_left input_left file_left (Unopened faults) = None

-- a file that couldn't be opened
abbrev pub IsUnopened : {I F L : Type 0} → SecretSource I F L → Type 0
IsUnopened (Input source) = ⊥
IsUnopened (File source) = ⊥
IsUnopened Refused = ⊥
IsUnopened (Unopened faults) = ⊤

-- the file that is read
abbrev pub file_in : {I F L : Type 0} → SecretSource I F L → Option F
file_in (Input source) = None
file_in (File source) = Some (untold_reader (source_reader source))
file_in Refused = None
file_in (Unopened faults) = None

-- what is read of a file that is to be opened: itself, or nothing if it is refused, and else each read fails
abbrev pub IsSourceOf : {I F L : Type 0} → Result F SecretFileErr → SecretSource I F L → Type 0
IsSourceOf (Ok file) source = file_in source ≡ Some file
IsSourceOf (Err Exposed) source = source ≡ Refused
IsSourceOf (Err NotAFile) source = source ≡ Refused
IsSourceOf (Err (Failed cause)) source = source ≡ Unopened 0
