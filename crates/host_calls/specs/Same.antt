-- Whether what was opened is what was seen.
use Rattle.std.specs.Prelude.{◌≡◌}
use Rattle.host_calls.specs.declared.found.Found.{Found}
use Rattle.host_calls.specs.declared.found.Found.TheVariants.{Dir, File}

-- one folder, or one file of whatever length
abbrev pub IsSame : Found → Found → Type 0
IsSame (Dir seen) (Dir opened) = seen ≡ opened
IsSame (File seen size) (File opened now) = seen ≡ opened
IsSame seen opened = ⊥
