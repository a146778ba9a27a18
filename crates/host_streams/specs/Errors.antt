-- Why the host finds nothing at a path.
use Rattle.std.specs.Prelude.{◌≡◌, ◌⊎◌}
use Rattle.std.specs.declared.io.Error.{Error}
use Rattle.std.specs.declared.io.ErrorKind.TheVariants.{NotFound, NotADirectory, IsADirectory, DirectoryNotEmpty}
use Rattle.std.specs.IoError.{error_kind}

-- it, or a folder on the way to it, is missing
abbrev pub IsMissing : Error → Type 0
IsMissing e = (error_kind e ≡ NotFound) ⊎ (error_kind e ≡ NotADirectory)

-- the path isn't what a change needs: it is missing on the way, or a folder is there, or one that isn't empty
abbrev pub IsMisfit : Error → Type 0
IsMisfit e = IsMissing e ⊎ (error_kind e ≡ IsADirectory) ⊎ (error_kind e ≡ DirectoryNotEmpty)
