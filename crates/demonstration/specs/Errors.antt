-- Why the nodes of a tree can't be listed, by what failed.
use Rattle.content_reader.specs.declared.error.ReadErr.{ReadErr}
use Rattle.content_reader.specs.declared.error.ReadErr.TheVariants as read_errs
use Rattle.demonstration.specs.declared.error.LeftErr.{LeftErr}
use Rattle.demonstration.specs.declared.error.LeftErr.TheVariants.{Device, Damaged}

abbrev pub of_reading : ReadErr → LeftErr
of_reading read_errs.Device = Device
of_reading read_errs.Damaged = Damaged
