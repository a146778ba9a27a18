-- What an opening of the journal and a cut of its file leave of a folder.
use Rattle.std.proofs.Common.{Option, ◌∙◌}
use Rattle.outside.specs.Calls.{Changes}
use Rattle.outside.specs.Images.{Log, now}
use Rattle.outside.proofs.Told.{through}
use Rattle.chunk_journal.specs.Journal.{IsQuiet, IsAlike}
use Rattle.chunk_journal.specs.Opening.{HasOpened}
use Rattle.vaultd.specs.Tidied.{IsRecovered}

pub recovered : (a b c : Option Log) → Changes a b HasOpened → Changes b c (λ old new. IsQuiet new × IsAlike (now old) (now new)) → Changes a c IsRecovered
recovered a b c opened cut =
    through a b c HasOpened (λ old new. IsQuiet new × IsAlike (now old) (now new)) IsRecovered
    (λ x y z is after. record { disk = is.disk; recovers = is.recovers; alike = λ q far beside. after.1 q far beside ∙ is.alike q far beside }) opened cut
