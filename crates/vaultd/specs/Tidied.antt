-- What is left of a vault's journal once it was served.
use Rattle.outside.specs.Disk.{Disk}
use Rattle.outside.specs.Images.{Log, now}
use Rattle.chunk_journal.specs.Journal.{RecoversTo, IsAlike}

-- the folder is what it recovered to, beside the journal's two files
pub record IsRecovered (old new : Log) : Type 0 where
  pub disk : Disk
  pub recovers : RecoversTo (now old) disk
  pub alike : IsAlike disk (now new)
