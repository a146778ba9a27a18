-- Files and keys as the code has them.
use Rattle.unlocking.specs.FromFiles as unlock
use Rattle.unlocking.specs.FromFiles.{UnlockedVault}
use Rattle.unlocking.specs.declared.from_files.FoundFile.{FoundFile}
use Rattle.unlocking.specs.declared.from_files.FoundFile.TheVariants.{Absent, Folder, File}
use Rattle.unlocking.specs.declared.from_files.Unlocked.{Unlocked}

abbrev pub found_data : FoundFile → unlock.FoundFile
found_data Absent = unlock.absent
found_data Folder = unlock.folder
found_data (File bytes) = unlock.file bytes.now

abbrev pub unlocked_data : Unlocked → UnlockedVault
unlocked_data u = record { keys = u.keys; threshold = u.threshold }
