use Rattle.unlocking.proofs.FilesFound.{config_long}
use Rattle.unlocking.proofs.from_folder.vault_unlocked.Goals as goal

pub returns-in-TooLong-clause-cause : goal.returns-in-TooLong-clause-cause
returns-in-TooLong-clause-cause c = λ seen is. config_long c.args.found.now _ c.args.keys c.in-TooLong.is seen is
