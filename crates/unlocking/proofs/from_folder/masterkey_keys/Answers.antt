use Rattle.unlocking.proofs.FilesFound.{masterkey_long}
use Rattle.unlocking.proofs.from_folder.masterkey_keys.Goals as goal

pub returns-in-TooLong-clause-cause : goal.returns-in-TooLong-clause-cause
returns-in-TooLong-clause-cause c = λ seen is. masterkey_long c.args.found.now _ c.args.password.now c.in-TooLong.is seen is
