use Rattle.std.proofs.Common.{length}
use Rattle.std.proofs.lemmas.Bool.{lt-ltb}
use Rattle.masterkey_file.proofs.Members.{keys_of-long}
use Rattle.masterkey_file.proofs.laws.a_long_file_is_too_long.Goals as goal

pub returns : goal.returns
returns c = λ bytes password long. keys_of-long bytes password (lt-ltb 65536 (length bytes) long)
