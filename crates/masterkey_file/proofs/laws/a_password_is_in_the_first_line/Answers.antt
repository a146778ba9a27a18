use Rattle.masterkey_file.proofs.Lines.{password_of-behind, password_of-front}
use Rattle.masterkey_file.proofs.laws.a_password_is_in_the_first_line.Goals as goal

pub returns-clause-line : goal.returns-clause-line
returns-clause-line c = λ line rest. password_of-behind line rest

pub returns-clause-front : goal.returns-clause-front
returns-clause-front c = λ secret. password_of-front secret
