use Rattle.vault_words.proofs.OneThing.{one_job, never_refused}
use Rattle.vault_words.proofs.laws.words_ask_for_one_thing.Goals as goal

pub returns-clause-one : goal.returns-clause-one
returns-clause-one c = one_job

pub returns-clause-taken : goal.returns-clause-taken
returns-clause-taken c = never_refused
