use Rattle.sync_client.proofs.Talks.{done_is_answered}
use Rattle.sync_client.proofs.laws.a_talk_that_is_done_is_answered.Goals as goal

pub returns : goal.returns
returns c = done_is_answered
