use Rattle.session_server.proofs.Whole.{served_whole}
use Rattle.session_server.proofs.laws.a_session_of_whole_messages_is_done.Goals as goal

pub returns : goal.returns
returns c = served_whole
