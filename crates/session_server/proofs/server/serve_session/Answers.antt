use Rattle.session_server.proofs.TalkSoFar.{talked_memory}
use Rattle.session_server.proofs.server.serve_session.Goals as goal

pub returns-in_default : goal.returns-in_default
returns-in_default g c = record { talked = talked_memory }

pub returns-in_default-buffer : goal.returns-in_default-buffer
returns-in_default-buffer g c = record { talked = talked_memory }

pub returns-in_default-buffer-2 : goal.returns-in_default-buffer-2
returns-in_default-buffer-2 g c = record { talked = talked_memory }
