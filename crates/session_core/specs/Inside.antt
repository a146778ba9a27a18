-- A session as the code keeps it.
use Rattle.session_core.specs.declared.session.Session.TheInside.{Inside}
use Rattle.session_core.specs.State.{State, HasGoodSize}

abbrev pub session_view : Inside → State
session_view s = record { size = s.size; fids = s.fids }

abbrev pub IsSession : Inside → Type 0
IsSession s = HasGoodSize (session_view s)
