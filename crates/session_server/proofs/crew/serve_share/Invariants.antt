use Rattle.std.proofs.Common.{◌≡◌, ◌≤◌, ◌-◌, false}
use Rattle.outside.specs.Views.{link_in, listener_in}
use Rattle.session_server.proofs.ShareSoFar.{SoFar}
use Rattle.session_server.proofs.crew.serve_share.Given as goal

abbrev pub invariant-loop-crew : goal.invariant-loop-crew
invariant-loop-crew g l = record {
  so : SoFar g.B.TreeObject.stands l.fn.crew.object l.crew.object (link_in g.N.Conn.Link)
      (g.K.Clock.to_give l.fn.crew.clock)
      (g.K.Clock.to_give l.crew.clock)
      (listener_in g.N.Listener l.fn.crew.listener)
      (listener_in g.N.Listener l.crew.listener) l.crew.counts;
  few : l.crew.counts.sessions ≤ l.sessions;
  fine : l.crew.failed ≡ false;
}

abbrev pub decreases-loop-crew : goal.decreases-loop-crew
decreases-loop-crew g l = l.sessions - l.crew.counts.sessions
