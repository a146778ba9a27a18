use Rattle.std.proofs.Common.{◌-◌, ◌≤◌, ◌^◌}
use Rattle.outside.specs.Views.{link_in}
use Rattle.session_server.proofs.TalkSoFar.{SoFar}
use Rattle.session_server.proofs.server.answer_messages.Given as goal

abbrev pub invariant-loop-answered : goal.invariant-loop-answered
invariant-loop-answered g l = record {
  so_far : SoFar g.B.TreeObject.stands l.fn.object l.object
      (link_in g.L.Link l.fn.link)
      (link_in g.L.Link l.link)
      (g.K.Clock.to_give l.fn.clock)
      (g.K.Clock.to_give l.clock) l.answered l.session;
  few : l.answered ≤ 2 ^ 32;
}

abbrev pub decreases-loop-answered : goal.decreases-loop-answered
decreases-loop-answered g l = 2 ^ 32 - l.answered
