use Rattle.std.proofs.Common.{List, take}
use Rattle.session_server.specs.Ends.{AreCounts}
use Rattle.session_server.specs.Shares.{Share, all_ends}
use Rattle.session_server.specs.Workers.{AreCountsOf, NoneFailed}
use Rattle.session_server.proofs.workers.all_counts.Given as goal

abbrev pub invariant-loop-crew : goal.invariant-loop-crew
invariant-loop-crew g l = record {
  counted : (shares : List (Share g.row.N-Conn.Denot)) → AreCountsOf l.crews shares → AreCounts l.counts (all_ends (take l.crew-index shares));
  none : NoneFailed (take l.crew-index l.crews);
}
