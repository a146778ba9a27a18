use Rattle.version_laws.proofs.Histories.{places_are_same, answered_in_both, rows_then_are_same}
use Rattle.version_laws.proofs.entries_see_no_further.Goals as goal

pub returns-clause-places : goal.returns-clause-places
returns-clause-places c = places_are_same

pub returns-clause-answered : goal.returns-clause-answered
returns-clause-answered c = answered_in_both

pub returns-clause-rows : goal.returns-clause-rows
returns-clause-rows c = rows_then_are_same
