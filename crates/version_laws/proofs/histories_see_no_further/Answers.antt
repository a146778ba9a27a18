use Rattle.version_laws.proofs.Histories.{rows_after_are_same, all_answered_in_both, legal_in_both}
use Rattle.version_laws.proofs.histories_see_no_further.Goals as goal

pub returns-clause-rows : goal.returns-clause-rows
returns-clause-rows c = rows_after_are_same

pub returns-clause-answered : goal.returns-clause-answered
returns-clause-answered c = all_answered_in_both

pub returns-clause-legal : goal.returns-clause-legal
returns-clause-legal c = legal_in_both
