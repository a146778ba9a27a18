use Rattle.live_tree_laws.proofs.Laws.{kept_beside_journal}
use Rattle.live_tree_laws.proofs.the_journal_keeps_strays.Goals as goal

pub returns : goal.returns
returns c = kept_beside_journal
