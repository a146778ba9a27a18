use Rattle.live_tree_laws.proofs.Laws.{rewritten_file_keeps}
use Rattle.live_tree_laws.proofs.rewriting_keeps_strays.Goals as goal

pub returns : goal.returns
returns c = rewritten_file_keeps
