use Rattle.clear_tree.proofs.Keeping.{keeping_tells_rows}
use Rattle.clear_tree.proofs.keeping_tells_rows.Goals as goal

pub returns : goal.returns
returns c = keeping_tells_rows
