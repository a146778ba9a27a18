use Rattle.clear_tree.proofs.Keeping.{keeping_tells_rows}
use Rattle.tree_loading.specs.Format.{sealing_of}
use Rattle.tree_loading.proofs.loading.loading_is_clear.Goals as goal

pub returns : goal.returns
returns c keys disk tree is = keeping_tells_rows (sealing_of keys) disk tree is
