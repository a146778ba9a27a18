use Rattle.tree_loading.proofs.UndamagedReads.{undamaged_is_read}
use Rattle.tree_loading.proofs.loading.undamaged_is_read.Goals as goal

pub returns : goal.returns
returns c = undamaged_is_read
