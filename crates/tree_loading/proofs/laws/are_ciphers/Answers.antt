use Rattle.tree_loading.proofs.Sealings.{AreCiphers-sealing_of}
use Rattle.tree_loading.proofs.laws.are_ciphers.Goals as goal

pub returns : goal.returns
returns c = AreCiphers-sealing_of c.args.keys.now c.opening_is_exact.ensures.long c.opening_undoes_sealing.ensures
