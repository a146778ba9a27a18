use Rattle.tree_loading.specs.Format.{sealing_of}
use Rattle.name_places.proofs.Texts.{texts_from}
use Rattle.name_places.proofs.laws.are_texts.Goals as goal

pub returns : goal.returns
returns c = texts_from (sealing_of c.args.keys.now) c.are_ciphers.ensures
