use Rattle.tree_loading.specs.Format.{sealing_of}
use Rattle.name_places.proofs.Texts.{entry_part}
use Rattle.name_places.proofs.laws.entries_are_parts.Goals as goal

pub returns : goal.returns
returns c = entry_part (sealing_of c.args.keys.now) c.are_ciphers.ensures
