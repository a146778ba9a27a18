use Rattle.name_places.proofs.Asking.{long_path}
use Rattle.name_places.proofs.taking.taken_place.Goals as goal

pub joined-long-requires : goal.joined-long-requires
joined-long-requires g c = long_path c.args.parent.now c.args.text.now c.long_folder.result c.host_folder.result c.requires c.host_folder.ensures c.long_folder.ensures
