use Rattle.host_folder.proofs.Keeping.{held_synced}
use Rattle.host_folder.proofs.stops.Goals as goal

pub returns : goal.returns
returns c = record {
  kill = λ story touched moved failed held. held.shows;
  power_cut = λ story touched moved failed held volume left. held.images volume left;
  synced = λ story failed held sure. held_synced story failed held sure;
}
