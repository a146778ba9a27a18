use Rattle.std.specs.Prelude.{refl}
use Rattle.host_folder.proofs.Keeping.{opened_again, opened_still}
use Rattle.host_folder.proofs.restarts.Goals as goal

pub returns : goal.returns
returns c = record {
  kill = λ story kept moved paths held all. opened_again story kept moved paths held all;
  amid = λ story call. refl;
  again = λ paths old new opened later sure. opened_still paths old new opened later sure;
}
