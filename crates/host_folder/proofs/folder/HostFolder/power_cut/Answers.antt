use Rattle.std.proofs.Common.{subst}
use Rattle.outside.specs.Calls.{Told}
use Rattle.outside.specs.Images.{IsImage}
use Rattle.outside.proofs.Told.{told_then}
use Rattle.host_calls.specs.Story.{IsLeft}
use Rattle.host_calls.specs.Volume.{Volume, disk_of}
use Rattle.host_folder.specs.Behind.{story_of, IsKept}
use Rattle.host_folder.specs.Holding.{story_in, Holding}
use Rattle.host_folder.proofs.folder.HostFolder.power_cut.Goals as goal

pub returns : goal.returns
returns g c =
    subst (λ (h : Holding g.row.H.Denot). Told (story_in g.H.HostCalls.story h) (λ s. (volume : Volume) → IsLeft s volume → IsImage s.diary (disk_of volume))) c.self.view_is
    (told_then (story_of g.H.HostCalls.story c.self.inside.host) (IsKept g.H.HostCalls.top c.self.inside.host) (λ s. (volume : Volume) → IsLeft s volume → IsImage s.diary (disk_of volume))
    c.self.invariant (λ s is. is.held.images))
