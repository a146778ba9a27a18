use Rattle.std.proofs.Common.{◌≡◌, subst}
use Rattle.outside.specs.Calls.{Told}
use Rattle.outside.specs.Images.{now}
use Rattle.outside.proofs.Told.{told_then}
use Rattle.host_calls.specs.Story.{disk_now}
use Rattle.host_folder.specs.Behind.{story_of, IsKept}
use Rattle.host_folder.specs.Holding.{story_in, Holding}
use Rattle.host_folder.proofs.folder.HostFolder.kill.Goals as goal

pub returns : goal.returns
returns g c =
    subst (λ (h : Holding g.row.H.Denot). Told (story_in g.H.HostCalls.story h) (λ s. disk_now s ≡ now s.diary)) c.self.view_is
    (told_then (story_of g.H.HostCalls.story c.self.inside.host) (IsKept g.H.HostCalls.top c.self.inside.host) (λ s. disk_now s ≡ now s.diary) c.self.invariant (λ s is. is.held.shows))
