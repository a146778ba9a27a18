use Rattle.std.proofs.Common.{◌≡◌, ap, ◌∙◌, subst}
use Rattle.outside.specs.Disk.{Disk}
use Rattle.outside.specs.Images.{IsSound}
use Rattle.outside_mem.specs.Held.{bare}
use Rattle.outside_mem.specs.Kept.{all_calls, disk_by}
use Rattle.outside.proofs.Steady.{sound_tree}
use Rattle.outside_mem.proofs.folder.MemFolder.restarted.Goals as goal

pub invariant_of-result : goal.invariant_of-result
invariant_of-result c =
    let calls = c.self.inside.calls.items in
    let begun : disk_by bare c.self.inside.first.items ≡ bare = ap (λ h. h.log.start) c.self.view_is ∙ c.requires in
    let sound : IsSound bare (all_calls bare calls) = subst (λ (d : Disk). IsSound d (all_calls d calls)) begun c.self.invariant.2 in
    rw c.new.ensures.items (c.self.invariant.0 ∙ ap (λ d. disk_by d calls) begun, sound, sound_tree bare (all_calls bare calls) sound)
