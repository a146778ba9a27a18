-- Disks after a file was moved.
use Rattle.std.proofs.Common.{◌≡◌, ◌≢◌, Some, None, sym, ap, ◌∙◌}
use Rattle.std.specs.FinMap as map
use Rattle.outside.specs.Disk.{Disk, Path, Node, node_at}
use Rattle.outside.specs.Changes.{Move, done, set_at}
use Rattle.outside.proofs.Paths.{by_path, set_here, set_there, same_disk}

-- a file that is moved to where it is stays
pub moved_nowhere : (d : Disk) (from to : Path) → from ≡ to → d ≡ done (Move from to) d
moved_nowhere d from to e = same_disk _ _ (λ q. by_path q to
    (λ here. ap (λ p. node_at d p) (here ∙ sym e) ∙ sym (set_here (set_at d from None) to (node_at d from) q here))
    (λ there. sym (set_there (set_at d from None) to (node_at d from) q there ∙ set_there d from None q (λ at. there (at ∙ e)))))

-- one that is put elsewhere and taken away was moved
pub moved_away : (d : Disk) (from to : Path) (v : Node) → from ≢ to → node_at d from ≡ Some v → map.remove (map.insert d to v) from ≡ done (Move from to) d
moved_away d from to v apart is = same_disk _ _ (λ q. by_path q from
    (λ at. set_here (set_at d to (Some v)) from None q at
    ∙ sym (set_there (set_at d from None) to (node_at d from) q (λ e. apart (sym at ∙ e)) ∙ set_here d from None q at))
    (λ off. set_there (set_at d to (Some v)) from None q off ∙ by_path q to
    (λ here. set_here d to (Some v) q here ∙ sym is ∙ sym (set_here (set_at d from None) to (node_at d from) q here))
    (λ there. set_there d to (Some v) q there ∙ sym (set_there (set_at d from None) to (node_at d from) q there ∙ set_there d from None q off))))
