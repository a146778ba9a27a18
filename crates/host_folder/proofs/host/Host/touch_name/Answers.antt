use Rattle.std.proofs.Common.{OnOk, Contains, subst}
use Rattle.outside.specs.Disk.{Path}
use Rattle.host_folder.proofs.host.Host.touch_name.Goals as goal

pub returns-clause-above : goal.returns-clause-above
returns-clause-above g c =
    subst (λ (p : Path). OnOk c.touch-2.result (Contains c.touch-2.new.self.touched.paths.items p)) c.parent.ensures c.touch-2.ensures.touched
