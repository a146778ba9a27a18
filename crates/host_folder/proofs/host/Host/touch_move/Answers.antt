use Rattle.std.proofs.Common.{Result, Ok, Err, OnOk, Contains, subst}
use Rattle.outside.specs.Disk.{Path, parent}
use Rattle.host_folder.proofs.host.Host.touch_move.Goals as goal

on_ok : {T E : Type 0} (r : Result T E) (P : Type 0) → P → OnOk r P
on_ok (Ok x) P p = p
on_ok (Err e) P p = tt

pub returns-clause-left : goal.returns-clause-left
returns-clause-left g c =
    on_ok c.keep.result (Contains c.touch.new.self.touched.paths.items (parent c.args.from.now))
    (subst (λ (p : Path). Contains c.touch.new.self.touched.paths.items p) c.parent.ensures c.in_ok-touch.ensures.touched)
