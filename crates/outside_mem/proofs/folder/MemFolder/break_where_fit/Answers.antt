use Rattle.std.proofs.Common.{refl, subst}
use Rattle.outside.specs.Disk.{Disk}
use Rattle.outside.specs.Changes.{CanDo}
use Rattle.outside.specs.Images.{now}
use Rattle.outside.proofs.Steady.{sound_tree}
use Rattle.outside_mem.specs.Kept.{change_of}
use Rattle.outside_mem.proofs.Logs.{half_breaks, broken_from}
use Rattle.outside_mem.proofs.folder.MemFolder.break_where_fit.Goals as goal

pub returns-then-can_do-clause-broken : goal.returns-then-can_do-clause-broken
returns-then-can_do-clause-broken c =
    let log = c.args.self.now.log in
    let can : CanDo (change_of c.args.change) (now log) = subst (λ (d : Disk). CanDo (change_of c.args.change) d) c.disk.ensures.disk (c.if-can_do.ensures.0 refl) in
    broken_from c.break_off.result (change_of c.args.change) c.args.self.now c.break_off.new.self
    (half_breaks (change_of c.args.change) (now log) (sound_tree log.start log.calls c.disk.ensures.sound) can)
    c.break_off.ensures.ok c.break_off.ensures.err
