use Rattle.std.proofs.Common.{sym, ap, ◌∙◌, subst}
use Rattle.outside.specs.Disk.{Disk}
use Rattle.outside.specs.Images.{now}
use Rattle.outside_mem.specs.Kept.{CanRepeat, left_by}
use Rattle.outside_mem.proofs.Logs.{can_again, left_again}
use Rattle.outside_mem.proofs.folder.MemFolder.replay.Goals as goal

pub repeat-requires : goal.repeat-requires
repeat-requires c =
    subst (λ (d : Disk). CanRepeat d c.call-item.result) (sym c.loop-call.invariant.1)
    (can_again (now c.args.self.now.log) c.args.calls.now c.loop-call.call-index c.call-item.result c.loop-call-test.true c.call-item.is c.requires)

pub loop-call-preserved : goal.loop-call-preserved
loop-call-preserved c = (
  c.in_ok-repeat.ensures.start ∙ c.loop-call.invariant.0,
  c.in_ok-repeat.ensures.ok ∙ ap (left_by c.call-item.result) c.loop-call.invariant.1
      ∙ sym (left_again (now c.args.self.now.log) c.args.calls.now c.loop-call.call-index c.call-item.result c.loop-call-test.true c.call-item.is),
)
