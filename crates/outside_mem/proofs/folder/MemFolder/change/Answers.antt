use Rattle.std.proofs.Common.{ap, subst}
use Rattle.outside.specs.Images.{Log, HasBroken}
use Rattle.outside_mem.specs.Kept.{change_of}
use Rattle.outside_mem.proofs.folder.MemFolder.change.Goals as goal

pub returns-then-breaks-clause-broken : goal.returns-then-breaks-clause-broken
returns-then-breaks-clause-broken c =
    subst (λ (l : Log). HasBroken (change_of c.args.change) l c.break_where_fit.new.self.log)
    (ap (λ h. h.log) c.count_change-fails.ensures.counted) c.break_where_fit.ensures.broken
