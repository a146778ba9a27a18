use Rattle.std.proofs.Common.{sym, ap, ◌∙◌, subst}
use Rattle.outside.specs.Images.{Synced, disk_after, adds, IsSound}
use Rattle.outside_mem.specs.Held.{Holding, bare}
use Rattle.outside_mem.specs.Kept.{disk_by}
use Rattle.outside_mem.specs.declared.change.MemCall.TheVariants as calls
use Rattle.outside_mem.proofs.Logs.{kept_more}
use Rattle.outside_mem.proofs.folder.MemFolder.keep_sync.Goals as goal

pub invariant_of-self-2 : goal.invariant_of-self-2
invariant_of-self-2 c =
    let start = disk_by bare c.self.inside.first.items in
    let more = kept_more start c.self.inside.calls.items c.push.new.self.items calls.Synced c.in_ok-push.ensures.items in
    (c.self.invariant.0 ∙ sym (ap (disk_after start) more), c.self.invariant.1, subst (IsSound start) (sym more) c.self.invariant.2)

pub returns-clause-ok : goal.returns-clause-ok
returns-clause-ok c =
    let start = disk_by bare c.self.inside.first.items in
    let more = kept_more start c.self.inside.calls.items c.push.new.self.items calls.Synced c.in_ok-push.ensures.items in
    (λ i. record { log = record { start = start; calls = more i }; changes = c.self.inside.changes; plan = c.self.inside.plan })
    ∙ ap (λ (h : Holding). record h { log = adds h.log Synced }) c.self.view_is
