use Rattle.std.proofs.Common.{◌≡◌, ◌∷◌, sym, ap, ◌∙◌, subst}
use Rattle.outside.specs.Changes.{done}
use Rattle.outside.specs.Images.{disk_after, now, adds, IsSound}
use Rattle.outside_mem.specs.Held.{Holding, bare}
use Rattle.outside_mem.specs.Kept.{change_of, call_of, disk_by}
use Rattle.outside_mem.proofs.Logs.{kept_more}
use Rattle.outside_mem.proofs.folder.MemFolder.keep.Goals as goal

pub invariant_of-self-in_default : goal.invariant_of-self-in_default
invariant_of-self-in_default c =
    let start = disk_by bare c.self.inside.first.items in
    let more = kept_more start c.self.inside.calls.items c.push.new.self.items c.args.call c.in_ok-push.ensures.items in
    let sound = subst (λ (h : Holding). IsSound h.log.start (call_of (now h.log) c.args.call ∷ h.log.calls)) (sym c.self.view_is) c.requires.sound in
    let leaves = subst (λ (h : Holding). now (adds h.log (call_of (now h.log) c.args.call)) ≡ done (change_of c.args.change.now) (now h.log)) (sym c.self.view_is) c.requires.leaves in (
      c.in_default.ensures.ok ∙ ap (done (change_of c.args.change.now)) c.self.invariant.0 ∙ sym leaves ∙ sym (ap (disk_after start) more),
      c.self.invariant.1,
      subst (IsSound start) (sym more) sound,
    )

pub returns-clause-ok : goal.returns-clause-ok
returns-clause-ok c =
    let start = disk_by bare c.self.inside.first.items in
    let more = kept_more start c.self.inside.calls.items c.push.new.self.items c.args.call c.in_ok-push.ensures.items in
    (λ i. record { log = record { start = start; calls = more i }; changes = c.self.inside.changes; plan = c.self.inside.plan })
    ∙ ap (λ (h : Holding). record h { log = adds h.log (call_of (now h.log) c.args.call) }) c.self.view_is
