use Rattle.std.proofs.Common.{refl, sym, ap, subst, ◌∙◌, inl, inr, true≢false}
use Rattle.outside.specs.Disk.{Disk}
use Rattle.outside.specs.Changes.{CanDo}
use Rattle.outside.specs.Images.{now}
use Rattle.outside_mem.specs.Kept.{change_of}
use Rattle.outside_mem.proofs.folder.MemFolder.with_change.Goals as goal
use Rattle.outside_mem.proofs.folder.MemFolder.with_change.Goals.{then-fits+in_ok-make, else-fits}

pub returns-clause-made : goal.returns-clause-made
returns-clause-made c =
    let can = λ (d : Disk). CanDo (change_of c.args.change) d in
    elim c.if-fits.branch [
      | then-fits+in_ok-make w ↦ inl (subst can c.disk.ensures.disk (w.if-fits.ensures.0 refl), ap (λ h. now h.log) (w.self-is ∙ w.in_ok-make.ensures.ok))
      | else-fits w ↦ inr (λ fits. true≢false (sym (w.if-fits.ensures.1 (subst can (sym c.disk.ensures.disk) fits))), ap (λ h. now h.log) w.self-is)
    ]
