use Rattle.std.proofs.Common.{subst, sym}
use Rattle.mem_host.specs.Holding.{Naming, IsHolding}
use Rattle.mem_host.proofs.Keeping.{story_of, kept_flushed_folder}
use Rattle.mem_host.proofs.host.MemHost.flush_folder.Goals as goal

pub invariant_of-self : goal.invariant_of-self
invariant_of-self c =
    let a = c.self.inside in
    subst (λ (n : Naming). IsHolding a.top a.files (story_of n a.files a.doubt a.diary.log a.unnoted)) (sym c.flush.ensures)
    (kept_flushed_folder a.top a.files (story_of a.naming a.files a.doubt a.diary.log a.unnoted) c.args.path.now c.self.invariant)
