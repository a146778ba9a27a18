use Rattle.std.proofs.Common.{true, subst, sym}
use Rattle.host_calls.specs.Names.{Fits}
use Rattle.host_calls.specs.Story.{names_now}
use Rattle.mem_host.specs.Holding.{Naming, Holding, IsHolding}
use Rattle.mem_host.specs.Steps.{step_of}
use Rattle.mem_host.proofs.Keeping.{story_of, kept_taken}
use Rattle.mem_host.proofs.host.MemHost.take.Goals as goal

pub invariant_of-self-2 : goal.invariant_of-self-2
invariant_of-self-2 c =
    let a = c.self.inside in
    let fits = subst (λ (h : Holding). Fits (step_of c.args.step) (names_now h.story)) (sym c.self.view_is) c.requires.fits in
    subst (λ (n : Naming). IsHolding a.top a.files (story_of n a.files a.doubt a.diary.log true)) (sym c.in_ok-take.ensures.ok)
    (kept_taken a.top a.files (story_of a.naming a.files a.doubt a.diary.log a.unnoted) (step_of c.args.step) c.requires.name fits c.self.invariant)
