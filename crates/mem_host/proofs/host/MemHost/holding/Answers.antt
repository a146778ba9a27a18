use Rattle.std.proofs.Common.{[], false, subst, sym, refl}
use Rattle.mem_host.specs.Holding.{Naming, IsHolding, IsBegun}
use Rattle.mem_host.proofs.Keeping.{story_of, holds_first, begun_from}
use Rattle.mem_host.proofs.host.MemHost.holding.Goals as goal

pub invariant_of-result : goal.invariant_of-result
invariant_of-result c =
    subst (λ (n : Naming). IsHolding c.args.top c.args.files (story_of n c.args.files false c.new-diary.result.log false)) (sym c.in_ok-new.ensures)
    (holds_first c.args.top c.args.names c.args.files false c.new-diary.result.log false c.requires.named c.requires.fits)

pub returns-clause-begun : goal.returns-clause-begun
returns-clause-begun c =
    let first : Naming = record { base = c.args.names; steps = [] } in
    subst (λ (n : Naming). IsBegun (story_of n c.args.files false c.new-diary.result.log false)) (sym c.in_ok-new.ensures)
    (begun_from c.args.top c.args.files (story_of first c.args.files false c.new-diary.result.log false)
    (holds_first c.args.top c.args.names c.args.files false c.new-diary.result.log false c.requires.named c.requires.fits) c.new-diary.ensures refl)
