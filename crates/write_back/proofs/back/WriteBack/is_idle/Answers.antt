use Rattle.std.proofs.Common.{sym, ap, ◌∙◌}
use Rattle.outside.specs.Calls.{Told}
use Rattle.outside.specs.Images.{now}
use Rattle.pending_files.specs.Laid.{CanWait}
use Rattle.write_back.specs.View.{WriteBackView}
use Rattle.write_back.proofs.Showing.{can_of, at_view}
use Rattle.write_back.proofs.Flushing.{are_none, are_empty}
use Rattle.write_back.proofs.back.WriteBack.is_idle.Goals as goal

pub returns-clause-idle : goal.returns-clause-idle
returns-clause-idle g c =
    let waiting = c.deeds.ensures.deeds ∙ ap (λ (v : WriteBackView _). v.waiting) c.self.view_is in (
      λ so. sym waiting ∙ are_none c.deeds.result.now c.is_empty.result c.is_empty.ensures so,
      λ none. are_empty c.deeds.result.now c.is_empty.result c.is_empty.ensures (waiting ∙ none),
    )

pub returns-clause-waits : goal.returns-clause-waits
returns-clause-waits g c = at_view (λ f w. Told (g.D.Reads.log f) (λ l. CanWait w (now l))) _ _ _ c.self.view_is (can_of (g.D.Reads.log c.self.inside.journal) c.self.inside.pending c.self.inside.headers c.self.invariant)
