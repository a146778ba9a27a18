use Rattle.std.proofs.Common.{refl, sym, ap, ◌∙◌}
use Rattle.std.proofs.lemmas.Bool.{false≢true}
use Rattle.outside.specs.Calls.{Told}
use Rattle.outside.specs.Images.{now}
use Rattle.pending_files.specs.Laid.{CanWait}
use Rattle.write_back.specs.View.{WriteBackView}
use Rattle.write_back.proofs.Showing.{can_of, headers_of, none_of, at_view}
use Rattle.write_back.proofs.Flushing.{are_empty, nothing_moved}
use Rattle.write_back.proofs.back.WriteBack.flush.Goals as goal

pub returns-then-is_empty-clause-waited : goal.returns-then-is_empty-clause-waited
returns-then-is_empty-clause-waited g c = at_view (λ f w. Told (g.D.Reads.log f) (λ l. CanWait w (now l))) _ _ _ c.self.view_is (can_of (g.D.Reads.log c.self.inside.journal) c.self.inside.pending c.self.inside.headers c.self.invariant)

pub returns-then-is_empty-clause-any_moment : goal.returns-then-is_empty-clause-any_moment
returns-then-is_empty-clause-any_moment g c =
    nothing_moved (g.D.Reads.log c.args.self.now.folder) (g.D.Reads.log c.args.self.now.folder) c.args.self.now.waiting refl c.requires.quiet

pub commit_fitting-result-requires-clause-some : goal.commit_fitting-result-requires-clause-some
commit_fitting-result-requires-clause-some g c = λ none.
    absurd (false≢true (sym c.if-is_empty.false ∙ are_empty c.deeds.result.now c.is_empty.result c.is_empty.ensures (c.deeds.ensures.deeds ∙ none)))

pub commit_fitting-result-requires-clause-waits : goal.commit_fitting-result-requires-clause-waits
commit_fitting-result-requires-clause-waits g c = can_of (g.D.Reads.log c.self.inside.journal) c.self.inside.pending c.self.inside.headers c.self.invariant

pub commit_fitting-result-requires-clause-headers : goal.commit_fitting-result-requires-clause-headers
commit_fitting-result-requires-clause-headers g c = headers_of (g.D.Reads.log c.self.inside.journal) c.self.inside.pending c.self.inside.headers c.self.invariant

pub invariant_of-self : goal.invariant_of-self
invariant_of-self g c =
    none_of (g.D.Reads.log c.commit_fitting-result.new.journal) c.clear.new.self c.clear-2.new.self c.clear.ensures c.clear-2.ensures

pub returns-clause-waited : goal.returns-clause-waited
returns-clause-waited g c = at_view (λ f w. Told (g.D.Reads.log f) (λ l. CanWait w (now l))) _ _ _ c.self.view_is (can_of (g.D.Reads.log c.self.inside.journal) c.self.inside.pending c.self.inside.headers c.self.invariant)

pub returns-clause-still : goal.returns-clause-still
returns-clause-still g c = λ none.
    let waiting = c.deeds.ensures.deeds ∙ ap (λ (v : WriteBackView _). v.waiting) c.self.view_is in
    absurd (false≢true (sym c.if-is_empty.false ∙ are_empty c.deeds.result.now c.is_empty.result c.is_empty.ensures (waiting ∙ none)))

pub returns-clause-idle : goal.returns-clause-idle
returns-clause-idle g c = λ none.
    let waiting = c.deeds.ensures.deeds ∙ ap (λ (v : WriteBackView _). v.waiting) c.self.view_is in
    absurd (false≢true (sym c.if-is_empty.false ∙ are_empty c.deeds.result.now c.is_empty.result c.is_empty.ensures (waiting ∙ none)))
