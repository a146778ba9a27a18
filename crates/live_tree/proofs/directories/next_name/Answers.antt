use Rattle.std.proofs.Common.{sym, refl, ◌≡◌}
use Rattle.std.specs.Option.{option_copied}
use Rattle.std.specs.Range.Bound.{bound_map}
use Rattle.live_tree.proofs.Places.{start_of, next_from, none_from}
use Rattle.live_tree.proofs.directories.next_name.Goals as goal
use Rattle.live_tree.proofs.directories.next_name.Goals.{in-None, in-Some}

pub returns-in_err-number-clause-none : goal.returns-in_err-number-clause-none
returns-in_err-number-clause-none c =
    let start : bound_map (λ x. x.now) c.match-last.start ≡ start_of (option_copied c.args.last) = elim c.match-last.branch [ in-None w ↦ rw (w.start-is, w.in-None.is) refl | in-Some w ↦ rw (w.start-is, w.in-Some.is) refl ] in
    rw c.from_residual-in_err-number.ensures
    (none_from c.args.names.now c.args.parent c.in_ok-inner.inner.now (option_copied c.args.last) c.range.result (sym c.in_ok-inner.ensures.value) (rw start at (c.range.ensures.in_range tt)) c.in_err-number.ensures.steps.0)

pub returns-clause-next : goal.returns-clause-next
returns-clause-next c =
    let start : bound_map (λ x. x.now) c.match-last.start ≡ start_of (option_copied c.args.last) = elim c.match-last.branch [ in-None w ↦ rw (w.start-is, w.in-None.is) refl | in-Some w ↦ rw (w.start-is, w.in-Some.is) refl ] in
    next_from c.args.names.now c.args.parent c.in_ok-inner.inner.now (option_copied c.args.last) c.range.result (sym c.in_ok-inner.ensures.value) (rw start at (c.range.ensures.in_range tt)) _ _ c.in_ok-number.ensures.steps
