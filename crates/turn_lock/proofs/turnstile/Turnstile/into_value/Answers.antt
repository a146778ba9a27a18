use Rattle.std.proofs.Common.{◌≡◌, Some, sym, subst, ◌∙◌}
use mathlib.Core.Option.{some-injective}
use Rattle.turn_lock.specs.Steps.{IsEnd}
use Rattle.turn_lock.proofs.Closes.{closed_value}
use Rattle.turn_lock.proofs.turnstile.Turnstile.into_value.Goals as goal

pub taken_out-requires-clause-home : goal.taken_out-requires-clause-home
taken_out-requires-clause-home g c = let r = closed_value g.V.History.stands c.args.self.table.shared.key c.args.all.id c.args.all.me.0 c.requires.all.0 _ _ c.requires.all.1 c.close_with.ensures.values.2 in (r.0, r.1)

pub returns : goal.returns
returns g c = λ ws all.
    let r = closed_value g.V.History.stands c.args.self.table.shared.key c.args.all.id c.args.all.me.0 ws _ _ all c.close_with.ensures.values.2 in
    let one : Some r.0 ≡ Some c.taken_out.result = some-injective (Some r.0) (Some c.taken_out.result) (sym r.1 ∙ c.taken_out.ensures) in
    let same : r.0 ≡ c.taken_out.result = cc in
    subst (λ y. IsEnd g.V.History.stands y ws) same r.2
