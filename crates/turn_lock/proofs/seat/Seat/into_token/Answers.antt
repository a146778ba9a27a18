use Rattle.std.proofs.Common.{◌≡◌, ℕ, sym, ap, subst, ◌∙◌}
use Rattle.turn_lock.specs.Views.{number_or, IsSeat}
use Rattle.turn_lock.proofs.seat.Seat.into_token.Goals as goal

pub returns-clause-seat : goal.returns-clause-seat
returns-clause-seat g c =
    let is : c.self.inside.number ≡ c.args.self.number = sym (ap number_or c.self.invariant.numbered) ∙ ap (λ s. s.number) c.self.view_is in
    (c.self.inside.late, subst (λ (n : ℕ). IsSeat c.self.inside.token.me n c.self.inside.late) is c.self.invariant)
