use Rattle.std.proofs.Common.{rules, arith, ◌≡◌, ◌+◌, ◌-◌, ℕ, ap}
use Rattle.turn_lock.proofs.Keeps.{makes}
use Rattle.turn_lock.proofs.turnstile.Turnstile.another.Goals as goal

pub split_seat-requires : goal.split_seat-requires
split_seat-requires g c =
    let is = c.requires.makes in
    let key : ℕ = c.args.self.now.table.shared.key in
    let given : ℕ = c.args.first.now.me.0.given in
    let left = c.requires.some_left.1 in
    let parts : c.args.first.now.me.0.parts ≡ (key + 1) - given = ap (λ m. m.0.parts) is in (
      search rules,
      search rules,
      makes g.V.History.stands key c.args.first.now.id c.args.first.now.me.0 (ap (λ m. m.0.number) is) (omega arith) (ap (λ m. m.0.ticket) is) (ap (λ m. m.0.took) is),
    )
