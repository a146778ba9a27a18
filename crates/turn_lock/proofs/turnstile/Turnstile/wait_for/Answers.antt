use Rattle.std.proofs.Common.{rules, ap, ◌∙◌}
use Rattle.turn_lock.proofs.Keeps.{looks}
use Rattle.turn_lock.proofs.turnstile.Turnstile.wait_for.Goals as goal

pub load-requires : goal.load-requires
load-requires g c = let same = c.loop.invariant.2 in let waits = c.requires.waits in (
  search rules,
  search rules,
  looks g.V.History.stands c.args.self.now.table.shared.key c.args.self.now.table.shared.table_id.slots c.loop.token.id c.loop.token.me.0 c.loop.token.me.1 c.args.ticket (ap (λ m. m.0.ticket) same ∙ waits.has) waits.early
      (ap (λ m. m.0.took) same ∙ waits.free),
)
