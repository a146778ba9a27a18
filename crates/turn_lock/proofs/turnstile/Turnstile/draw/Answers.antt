use Rattle.std.proofs.Common.{rules}
use Rattle.turn_lock.proofs.Keeps.{draws}
use Rattle.turn_lock.proofs.turnstile.Turnstile.draw.Goals as goal

pub fetch_add-requires : goal.fetch_add-requires
fetch_add-requires g c = let may = c.requires.may in (
  search rules,
  search rules,
  draws g.V.History.stands c.args.self.now.table.shared.key c.args.self.now.table.shared.table_id.slots c.args.token.now.id c.args.token.now.me.0 c.args.token.now.me.1 may.numbered.0 may.numbered.1 may.entitled may.unspent may.free,
)
