use Rattle.std.proofs.Common.{rules}
use Rattle.turn_lock.proofs.Meets.{copies}
use Rattle.turn_lock.proofs.turnstile.Turnstile.copy_of.Goals as goal

pub split_seat-requires : goal.split_seat-requires
split_seat-requires g c = (search rules, search rules, copies g.V.History.stands c.args.self.now.table.shared.key c.args.token.now.id c.args.token.now.me.0)
