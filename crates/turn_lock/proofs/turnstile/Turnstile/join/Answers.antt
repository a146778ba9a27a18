use Rattle.std.proofs.Common.{rules}
use Rattle.turn_lock.proofs.Meets.{joins, joined_rests}
use Rattle.turn_lock.proofs.turnstile.Turnstile.join.Goals as goal

pub join_seat-requires : goal.join_seat-requires
join_seat-requires g c = let all = c.requires.rests.0 in let other = c.requires.rests.1 in (
  search rules,
  search rules,
  other.slots,
  search rules,
  joins g.V.History.stands c.args.self.now.table.shared.key c.args.all.now.id c.args.token.id c.args.all.now.me.0 c.args.token.me.0 c.requires.makes_none all.free other.free all.past other.past,
)

pub returns-clause-rests : goal.returns-clause-rests
returns-clause-rests g c = joined_rests c.args.all.now.me c.args.token.me c.join_seat.new.seat.me c.requires.rests.0 c.requires.rests.1 c.join_seat.ensures.2
