use Rattle.turn_lock.proofs.SeatLists.{whole_of}
use Rattle.turn_lock.proofs.lock.TurnLock.close.Goals as goal

pub returns : goal.returns
returns g c =
    let all = c.gather-all.ensures.all in
    whole_of g.V.History.stands c.into_value.result c.self.inside.turnstile.table.shared.table_id c.args.seats.items all.0 all.1 (c.into_value.ensures all.0 all.2)
