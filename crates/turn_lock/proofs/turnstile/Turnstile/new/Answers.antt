use Rattle.std.proofs.Common.{◌∷◌, [], List, Option, sym, subst}
use Rattle.atomic_table.specs.Table.{opening}
use Rattle.turn_lock.specs.Views.{first_view}
use Rattle.turn_lock.specs.Rule.{Kept}
use Rattle.turn_lock.proofs.Opens.{opens}
use Rattle.turn_lock.proofs.turnstile.Turnstile.new.Goals as goal

pub new-requires : goal.new-requires
new-requires g c = subst (λ (l : List (Option g.row.V.Denot)). Kept g.V.History.stands c.args.seats (opening (0 ∷ 0 ∷ []) l (first_view c.args.seats))) (sym c.in_ok-slots.ensures.ok)
    (opens g.V.History.stands c.args.seats c.args.value c.requires.few.0 c.requires.few.1 c.requires.right)
