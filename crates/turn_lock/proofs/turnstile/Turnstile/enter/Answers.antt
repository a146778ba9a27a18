use Rattle.std.proofs.Common.{rules, ◌≡◌, [], ◌∷◌, ℕ, List, Option, Some, sym, ap, ◌∙◌}
use Rattle.atomic_table.specs.Table.{rest}
use Rattle.turn_lock.proofs.turnstile.Turnstile.enter.Goals as goal

pub exchange-requires : goal.exchange-requires
exchange-requires g c = let enters = c.wait_for.ensures.enters in let had : c.wait_for.new.token.me.1 ≡ (0, Some enters.value) ∷ [] = ap (λ m. m.1) enters.after ∙ ap (λ (l : List (ℕ × Option g.row.V.Denot)). (0, Some enters.value) ∷ l) c.requires.waits.slots in
    (search rules, (Some enters.value, had ∙ ap (λ (l : List (ℕ × Option g.row.V.Denot)). (0, Some enters.value) ∷ rest l) (sym had)))
