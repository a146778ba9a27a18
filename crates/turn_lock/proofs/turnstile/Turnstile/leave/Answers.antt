use Rattle.std.proofs.Common.{rules, arith, ◌≡◌, ◌∷◌, [], ◌+◌, ◌%◌, ◌^◌, ℕ, Option, Some, sym, ap, ◌∙◌, subst, List}
use mathlib.Core.Option.{none}
use Rattle.atomic_table.specs.Table.{rest, Me, Allows, step}
use Rattle.turn_lock.specs.declared.rule.View.{View}
use Rattle.turn_lock.specs.Rule.{Kept}
use Rattle.turn_lock.specs.Steps.{Gave, gave}
use Rattle.turn_lock.proofs.Keeps.{hands_back}
use Rattle.turn_lock.proofs.turnstile.Turnstile.leave.Goals as goal

pub fetch_add-requires : goal.fetch_add-requires
fetch_add-requires g c =
    let slots : ℕ = c.args.self.now.table.shared.table_id.slots in
    let v : View g.row.V-Entry.Denot = c.args.token.now.me.0 in
    let now : c.exchange-none.new.seat.me ≡ (v, (0, Some c.args.value) ∷ []) = c.exchange-none.ensures.3 ∙ ap (λ (l : List (ℕ × Option g.row.V.Denot)). (v, (0, Some c.args.value) ∷ rest l)) c.requires.turn.slot in
    let sized = c.args.self.now.sized in (
      search rules,
      search rules,
      subst (λ (m : Me (Option g.row.V.Denot) (View g.row.V-Entry.Denot)). Allows (Kept g.V.History.stands c.args.self.now.table.shared.key) slots c.exchange-none.new.seat.id m 1 (λ x. (x + 1) % 2 ^ 64) (gave g.V.History.stands g.J.Event.is (step slots 1 1 0 none) m)) (sym now)
          (hands_back g.V.History.stands c.args.self.now.table.shared.key slots c.exchange-none.new.seat.id v c.args.value g.J.Event.is (omega arith) c.requires.turn.took c.requires.right),
    )

pub returns-clause-gave : goal.returns-clause-gave
returns-clause-gave g c =
    let v : View g.row.V-Entry.Denot = c.args.token.now.me.0 in
    let now : c.exchange-none.new.seat.me ≡ (v, (0, Some c.args.value) ∷ []) = c.exchange-none.ensures.3 ∙ ap (λ (l : List (ℕ × Option g.row.V.Denot)). (v, (0, Some c.args.value) ∷ rest l)) c.requires.turn.slot in
    subst (λ (w : View g.row.V-Entry.Denot). Gave g.V.History.stands g.J.Event.is w c.args.value c.fetch_add.new.seat.me) (ap (λ m. m.0) now) (c.fetch_add.ensures.2 c.args.value (ap (λ m. m.1) now))
