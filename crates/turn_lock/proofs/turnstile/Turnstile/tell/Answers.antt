use Rattle.std.proofs.Common.{rules, ◌≡◌, ℕ, [], Some, None, refl, ap, ◌∙◌, subst}
use mathlib.Core.Option.{some}
use lib.ListN.{get_elem?}
use Rattle.turn_lock.specs.declared.rule.View.{View}
use Rattle.turn_lock.specs.declared.rule.Met.{Met}
use Rattle.turn_lock.specs.Turns.{StartsWith, turns_by}
use Rattle.turn_lock.specs.Views.{joined, witness, meeting, forgot}
use Rattle.turn_lock.proofs.Meets.{learns, told}
use Rattle.turn_lock.proofs.turnstile.Turnstile.tell.Goals as goal

pub load-requires : goal.load-requires
load-requires g c = (search rules, search rules, learns g.V.History.stands c.args.self.now.table.shared.key c.args.self.now.table.shared.table_id.slots c.join.new.all.id c.join.new.all.me.0 c.join.new.all.me.1)

pub returns-clause-told : goal.returns-clause-told
returns-clause-told g c =
    let v : View g.row.V-Entry.Denot = c.args.to.now.me.0 in
    let u : View g.row.V-Entry.Denot = c.args.from.now.me.0 in
    let both : c.join.new.all.me ≡ (joined v (witness u), []) = c.join.ensures.joined ∙ ap (λ m. (joined v m.0, [])) c.copy_of-copy.ensures.copy.1 in
    c.load.ensures.2.0 ∙ (ap (λ m. (forgot m.0, m.1)) both ∙ ap (λ (w : View g.row.V-Entry.Denot). (w, [])) (told v u))

pub returns-clause-begins : goal.returns-clause-begins
returns-clause-begins g c =
    let v : View g.row.V-Entry.Denot = c.args.to.now.me.0 in
    let u : View g.row.V-Entry.Denot = c.args.from.now.me.0 in
    let both : c.join.new.all.me.0 ≡ joined v (witness u) = ap (λ m. m.0) c.join.ensures.joined ∙ ap (λ m. joined v m.0) c.copy_of-copy.ensures.copy.1 in
    let learnt = subst (λ (w : View g.row.V-Entry.Denot). (k : ℕ) (z : Met g.row.V-Entry.Denot) → get_elem? w.met k ≡ some z → StartsWith w.seen z.seen) both c.load.ensures.2.1 in
    (learnt 0 (meeting None v.seen) refl, learnt 1 (meeting None u.seen) refl)

pub returns-clause-own : goal.returns-clause-own
returns-clause-own g c =
    let v : View g.row.V-Entry.Denot = c.args.to.now.me.0 in
    let u : View g.row.V-Entry.Denot = c.args.from.now.me.0 in
    let both : c.join.new.all.me.0 ≡ joined v (witness u) = ap (λ m. m.0) c.join.ensures.joined ∙ ap (λ m. joined v m.0) c.copy_of-copy.ensures.copy.1 in
    subst (λ (w : View g.row.V-Entry.Denot). (n : ℕ) → w.number ≡ Some n → turns_by n w.seen ≡ w.mine) both c.load.ensures.2.2
