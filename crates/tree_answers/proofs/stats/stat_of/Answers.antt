use Rattle.std.proofs.Common.{◌≡◌, ℕ, List, take, drop, length, sym, ap, ◌∙◌}
use Rattle.tree_model.specs.Asked.{stat_of}
use Rattle.tree_answers.specs.Answers.{stat_in}
use Rattle.tree_answers.proofs.Rows.{none_of}
use Rattle.tree_answers.proofs.Shown.{shown}
use Rattle.tree_answers.proofs.Sized.{sized_removed, stat_answered}
use Rattle.tree_answers.proofs.stats.stat_of.Goals as goal

pub returns-in_default-clause-answer : goal.returns-in_default-clause-answer
returns-in_default-clause-answer c =
    sized_removed c.args.tree.now (stat_of c.args.number) (sym (rw (none_of c.node.result c.in_default.not-Some) at c.node.ensures))

pub returns-clause-answer : goal.returns-clause-answer
returns-clause-answer c =
    let put = shown c.stat_at-stat.result c.args.number c.in-Some.node.now c.write_stat.result c.args.buffer.now c.write_stat.new.out c.stat_at-stat.ensures.stat c.write_stat.ensures.size c.write_stat.ensures.bytes in
    stat_answered c.args.tree.now c.args.number c.in-Some.node.now (sym c.in-Some.ensures) c.stat_at-stat.ensures.version c.write_stat.result (take c.write_stat.result c.write_stat.new.out) put.all put.front

pub returns-clause-form : goal.returns-clause-form
returns-clause-form c =
    let put = shown c.stat_at-stat.result c.args.number c.in-Some.node.now c.write_stat.result c.args.buffer.now c.write_stat.new.out c.stat_at-stat.ensures.stat c.write_stat.ensures.size c.write_stat.ensures.bytes in (
      record { stat = stat_in c.args.number c.in-Some.node.now; spelled = put.front; good = c.stat_at-stat.ensures.form },
      ap (λ (w : List ℕ). length w) put.front ∙ sym put.all,
    )

pub returns-clause-rest : goal.returns-clause-rest
returns-clause-rest c =
    let put = shown c.stat_at-stat.result c.args.number c.in-Some.node.now c.write_stat.result c.args.buffer.now c.write_stat.new.out c.stat_at-stat.ensures.stat c.write_stat.ensures.size c.write_stat.ensures.bytes in
    let count : length (take c.write_stat.result c.write_stat.new.out) ≡ c.write_stat.result = ap (λ (w : List ℕ). length w) put.front ∙ sym put.all in
    ap (λ (n : ℕ). drop n c.write_stat.new.out) count ∙ put.rest ∙ sym (ap (λ (n : ℕ). drop n c.args.buffer.now) count)
