use Rattle.std.proofs.Common.{◌≡◌, ℕ, false, ◌++◌, take, drop, sym, ap, ◌∙◌}
use Rattle.std.specs.Option.{option_copied}
use Rattle.tree_model.specs.Rows.{is_dir}
use Rattle.tree_model.specs.declared.refusal.Refusal.TheVariants as refusals
use Rattle.tree_model.specs.Asked.{list}
use Rattle.tree_model.specs.Step.{refuses}
use Rattle.clear_tree.specs.Kept.{What, kind_of}
use Rattle.live_tree.specs.Held.{IsNext, IsNoNext}
use Rattle.tree_answers.proofs.Rows.{none_of, some_there, none_there}
use Rattle.tree_answers.proofs.Fitting.{front_count, rest_of}
use Rattle.tree_answers.proofs.Sized.{sized_removed}
use Rattle.tree_answers.proofs.Listed.{AreListed, counts, of_copy, list_no_dir, list_some, list_end, list_small}
use Rattle.tree_answers.proofs.listing.list.Goals as goal
use Rattle.tree_answers.proofs.listing.list.Goals.{else-used-eq0-via-then-used-eq0+else-is_some, else-used-eq0-via-else-used-eq0}

pub returns-in_default-clause-answer : goal.returns-in_default-clause-answer
returns-in_default-clause-answer c =
    sized_removed c.args.tree.now (list c.args.number (option_copied c.args.after) c.args.count) (sym (rw (none_of c.node.result c.in_default.not-Some) at c.node.ensures))

pub returns-then-not-is_dir-clause-answer : goal.returns-then-not-is_dir-clause-answer
returns-then-not-is_dir-clause-answer c =
    let other : is_dir (kind_of c.in-Some.node.now.kept.what) ≡ false = ap (λ (w : What). is_dir (kind_of w)) (sym c.what.ensures) ∙ sym c.is_dir.ensures ∙ c.if-not-is_dir.true in
    list_no_dir c.args.tree.now c.args.number c.in-Some.node.now (sym c.in-Some.ensures) (option_copied c.args.after) c.args.count other

pub returns-then-is_some-clause-answer : goal.returns-then-is_some-clause-answer
returns-then-is_some-clause-answer c =
    let last = option_copied c.as_ref-last.result in
    let same : option_copied c.as_ref-last.result ≡ option_copied c.args.after = c.as_ref-last.ensures.value ∙ c.in_ok-name.ensures in
    let dir = ap (λ (w : What). is_dir (kind_of w)) (sym c.what.ensures) ∙ sym c.is_dir.ensures ∙ c.if-not-is_dir.false in
    let put : AreListed c.args.tree.now c.args.number (option_copied c.as_ref-last.result) c.args.count c.args.buffer.now c.put_stats-used.new.room c.put_stats-used.result =
    record { large = c.requires; long = c.put_stats-used.auto.room; few = c.put_stats-used.ensures.fits; bytes = c.put_stats-used.ensures.bytes } in
    let next = some_there c.next_after.result (λ (n : ℕ). IsNext c.args.tree.now c.args.number (option_copied c.as_ref-last.result) n) c.next_after.ensures.next (sym c.is_some.ensures ∙ c.if-is_some.true) in
    of_copy c.args.tree.now c.args.number c.args.count last (option_copied c.args.after) (refuses refusals.CountTooSmall) same
    (list_small c.args.tree.now c.args.number c.in-Some.node.now (sym c.in-Some.ensures) last c.args.count dir c.args.buffer.now c.put_stats-used.new.room c.put_stats-used.result put
    c.is_tree.ensures next.0 next.1 c.if-used-eq0.true)

pub returns-clause-answer : goal.returns-clause-answer
returns-clause-answer c =
    let last = option_copied c.as_ref-last.result in
    let same : option_copied c.as_ref-last.result ≡ option_copied c.args.after = c.as_ref-last.ensures.value ∙ c.in_ok-name.ensures in
    let dir = ap (λ (w : What). is_dir (kind_of w)) (sym c.what.ensures) ∙ sym c.is_dir.ensures ∙ c.if-not-is_dir.false in
    let put : AreListed c.args.tree.now c.args.number (option_copied c.as_ref-last.result) c.args.count c.args.buffer.now c.put_stats-used.new.room c.put_stats-used.result =
    record { large = c.requires; long = c.put_stats-used.auto.room; few = c.put_stats-used.ensures.fits; bytes = c.put_stats-used.ensures.bytes } in
    of_copy c.args.tree.now c.args.number c.args.count last (option_copied c.args.after)
    (counts c.put_stats-used.result (take c.put_stats-used.result (c.put_stats-used.new.room ++ drop c.args.count c.args.buffer.now))) same
    (elim c.else-used-eq0.branch [
      | else-used-eq0-via-then-used-eq0+else-is_some w ↦
          list_end c.args.tree.now c.args.number c.in-Some.node.now (sym c.in-Some.ensures) last c.args.count dir c.args.buffer.now c.put_stats-used.new.room c.put_stats-used.result put
          c.is_tree.ensures (none_there w.next_after.result (IsNoNext c.args.tree.now c.args.number (option_copied c.as_ref-last.result)) w.next_after.ensures.none (sym w.is_some.ensures ∙ w.if-is_some.false))
      | else-used-eq0-via-else-used-eq0 w ↦
          list_some c.args.tree.now c.args.number c.in-Some.node.now (sym c.in-Some.ensures) last c.args.count dir c.args.buffer.now c.put_stats-used.new.room c.put_stats-used.result put
          w.if-used-eq0.false
    ])

pub returns-clause-rest : goal.returns-clause-rest
returns-clause-rest c =
    let used = c.put_stats-used.result in
    let room = c.put_stats-used.new.room in
    let old = c.args.buffer.now in
    let few = c.put_stats-used.ensures.fits in
    let long = c.put_stats-used.auto.room in
    let count = front_count old room c.args.count used c.requires long few in
    ap (λ (n : ℕ). drop n (room ++ drop c.args.count old)) count ∙ rest_of old room c.args.count used c.requires long few c.put_stats-used.ensures.rest
    ∙ sym (ap (λ (n : ℕ). drop n old) count)
