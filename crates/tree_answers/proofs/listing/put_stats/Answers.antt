use Rattle.std.proofs.Common.{◌≡◌, ◌<◌, ◌≤◌, ◌+◌, ◌-◌, ℕ, List, ◌++◌, take, drop, length, Some, refl, sym, ap, subst, ◌∙◌, arith}
use borrow.Rule.Slice.PartMut.{mid_of, put_mid}
use Rattle.std.specs.List.{concat}
use Rattle.std.specs.Option.{option_copied}
use Rattle.std.proofs.lemmas.List.{append-nil, length-take}
use Rattle.tree_model.specs.Wire.{PlainStat, spelled_stat}
use Rattle.tree_model.specs.Asked.{AreStats}
use Rattle.tree_model.specs.Step.{fitting, stats_behind}
use Rattle.live_tree.specs.Held.{live_rows}
use Rattle.tree_answers.specs.Answers.{stat_in}
use Rattle.tree_answers.proofs.Rows.{none_of}
use Rattle.tree_answers.proofs.Children.{no_stats}
use Rattle.tree_answers.proofs.Shown.{size_is, stat_length}
use Rattle.tree_answers.proofs.Fitting.{IsPut, IsPut-part, put_front, put_length, put_keeps, put_more, stats_more, fits_not, nothing_fits}
use Rattle.tree_answers.proofs.Listed.{shown_next}
use Rattle.tree_answers.proofs.listing.put_stats.Goals as goal

pub loop-number-preserved : goal.loop-number-preserved
loop-number-preserved c =
    let old = c.loop-number.room in
    let used = c.loop-number.used in
    let number = c.in-Some.number in
    let node = c.in-Some.node.now in
    let stat = c.stat_at-stat.ensures.stat in
    let text = spelled_stat (stat_in number node) in
    let size = c.write_stat-used.result in
    let new = put_mid used (length old - used) old c.write_stat-used.new.out in
    let named : length c.stat_at-stat.result.name.now ≡ length node.kept.name = ap (λ (p : PlainStat). length p.name) stat in
    let whole : length text ≡ 64 + length node.kept.name = stat_length number node in
    let long : size ≡ length text = omega (arith, c.write_stat-used.ensures.size, size_is c.stat_at-stat.result number node stat, whole) in
    let fit : size ≤ length old - used = omega (arith, long, whole, named, c.stat_size.ensures, c.if-stat_size-room.false) in
    let put : IsPut old new used text =
    IsPut-part old c.write_stat-used.new.out used size text c.loop-number.invariant.within fit long
    (c.write_stat-used.ensures.bytes ∙ ap (λ (p : PlainStat). spelled_stat p ++ drop size (mid_of used (length old - used) old)) stat) in
    let end : used + size ≡ used + length text = ap (λ (n : ℕ). used + n) long in
    let front : take (used + size) new ≡ take used old ++ text = ap (λ (n : ℕ). take n new) end ∙ put_front old new used text put in
    let kept : length new ≡ length old = put_length old new used text put in
    record {
      within = omega (arith, put.within, long, kept);
      long = kept ∙ c.loop-number.invariant.long;
      bytes = λ contents sizes.
          let rows = live_rows contents c.args.tree.now in
          let next = shown_next contents c.args.tree.now c.args.parent c.requires sizes (option_copied c.loop-number.last) number node c.name.result.now c.in-Some.ensures.next c.in-Some.ensures.node c.name.ensures.bytes in
          put_more old new used text put (length c.args.room.now) _ (stats_behind rows c.args.parent (Some c.name.result.now)) c.loop-number.invariant.long
          (c.loop-number.invariant.bytes contents sizes ∙ ap (λ (stats : List (List ℕ)). take used old ++ concat (fitting (length c.args.room.now - used) stats)) next)
          ∙ ap (λ (n : ℕ). take n new ++ concat (fitting (length c.args.room.now - n) (stats_behind rows c.args.parent (Some c.name.result.now)))) (sym end);
      form =
          let count : length (take used old) + length text ≤ length c.args.room.now = omega (arith, length-take used old, put.within, c.loop-number.invariant.long) in
          subst (AreStats (length c.args.room.now)) (sym front) (stats_more (length c.args.room.now) (take used old) (stat_in number node) c.loop-number.invariant.form c.stat_at-stat.ensures.form count);
      rest =
          ap (λ (n : ℕ). drop n new) end ∙ put_keeps old new used text put c.args.room.now c.loop-number.invariant.rest
          ∙ ap (λ (n : ℕ). drop n c.args.room.now) (sym end);
    }

-- the next stat doesn't fit
pub returns-then-stat_size-room-clause-bytes : goal.returns-then-stat_size-room-clause-bytes
returns-then-stat_size-room-clause-bytes c = λ contents sizes.
    let old = c.loop-number.room in
    let used = c.loop-number.used in
    let number = c.in-Some.number in
    let node = c.in-Some.node.now in
    let text = spelled_stat (stat_in number node) in
    let rows = live_rows contents c.args.tree.now in
    let room = length c.args.room.now - used in
    let named : length c.stat_at-stat.result.name.now ≡ length node.kept.name = ap (λ (p : PlainStat). length p.name) c.stat_at-stat.ensures.stat in
    let small : room < length text = omega (arith, stat_length number node, named, c.stat_size.ensures, c.if-stat_size-room.true, c.loop-number.invariant.long) in
    let next = shown_next contents c.args.tree.now c.args.parent c.requires sizes (option_copied c.loop-number.last) number node node.kept.name c.in-Some.ensures.next c.in-Some.ensures.node refl in
    sym
    (c.loop-number.invariant.bytes contents sizes
    ∙ ap (λ (w : List ℕ). take used old ++ w) (ap (λ (stats : List (List ℕ)). concat (fitting room stats)) next ∙ fits_not room text (stats_behind rows c.args.parent (Some node.kept.name)) small)
    ∙ append-nil (take used old))

-- there is no next stat
pub returns-in_default-clause-bytes : goal.returns-in_default-clause-bytes
returns-in_default-clause-bytes c = λ contents sizes.
    let used = c.loop-number.used in
    let room = length c.args.room.now - used in
    let none = rw (none_of c.next_node.result c.in_default.not-Some) at c.next_node.ensures.none in
    sym
    (c.loop-number.invariant.bytes contents sizes
    ∙ ap (λ (w : List ℕ). take used c.loop-number.room ++ w)
    (ap (λ (stats : List (List ℕ)). concat (fitting room stats)) (no_stats contents c.args.tree.now c.args.parent c.requires (option_copied c.loop-number.last) none) ∙ nothing_fits room)
    ∙ append-nil (take used c.loop-number.room))
