use Rattle.std.proofs.Common.{◌∙◌, List, Option, map, inl, inr, true≢false, sym, subst, rules}
use Rattle.std.proofs.lemmas.Cmp.{nat_list_cmp_total}
use Rattle.std.proofs.lemmas.List.Sorted.{answers_always, ranks_by}
use Rattle.std.proofs.lemmas.Result.{err_from_is_err_and}
use Rattle.std.specs.List.Sorted.{IsSortedBy, IsStrictlySortedBy}
use Rattle.std.specs.Ordering.{nat_cmp}
use Rattle.std.specs.Cmp.Lexicographic.{slice_cmp}
use Rattle.outside.specs.Disk.{Disk}
use Rattle.outside.specs.Images.{disk_in}
use Rattle.outside.proofs.Told.{told_from}
use Rattle.tree_model.specs.Rows.{Rows}
use Rattle.clear_tree.specs.Kept.{IsKept}
use Rattle.tree_loading.specs.Format.{sealing_of}
use Rattle.tree_deed_laws.specs.Shapes.{HasTree}
use Rattle.demonstration.specs.Summary.{plain_row}
use Rattle.demonstration.specs.declared.rows.DemoRow.{DemoRow}
use Rattle.demonstration.specs.declared.error.LeftErr.TheVariants.{Damaged}
use Rattle.demonstration.specs.Left.{AreDamaged, AreLeft, text_of}
use Rattle.demonstration.specs.Nodes.{AreRowsOf, HasUnread}
use Rattle.demonstration.proofs.Lines.{damaged_of, left_of, twins_of}
use Rattle.demonstration.proofs.Ordered.{has_tie, is_before}
use Rattle.demonstration.proofs.Unread.{passed_on}
use Rattle.demonstration.proofs.left.rows_left.Goals as goal

pub returns-clause-left : goal.returns-clause-left
returns-clause-left g c =
    let keys = c.args.keys.now in
    let tree = c.args.tree.now in
    let sorted = c.sort_by.new.self.items in
    let ordered = subst (λ (l : List DemoRow). IsStrictlySortedBy (slice_cmp nat_cmp) (map text_of (map plain_row l))) c.deref.ensures.value (c.are_ordered.ensures.0 c.if-not-are_ordered.false) in
    told_from (disk_in (g.R.Reads.log c.args.folder.now)) (λ d. IsKept (sealing_of keys) d tree → (shown : Rows) → HasTree (sealing_of keys) d shown → AreLeft shown (map plain_row sorted))
    (λ d is kept shown has.
    left_of keys d tree kept shown has c.in_ok-rows.rows.items sorted c.in_ok-rows.ensures.count (subst (λ (o : Option Disk). AreRowsOf keys o tree c.in_ok-rows.rows.items) is c.in_ok-rows.ensures.rows)
    c.sort_by.ensures.permutation ordered)

pub returns-in_err-rows-clause-damaged : goal.returns-in_err-rows-clause-damaged
returns-in_err-rows-clause-damaged g c = λ is.
    let keys = c.args.keys.now in
    let tree = c.args.tree.now in
    let p = err_from_is_err_and c.from_residual.result c.from_residual.ensures.1 in
    let unread = c.in_err-rows.ensures.damaged (passed_on c.from_residual.result p.0 c.in_err-rows.field-0.0 Damaged p.1 p.2 is) in
    told_from (disk_in (g.R.Reads.log c.args.folder.now)) (λ d. IsKept (sealing_of keys) d tree → (shown : Rows) → HasTree (sealing_of keys) d shown → AreDamaged shown)
    (λ d told kept shown has. inl (damaged_of keys d tree kept shown has (subst (λ (o : Option Disk). HasUnread keys o tree) told unread)))

pub returns-then-not-are_ordered-clause-damaged : goal.returns-then-not-are_ordered-clause-damaged
returns-then-not-are_ordered-clause-damaged g c = λ is.
    let keys = c.args.keys.now in
    let tree = c.args.tree.now in
    let items = c.in_ok-rows.rows.items in
    let sorted = c.sort_by.new.self.items in
    let by_path : IsSortedBy is_before sorted =
    c.in_ok-sort_by.ensures.sorted is_before (ranks_by nat_list_cmp_total (λ (row : DemoRow). row.path.items)) (answers_always _ _ _ (λ f a r f' k. search rules)) in
    let unordered = λ (h : IsStrictlySortedBy (slice_cmp nat_cmp) (map text_of (map plain_row sorted))).
    true≢false (sym (c.are_ordered.ensures.1 (subst (λ (l : List DemoRow). IsStrictlySortedBy (slice_cmp nat_cmp) (map text_of (map plain_row l))) (sym c.deref.ensures.value) h))
    ∙ c.if-not-are_ordered.true) in
    told_from (disk_in (g.R.Reads.log c.args.folder.now)) (λ d. IsKept (sealing_of keys) d tree → (shown : Rows) → HasTree (sealing_of keys) d shown → AreDamaged shown)
    (λ d told kept shown has.
    inr (twins_of keys d tree kept shown has items sorted c.in_ok-rows.ensures.count (subst (λ (o : Option Disk). AreRowsOf keys o tree items) told c.in_ok-rows.ensures.rows)
    c.sort_by.ensures.permutation (has_tie sorted by_path unordered)))
