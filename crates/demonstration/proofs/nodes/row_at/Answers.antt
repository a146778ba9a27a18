use Rattle.std.proofs.Common.{◌≡◌, ◌<◌, ◌∙◌, ℕ, List, Some, length, sym, ap, subst, arith}
use Rattle.std.proofs.lemmas.Result.{err_from_is_err_and}
use Rattle.std.specs.Option.{option_copied}
use Rattle.outside.specs.Images.{disk_in}
use Rattle.clear_tree.specs.Kept.{What, node_of}
use Rattle.demonstration.specs.Nodes.{IsTextBelow, IsUnreadWhat, IsWhat}
use Rattle.demonstration.specs.declared.error.LeftErr.TheVariants.{Damaged}
use Rattle.demonstration.proofs.Places.{text_path}
use Rattle.demonstration.proofs.Unread.{no_gap, passed_on, unread_host}
use Rattle.demonstration.proofs.nodes.row_at.Goals as goal

pub returns-clause-row : goal.returns-clause-row
returns-clause-row g c = λ all.
    let tree = c.args.tree.now in
    let node = c.in-Some.node.now in
    let disk = disk_in (g.R.Reads.log c.args.folder.now) in
    let there : node_of tree c.args.number ≡ Some node = sym c.in-Some.ensures.value in
    let text = subst (λ (p : ℕ × List ℕ). IsTextBelow c.args.rows.now p.0 p.1 c.in_ok-path.path.items) (λ i. (c.parent.ensures i, c.name.ensures.bytes i)) c.in_ok-path.ensures.text in
    let path = text_path tree c.args.number node there c.requires c.args.keys.now disk c.args.rows.now c.in_ok-path.path.items all text in
    record {
      node = node;
      there = there;
      path = path.path;
      at = path.at;
      text = c.in_ok-row.ensures.path ∙ path.is;
      what = subst (λ (w : What). IsWhat c.args.keys.now disk tree c.args.number w c.in_ok-row.row) c.what-what.ensures c.in_ok-row.ensures.what;
    }

pub returns-in_default-clause-damaged : goal.returns-in_default-clause-damaged
returns-in_default-clause-damaged g c = λ is tree many within.
    absurd (no_gap c.args.tree.now c.args.number within (sym c.node.ensures.value ∙ ap option_copied c.in_default.is))

pub returns-in_err-path-clause-damaged : goal.returns-in_err-path-clause-damaged
returns-in_err-path-clause-damaged g c = λ is tree many within.
    let p = err_from_is_err_and c.from_residual.result c.from_residual.ensures.1 in
    let node = c.in-Some.node.now in
    let before : node.parent < c.args.number = tree.parents c.args.number node (sym c.in-Some.ensures.value) c.requires in
    let past : length c.args.rows.now < c.parent.result =
    c.in_err-path.ensures.damaged (passed_on c.from_residual.result p.0 c.in_err-path.field-0.0 Damaged p.1 p.2 is) in
    absurd (omega (arith, c.parent.ensures))

pub returns-in_err-row-clause-damaged : goal.returns-in_err-row-clause-damaged
returns-in_err-row-clause-damaged g c = λ is tree many within.
    let p = err_from_is_err_and c.from_residual-in_err-row.result c.from_residual-in_err-row.ensures.1 in
    let disk = disk_in (g.R.Reads.log c.args.folder.now) in
    unread_host c.args.keys.now disk c.args.tree.now c.args.number c.in-Some.node.now tree (sym c.in-Some.ensures.value)
    (subst (λ (w : What). IsUnreadWhat c.args.keys.now disk c.args.tree.now c.args.number w) c.what-what.ensures
    (c.in_err-row.ensures.damaged (passed_on c.from_residual-in_err-row.result p.0 c.in_err-row.field-0.0 Damaged p.1 p.2 is)))
