use Rattle.std.proofs.Common.{◌≡◌, Bool, Some, None, IfErr, subst, sym, ap, ◌∙◌}
use Rattle.std.specs.Option.{option_map}
use Rattle.tree_model.specs.Rows.{row_of}
use Rattle.tree_model.specs.Asked.{plain_request}
use Rattle.tree_model.specs.Step.{early, node_of}
use Rattle.tree_model.proofs.Steps.{step_removed, step_refused, step_worked}
use Rattle.model_step.specs.SeenRows.{row_seen, rows_seen}
use Rattle.model_step.specs.Ends.{IsEnd}
use Rattle.model_step.proofs.Lists.{end_among}
use Rattle.model_step.proofs.stepping.step.Goals as goal

pub returns-in_default-clause-step : goal.returns-in_default-clause-step
returns-in_default-clause-step c =
    let none : row_of (rows_seen c.args.rows) (node_of (plain_request c.args.request.now)) ≡ None =
    ap (row_of (rows_seen c.args.rows)) (sym c.node_of.ensures) ∙ sym c.in_ok-row.ensures ∙ ap (option_map row_seen) c.in_default.is in
    c.refuses.ensures ∙ sym (step_removed (rows_seen c.args.rows) (plain_request c.args.request.now) c.args.now none)

pub returns-in-Some-2-clause-step : goal.returns-in-Some-2-clause-step
returns-in-Some-2-clause-step c =
    let some : row_of (rows_seen c.args.rows) (node_of (plain_request c.args.request.now)) ≡ Some (row_seen c.in-Some.row) =
    ap (row_of (rows_seen c.args.rows)) (sym c.node_of.ensures) ∙ sym c.in_ok-row.ensures ∙ ap (option_map row_seen) c.in-Some.is in
    let before : early (rows_seen c.args.rows) (row_seen c.in-Some.row) (plain_request c.args.request.now) ≡ Some c.in-Some-2.refusal = sym c.in_ok-refusal.ensures ∙ c.in-Some-2.is in
    c.refuses-in-Some-2.ensures ∙ sym (step_refused (rows_seen c.args.rows) (plain_request c.args.request.now) c.args.now (row_seen c.in-Some.row) c.in-Some-2.refusal some before)

pub returns-clause-step : goal.returns-clause-step
returns-clause-step c =
    let some : row_of (rows_seen c.args.rows) (node_of (plain_request c.args.request.now)) ≡ Some (row_seen c.in-Some.row) =
    ap (row_of (rows_seen c.args.rows)) (sym c.node_of.ensures) ∙ sym c.in_ok-row.ensures ∙ ap (option_map row_seen) c.in-Some.is in
    let free : early (rows_seen c.args.rows) (row_seen c.in-Some.row) (plain_request c.args.request.now) ≡ None = sym c.in_ok-refusal.ensures ∙ c.in_default-2.is in
    rw (step_worked (rows_seen c.args.rows) (plain_request c.args.request.now) c.args.now (row_seen c.in-Some.row) some free) c.work.ensures.step

pub returns-clause-end : goal.returns-clause-end
returns-clause-end c =
    let some : row_of (rows_seen c.args.rows) (node_of (plain_request c.args.request.now)) ≡ Some (row_seen c.in-Some.row) =
    ap (row_of (rows_seen c.args.rows)) (sym c.node_of.ensures) ∙ sym c.in_ok-row.ensures ∙ ap (option_map row_seen) c.in-Some.is in
    subst (λ (b : Bool). IfErr c.work.result (λ e. IsEnd e b)) (end_among (rows_seen c.args.rows) (node_of (plain_request c.args.request.now)) (row_seen c.in-Some.row) some) c.work.ensures.end
