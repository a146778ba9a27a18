use Rattle.std.proofs.Common.{List, subst, arith}
use Rattle.std.proofs.lemmas.Result.{err_from_is_err_and}
use Rattle.std.specs.List.{list_any}
use Rattle.model_step.specs.declared.rows.Row.{Row}
use Rattle.model_step.specs.SeenRows.{nodes_seen}
use Rattle.model_step.specs.Ends.{IsEnd, is_last}
use Rattle.model_step.proofs.Lists.{end_at}
use Rattle.model_step.proofs.nodes.change_dir.Goals as goal

pub returns-in_err-changed-clause-end : goal.returns-in_err-changed-clause-end
returns-in_err-changed-clause-end c =
    let p = err_from_is_err_and c.from_residual-in_err-changed.result c.from_residual-in_err-changed.ensures.1 in
    let end : IsEnd c.in_err-changed.field-0.0 (list_any is_last (nodes_seen c.deref-row-items.result.now)) =
    end_at c.in_err-changed.field-0.0 c.deref-row-items.result.now c.loop-row.row-index c.row-item.result c.in_ok-copy.copy (omega arith) c.row-item.is c.in_ok-copy.ensures c.in_err-changed.ensures.end in
    rw (p.1, p.2) (subst (λ (nodes : List Row). IsEnd c.in_err-changed.field-0.0 (list_any is_last (nodes_seen nodes))) c.deref-row-items.ensures.value end)
