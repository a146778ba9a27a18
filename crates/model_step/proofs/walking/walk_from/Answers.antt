use Rattle.std.proofs.Common.{◌≡◌, ◌++◌, ◌∷◌, [], Result, Ok, Err, rules, arith, sym, ap, ◌∙◌}
use Rattle.std.proofs.lemmas.List.{drop_all}
use Rattle.tree_model.specs.declared.stat.Qid.{Qid}
use Rattle.tree_model.specs.declared.refusal.Refusal.{Refusal}
use Rattle.tree_model.specs.Rows.{Row, qid_of}
use Rattle.tree_model.specs.Step.{walked_by}
use Rattle.model_step.specs.SeenRows.{row_seen, rows_seen, walked_seen}
use Rattle.model_step.proofs.Ways.{walk_ends, walk_goes, walk_stops}
use Rattle.model_step.proofs.walking.walk_from.Goals as goal

pub returns-in-Err : goal.returns-in-Err
returns-in-Err c =
    let refused : ◌≡◌ {A = Result Row Refusal} (Err c.in-Err.refusal) (walked_by (rows_seen c.args.rows.now) (row_seen c.loop-name.at) c.name-item.result.items) =
    sym (ap walked_seen c.in-Err.is) ∙ c.in_ok-row.ensures ∙ ap (walked_by (rows_seen c.args.rows.now) (row_seen c.loop-name.at)) c.deref.ensures.value in
    walk_stops (rows_seen c.args.rows.now) (row_seen c.loop-name.at) c.args.names.now c.loop-name.name-index c.name-item.result c.in-Err.refusal c.loop-name.qids.items _ (omega arith) c.name-item.is
    refused c.loop-name.invariant

pub loop-name-preserved : goal.loop-name-preserved
loop-name-preserved c =
    let goes : ◌≡◌ {A = Result Row Refusal} (Ok (row_seen c.in-Ok.row)) (walked_by (rows_seen c.args.rows.now) (row_seen c.loop-name.at) c.name-item.result.items) =
    sym (ap walked_seen c.in-Ok.is) ∙ c.in_ok-row.ensures ∙ ap (walked_by (rows_seen c.args.rows.now) (row_seen c.loop-name.at)) c.deref.ensures.value in
    let pushed : c.push.new.self.items ≡ c.loop-name.qids.items ++ c.qid_of.result ∷ [] = search rules in
    let more : c.push.new.self.items ≡ c.loop-name.qids.items ++ qid_of (row_seen c.in-Ok.row) ∷ [] = pushed ∙ ap (λ (q : Qid). c.loop-name.qids.items ++ q ∷ []) c.qid_of.ensures in
    walk_goes (rows_seen c.args.rows.now) (row_seen c.loop-name.at) (row_seen c.in-Ok.row) c.args.names.now c.loop-name.name-index c.name-item.result c.loop-name.qids.items c.push.new.self.items _
    (omega arith) c.name-item.is goes more c.loop-name.invariant

pub returns : goal.returns
returns c =
    walk_ends (rows_seen c.args.rows.now) (row_seen c.loop-name.at) _ c.loop-name.qids.items _ (drop_all c.loop-name.name-index c.args.names.now (omega arith)) c.loop-name.invariant
