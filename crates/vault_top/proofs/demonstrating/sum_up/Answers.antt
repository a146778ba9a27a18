use Rattle.std.proofs.Common.{◌≡◌, ◌∙◌, ◌++◌, ℕ, [], ◌∷◌, List, map, refl, ap}
use Rattle.demonstration.specs.Summary.{plain_row, summary_line}
use Rattle.demonstration.specs.declared.rows.DemoRow.{DemoRow}
use Rattle.vault_top.proofs.demonstrating.sum_up.Goals as goal

pub returns : goal.returns
returns c =
    let scripts = c.args.scripts in
    let lines = map plain_row c.in-Ok-rows_left.rows.items in
    let log = c.in-Ok.ensures.log in
    let same : c.load.new.from.log ≡ c.args.kept.folder.log = cc in
    let left = rw same at c.in-Ok-rows_left.ensures.left in
    record {
      line_is = λ shown has. record {
        rows = lines;
        left = left c.in-Ok.ensures.loaded shown has;
        is = c.in_ok-push.ensures.items ∙ ap (λ (text : List ℕ). text ++ 10 ∷ []) (c.in_ok-line.ensures
            ∙ ap (λ (nodes : List DemoRow). summary_line scripts.clients scripts.requests c.entries.result (map plain_row nodes)) c.deref.ensures.value
            ∙ ap (λ (n : ℕ). summary_line scripts.clients scripts.requests n lines) c.entries.ensures);
      };
      store_is = refl;
    }
