use Rattle.std.proofs.Common.{ℕ, List, [], ◌∷◌, ◌++◌, codes, ap, ◌∙◌}
use Rattle.vault_top.specs.Report.{sessions_line}
use Rattle.vault_top.proofs.Counted.{count_added}
use Rattle.vault_top.proofs.report.counts_line.Goals as goal

pub returns : goal.returns
unfolding sessions_line
returns c = λ ends are.
    let sessions = count_added _ _ _ (codes "sessions ") _ _ c.in_ok-add_count.ensures c.new-line.ensures.bytes are.sessions in
    let done = count_added _ _ _ (codes " done ") _ _ c.in_ok-add_count-2.ensures sessions are.done in
    let cut = count_added _ _ _ (codes " cut ") _ _ c.in_ok-add_count-3.ensures done are.cut in
    let bad = count_added _ _ _ (codes " bad ") _ _ c.in_ok-add_count-4.ensures cut are.bad in
    let read = count_added _ _ _ (codes " read ") _ _ c.in_ok-add_count-5.ensures bad are.read in
    let write = count_added _ _ _ (codes " write ") _ _ c.in_ok-add_count-6.ensures read are.write in
    let memory = count_added _ _ _ (codes " memory ") _ _ c.in_ok-add_count-7.ensures write are.memory in
    let limit = count_added _ _ _ (codes " limit ") _ _ c.in_ok-add_count-8.ensures memory are.limit in
    c.in_ok-push_str.ensures.bytes ∙ ap (λ (w : List ℕ). w ++ 10 ∷ []) limit
