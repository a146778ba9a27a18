use Rattle.std.proofs.Common.{◌≡◌, ◌-◌, ◌*◌, ℕ, List, Option, take, drop, option_map, ap, ◌∙◌, arith}
use Rattle.tree_model.specs.Rows.{good, all_there}
use Rattle.model_step.proofs.Gathered.{slice_cut}
use Rattle.model_step.proofs.content_changing.sealed_chunk.Goals as goal

pub returns-in-Some : goal.returns-in-Some
returns-in-Some c =
    let bytes : List (Option ℕ) = c.args.bytes.now in
    let cut : take (c.min-end.result - c.min-start.result) (drop c.min-start.result bytes) ≡ take 32768 (drop (c.args.i * 32768) bytes) =
    slice_cut bytes (c.args.i * 32768) 32768 c.min-start.result c.min-end.result (omega arith) (omega arith) in
    let all = rw c.in-Some.is at c.in_ok-clear.ensures in
    ap (option_map (λ (clear : List ℕ). good clear)) (all ∙ ap all_there cut)

pub returns-in-None : goal.returns-in-None
returns-in-None c =
    let bytes : List (Option ℕ) = c.args.bytes.now in
    let cut : take (c.min-end.result - c.min-start.result) (drop c.min-start.result bytes) ≡ take 32768 (drop (c.args.i * 32768) bytes) =
    slice_cut bytes (c.args.i * 32768) 32768 c.min-start.result c.min-end.result (omega arith) (omega arith) in
    let all = rw c.in-None.is at c.in_ok-clear.ensures in
    ap (option_map (λ (clear : List ℕ). good clear)) (all ∙ ap all_there cut)
