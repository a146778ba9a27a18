use Rattle.std.proofs.Common.{◌≡◌, ◌+◌, ◌-◌, ℕ, List, Option, length, take, drop, ap, rules, arith}
use Rattle.tree_model.specs.Rows.{joined}
use Rattle.model_step.specs.SeenContents.{content_seen}
use Rattle.model_step.proofs.Gathered.{slice_cut}
use Rattle.model_step.proofs.content.slice_of.Goals as goal

pub returns : goal.returns
returns c =
    let bytes : List (Option ℕ) = joined (content_seen c.args.content.now) in
    let is : c.deref.result.now ≡ bytes = search rules in
    let len : length c.deref.result.now ≡ length bytes = ap length is in
    let cut : take (c.min-start.result + c.min.result - c.min-start.result) (drop c.min-start.result c.deref.result.now) ≡ take c.args.most (drop c.args.at c.deref.result.now) =
    slice_cut c.deref.result.now c.args.at c.args.most c.min-start.result (c.min-start.result + c.min.result) (omega arith) (omega arith) in
    rw (← is, ← cut) c.all_there.ensures
