use Rattle.std.proofs.Common.{◌≤◌, ◌/◌, ℕ, List, length, take, ap, ◌∙◌, arith, length-take}
use Rattle.std.proofs.lemmas.Result.{IfOk-weaker}
use Rattle.outside.specs.Changes.{overwritten}
use Rattle.host_calls.specs.Bytes.{Wrote}
use Rattle.mem_host.specs.Cuts.{IsLeftOrNot}
use Rattle.mem_host.proofs.Cuts.{wrote_left}
use Rattle.mem_host.proofs.file.write_left.Goals as goal

pub returns-in-Half : goal.returns-in-Half
returns-in-Half c =
    let bytes = c.args.bytes.now in
    let old = c.args.old.items in
    let at = c.args.at in
    let half = take (length bytes / 2) bytes in
    let within : at ≤ length old = omega (arith, c.if-len-at.false, c.len.ensures, c.args.old.ok.0) in
    let few : length half ≤ length bytes = omega (arith, length-take (length bytes / 2) bytes) in
    IfOk-weaker c.overwritten.result _ (λ new. IsLeftOrNot (Wrote at bytes) old new.items)
    (λ new is. wrote_left at bytes half old new.items within few (is ∙ ap (λ (l : List ℕ). overwritten l at half) c.deref.ensures.value)) c.overwritten.ensures
