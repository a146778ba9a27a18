use Rattle.std.proofs.Common.{ℕ, List, subst}
use Rattle.std.specs.Int.{w64, to_be_bytes}
use Rattle.deeds.specs.Writing.{Passes}
use Rattle.deeds.specs.Grammar.{spelled_bytes}
use Rattle.deeds.proofs.Windows.{passes_then}
use Rattle.deeds.proofs.writing.pass_range.Goals as goal

pub returns-clause-passes : goal.returns-clause-passes
returns-clause-passes c =
    let r = c.args.range.now in
    passes_then (to_be_bytes w64 r.at) (spelled_bytes r.bytes.items) c.args.window.now c.pass.new.self c.pass_bytes.new.window c.args.out.now c.pass.new.out c.pass_bytes.new.out
    (subst (λ (l : List ℕ). Passes l c.args.window.now c.pass.new.self c.args.out.now c.pass.new.out) c.to_be_bytes.ensures c.pass.ensures.passes)
    (subst (λ (l : List ℕ). Passes (spelled_bytes l) c.pass.new.self c.pass_bytes.new.window c.pass.new.out c.pass_bytes.new.out) c.deref.ensures.value c.pass_bytes.ensures.passes)
