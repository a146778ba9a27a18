use Rattle.std.proofs.Common.{ℕ, ◌∷◌, [], List, length, take, sym, subst, arith}
use Rattle.std.proofs.lemmas.List.{take_all}
use Rattle.deeds.specs.Writing.{Passes}
use Rattle.deeds.specs.Grammar.{spelled_all, spelled_part}
use Rattle.deeds.proofs.Windows.{passes_then, spelled_more, get_drop}
use Rattle.deeds.proofs.writing.pass_path.Goals as goal

pub loop-index-init : goal.loop-index-init
loop-index-init c = record { passes = subst (λ (k : ℕ). Passes (k ∷ []) c.args.window.now c.pass.new.self c.args.out.now c.pass.new.out) c.len.ensures.count c.pass.ensures.passes; within = c.pass.ensures.within }

pub loop-index-preserved : goal.loop-index-preserved
loop-index-preserved c =
    let path = c.args.path.now in
    let i = c.loop-index.index in
    let part = c.part.result.now in
    let so_far = spelled_all spelled_part (take i path) in
    let more = spelled_more spelled_part path i part (get_drop path i part c.part.ensures.at) in
    record {
      passes = subst (λ (l : List ℕ). Passes (length path ∷ l) c.args.window.now c.pass_part.new.window c.args.out.now c.pass_part.new.out) (sym more)
          (passes_then (length path ∷ so_far) (spelled_part part) c.args.window.now c.loop-index.window c.pass_part.new.window c.args.out.now c.loop-index.out c.pass_part.new.out c.loop-index.invariant.passes c.pass_part.ensures.passes);
      within = c.pass_part.ensures.within;
    }

pub returns-clause-passes : goal.returns-clause-passes
returns-clause-passes c =
    let path = c.args.path.now in
    subst (λ (l : List (List ℕ)). Passes (length path ∷ spelled_all spelled_part l) c.args.window.now c.loop-index.window c.args.out.now c.loop-index.out) (take_all c.loop-index.index path (omega (arith, c.loop-index-test.false, c.len-index-end.ensures.count))) c.loop-index.invariant.passes
