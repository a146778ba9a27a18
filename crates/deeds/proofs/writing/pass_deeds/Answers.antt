use Rattle.std.proofs.Common.{ℕ, ◌++◌, List, length, take, sym, ap, subst, ◌∙◌, append_assoc, arith}
use Rattle.std.specs.Int.{w32, to_be_bytes}
use Rattle.deeds.specs.Writing.{Passes}
use Rattle.deeds.specs.Plain.{plain, plains}
use Rattle.deeds.specs.Deeds.{PlainDeed}
use Rattle.deeds.specs.Grammar.{spelled_all, spelled_deed, IsDeed}
use Rattle.deeds.proofs.Doing.{split_at}
use Rattle.deeds.proofs.Phases.{plains_next, plains_all, plains_long}
use Rattle.deeds.proofs.Rising.{each_at}
use Rattle.deeds.proofs.Windows.{passes_then, spelled_more}
use Rattle.deeds.proofs.writing.pass_deeds.Goals as goal

pub loop-deed-init : goal.loop-deed-init
loop-deed-init c =
    let s = c.args.deeds.now in
    record {
      passes = subst (λ (k : ℕ). Passes (to_be_bytes w32 k) c.args.window.now c.pass.new.self c.args.out.now c.pass.new.out) (sym (plains_long s))
          (subst (λ (l : List ℕ). Passes l c.args.window.now c.pass.new.self c.args.out.now c.pass.new.out) c.to_be_bytes.ensures c.pass.ensures.passes);
      within = c.pass.ensures.within;
    }

pub overflow_cast-deeds : goal.overflow_cast-deeds
overflow_cast-deeds c = omega (arith, c.requires.batch.few, plains_long c.args.deeds.now)

pub pass_deed-requires-clause-good : goal.pass_deed-requires-clause-good
pass_deed-requires-clause-good c =
    let s = c.args.deeds.now in
    let i = c.loop-deed.deed-index in
    let x = c.deed-item.result in
    each_at IsDeed (plains s) i (plain x) (plains_next s i x (split_at s i x (omega arith) c.deed-item.is)) c.requires.batch.each

pub loop-deed-preserved : goal.loop-deed-preserved
loop-deed-preserved c =
    let s = c.args.deeds.now in
    let ds = plains s in
    let i = c.loop-deed.deed-index in
    let x = c.deed-item.result in
    let front = to_be_bytes w32 (length ds) in
    let so_far = spelled_all spelled_deed (take i ds) in
    let more = spelled_more spelled_deed ds i (plain x) (plains_next s i x (split_at s i x (omega arith) c.deed-item.is)) in
    record {
      passes = subst (λ (l : List ℕ). Passes l c.args.window.now c.pass_deed.new.window c.args.out.now c.pass_deed.new.out) (append_assoc front so_far (spelled_deed (plain x)) ∙ ap (λ (l : List ℕ). front ++ l) (sym more))
          (passes_then (front ++ so_far) (spelled_deed (plain x)) c.args.window.now c.loop-deed.window c.pass_deed.new.window c.args.out.now c.loop-deed.out c.pass_deed.new.out c.loop-deed.invariant.passes c.pass_deed.ensures.passes);
      within = c.pass_deed.ensures.within;
    }

pub returns-clause-passes : goal.returns-clause-passes
returns-clause-passes c =
    let s = c.args.deeds.now in
    subst (λ (l : List PlainDeed). Passes (to_be_bytes w32 (length (plains s)) ++ spelled_all spelled_deed l) c.args.window.now c.loop-deed.window c.args.out.now c.loop-deed.out) (plains_all s c.loop-deed.deed-index (omega arith)) c.loop-deed.invariant.passes
