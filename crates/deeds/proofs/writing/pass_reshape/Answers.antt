use Rattle.std.proofs.Common.{ℕ, ◌∷◌, ◌++◌, List, length, sym, subst, arith}
use Rattle.std.specs.Int.{w32, w64, to_be_bytes}
use Rattle.deeds.specs.Writing.{Passes}
use Rattle.deeds.specs.Plain.{plain_ranges}
use Rattle.deeds.specs.Grammar.{spelled_all, spelled_path, spelled_range}
use Rattle.deeds.proofs.Rising.{ranges_long}
use Rattle.deeds.proofs.Windows.{passes_then}
use Rattle.deeds.proofs.writing.pass_reshape.Goals as goal

pub overflow_cast-ranges : goal.overflow_cast-ranges
overflow_cast-ranges c = omega (arith, c.requires.good.few, ranges_long c.args.ranges.now)

pub returns-clause-passes : goal.returns-clause-passes
returns-clause-passes c =
    let rs = plain_ranges c.args.ranges.now in
    let len = to_be_bytes w64 c.args.len in
    let count = to_be_bytes w32 (length rs) in
    let texts = spelled_all spelled_range rs in
    let w0 = c.args.window.now in
    let w1 = c.pass_named.new.window in
    let w2 = c.pass.new.self in
    let w3 = c.pass-2.new.self in
    let w4 = c.pass_ranges.new.window in
    let o0 = c.args.out.now in
    let o1 = c.pass_named.new.out in
    let o2 = c.pass.new.out in
    let o3 = c.pass-2.new.out in
    let o4 = c.pass_ranges.new.out in
    let one = subst (λ (l : List ℕ). Passes l w1 w2 o1 o2) c.to_be_bytes.ensures c.pass.ensures.passes in
    let two = subst (λ (k : ℕ). Passes (to_be_bytes w32 k) w2 w3 o2 o3) (sym (ranges_long c.args.ranges.now)) (subst (λ (l : List ℕ). Passes l w2 w3 o2 o3) c.to_be_bytes-2.ensures c.pass-2.ensures.passes) in
    passes_then (6 ∷ spelled_path c.args.path.now) (len ++ (count ++ texts)) w0 w1 w4 o0 o1 o4 c.pass_named.ensures.passes
    (passes_then len (count ++ texts) w1 w2 w4 o1 o2 o4 one (passes_then count texts w2 w3 w4 o2 o3 o4 two c.pass_ranges.ensures.passes))
