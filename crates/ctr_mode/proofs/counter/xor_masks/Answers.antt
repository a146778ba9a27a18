use Rattle.std.proofs.Common.{◌≡◌, ℕ, suc, ◌+◌, ◌-◌, ◌*◌, ◌<◌, List, [], length, get_or, ap, subst, ◌∙◌, refl, arith}
use borrow.Rule.Slice.PartMut.{put_mid}
use Rattle.ctr_mode.specs.Counter.{counter_block}
use Rattle.ctr_mode.specs.Counted.{IsCountedTo}
use Rattle.ctr_mode.proofs.Counters.{counted_more}
use Rattle.ctr_mode.proofs.counter.xor_masks.Goals as goal

pub loop-j-preserved : goal.loop-j-preserved
loop-j-preserved c = λ cipher first old makes long known masks.
    let n : ℕ = c.args.start + c.loop-j.j in
    let k : ℕ = c.min-end.result - 16 * (c.args.start + c.loop-j.j) in
    let mask : List ℕ = get_or c.args.masks.now c.loop-j.j [] in
    let is : mask ≡ cipher (counter_block first (c.args.start + c.loop-j.j)) = masks c.loop-j.j (omega arith) in
    let next : suc (c.args.start + c.loop-j.j) ≡ c.args.start + (c.loop-j.j + 1) = omega arith in
    let within : 16 * (c.args.start + c.loop-j.j) < length old = omega arith in
    subst (λ (m : ℕ). IsCountedTo cipher first old (put_mid (16 * n) k c.loop-j.text c.xor_onto.new.target) m) next
    (counted_more cipher first old c.loop-j.text c.xor_onto.new.target _ mask n k (c.loop-j.invariant cipher first old makes long known masks)
    within (omega (arith, c.min-end.ensures)) is (ap length is ∙ makes.long _) c.xor_onto.ensures refl)
