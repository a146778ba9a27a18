use Rattle.std.proofs.Common.{◌≡◌, ℕ, ◌+◌, ◌-◌, ◌*◌, ◌<◌, List, [], length, get_or, ap, subst, ◌∙◌, refl, arith}
use borrow.Rule.Slice.PartMut.{put_mid}
use Rattle.siv_mode.specs.Counted.{IsCountedTo, encrypted_counter}
use Rattle.siv_mode.proofs.Counters.{counted_more}
use Rattle.siv_mode.proofs.keystream.xor_masks.Goals as goal

pub loop-j-init : goal.loop-j-init
loop-j-init c = λ cipher first old makes long known masks.
    let none : c.args.start ≡ c.args.start + 0 = omega arith in
    subst (λ (n : ℕ). IsCountedTo cipher first old c.args.text.now n) none known

pub loop-j-preserved : goal.loop-j-preserved
loop-j-preserved c = λ cipher first old makes long known masks.
    let n : ℕ = c.args.start + c.loop-j.j in
    let k : ℕ = c.min-end.result - 16 * (c.args.start + c.loop-j.j) in
    let mask : List ℕ = get_or c.args.masks.now c.loop-j.j [] in
    let is : mask ≡ encrypted_counter cipher first (c.args.start + c.loop-j.j) = masks c.loop-j.j (omega arith) in
    let next : c.args.start + c.loop-j.j + 1 ≡ c.args.start + (c.loop-j.j + 1) = omega arith in
    let within : 16 * (c.args.start + c.loop-j.j) < length old = omega arith in
    subst (λ (m : ℕ). IsCountedTo cipher first old (put_mid (16 * n) k c.loop-j.text c.xor_onto.new.target) m) next
    (counted_more cipher first old c.loop-j.text c.xor_onto.new.target _ mask n k (c.loop-j.invariant cipher first old makes long known masks)
    within (omega (arith, c.min-end.ensures)) is (ap length is ∙ makes.long _) c.xor_onto.ensures refl)
