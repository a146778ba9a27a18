use Rattle.std.proofs.Common.{◌≡◌, ℕ, ◌+◌, ◌-◌, ◌*◌, ◌≤◌, [], length, get_or, subst, arith, refl}
use borrow.Rule.Slice.PartMut.{put_mid}
use Rattle.gcm_mode.specs.Counted.{Counted}
use Rattle.gcm_mode.specs.Gcm.{counter_block}
use Rattle.gcm_mode.proofs.Counting.{Counted_step}
use Rattle.gcm_mode.proofs.stream.xor_masks.Goals as goal

pub loop-j-init : goal.loop-j-init
loop-j-init c = λ cipher nonce old blocks long known masks.
    let none : c.args.start ≡ c.args.start + 0 = omega arith in
    subst (λ (n : ℕ). Counted cipher nonce old n c.args.text.now) none known

pub loop-j-preserved : goal.loop-j-preserved
loop-j-preserved c = λ cipher nonce old blocks long known masks.
    let n : ℕ = c.args.start + c.loop-j.j in
    let at : ℕ = 16 * (c.args.start + c.loop-j.j) in
    let next : c.args.start + c.loop-j.j + 1 ≡ c.args.start + (c.loop-j.j + 1) = omega arith in
    let room : 16 * (c.args.start + c.loop-j.j) + 16 ≤ length old = omega arith in
    subst (λ (k : ℕ). Counted cipher nonce old k (put_mid at (at + 16 - at) c.loop-j.text c.xor_onto.new.target)) next
    (Counted_step cipher nonce old c.loop-j.text (counter_block nonce (n + 2)) (get_or c.args.masks.now c.loop-j.j []) c.xor_onto.new.target n at (at + 16) blocks
    (c.loop-j.invariant cipher nonce old blocks long known masks) refl refl room refl (masks c.loop-j.j (omega arith)) c.xor_onto.ensures)
