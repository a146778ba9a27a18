use Rattle.std.proofs.Common.{◌≤◌, ◌+◌, ◌-◌, ◌*◌, refl, arith}
use Rattle.std.proofs.Math.Nat.{mul-le-mul_left}
use Rattle.scrypt_kdf.proofs.Parts.{AreMixed-none, AreMixed-more, AreMixed-all}
use Rattle.scrypt_kdf.proofs.mixing.mix_each.Goals as goal

pub loop-i-init : goal.loop-i-init
loop-i-init c = AreMixed-none c.args.cost c.args.r c.args.parts.now

pub loop-i-preserved : goal.loop-i-preserved
loop-i-preserved c =
    let r = c.args.r in
    let i = c.loop-i.i in
    let rows : 128 * c.args.r * (c.loop-i.i + 1) ≤ 128 * c.args.r * c.args.p = mul-le-mul_left (128 * c.args.r) (omega arith) in
    AreMixed-more c.args.cost r i (128 * r * i + 128 * r - 128 * r * i) (128 * r * i + 128 * r - 128 * r * i) c.args.parts.now c.loop-i.parts _ c.ro_mix.new.part c.loop-i.invariant
    (omega arith) (omega arith) c.ro_mix.auto.part (omega arith) (omega arith) c.ro_mix.ensures refl

pub returns : goal.returns
returns c = AreMixed-all c.args.cost c.args.r c.args.p c.loop-i.i c.args.parts.now _ c.loop-i.invariant (omega arith) (omega arith)
