use Rattle.std.proofs.Common.{◌≡◌, suc, ◌+◌, ◌-◌, ◌%◌, ◌^◌, ◌++◌, ◌∙◌, List, ℕ, ap, arith}
use Rattle.aes_block.specs.Bytes.{bytes_of}
use Rattle.scrypt_kdf.specs.Pbkdf2.{prf, xored_us}
use Rattle.scrypt_kdf.proofs.Blocks.{counter-is, u_after-none, u_after-more, xored_us-none, xored_us-more}
use Rattle.scrypt_kdf.proofs.derivation.block.Goals as goal

pub loop-turn-init : goal.loop-turn-init
loop-turn-init c =
    let first : List ℕ = c.args.salt.now ++ bytes_of 4 (c.args.number % 2 ^ 32) in
    let text = counter-is c.args.salt.now c.to_be_bytes.result _ c.args.number c.to_be_bytes.ensures (omega arith) in
    let made : c.hmac256_of_pieces-u.result ≡ prf c.args.password.now (c.args.salt.now ++ bytes_of 4 (c.args.number % 2 ^ 32)) =
    c.hmac256_of_pieces-u.ensures ∙ ap (prf c.args.password.now) text in
    record {
      u_is = u_after-none c.args.password.now first _ _ made (omega arith);
      xored_is = xored_us-none c.args.password.now first _ _ made (omega arith);
    }

pub loop-turn-preserved : goal.loop-turn-preserved
loop-turn-preserved c =
    let first : List ℕ = c.args.salt.now ++ bytes_of 4 (c.args.number % 2 ^ 32) in
    let next : c.loop-turn._turn + 1 - 1 ≡ suc (c.loop-turn._turn - 1) = omega arith in
    let u = u_after-more c.args.password.now first _ _ (c.loop-turn._turn - 1) _ next c.loop-turn.invariant.u_is c.hmac256-u.ensures in
    record {
      u_is = u;
      xored_is = xored_us-more c.args.password.now first _ _ _ (c.loop-turn._turn - 1) _ next u c.loop-turn.invariant.xored_is c.xor_onto.ensures;
    }

pub returns : goal.returns
returns c =
    let first : List ℕ = c.args.salt.now ++ bytes_of 4 (c.args.number % 2 ^ 32) in
    let end : c.loop-turn._turn ≡ c.args.turns = omega arith in
    c.loop-turn.invariant.xored_is ∙ ap (λ (t : ℕ). xored_us c.args.password.now (c.args.salt.now ++ bytes_of 4 (c.args.number % 2 ^ 32)) (t - 1)) end
