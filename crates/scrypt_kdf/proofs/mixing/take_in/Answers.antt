use Rattle.std.proofs.Common.{◌≡◌, ◌+◌, ◌-◌, ◌*◌, ◌∙◌, ℕ, take, drop, ap, arith}
use Rattle.aes_block.specs.Bytes.{xor_bytes}
use Rattle.scrypt_kdf.specs.Salsa.{salsa}
use Rattle.scrypt_kdf.proofs.mixing.take_in.Goals as goal

pub returns : goal.returns
returns c =
    let long : 16 * c.args.i + 16 - 16 * c.args.i ≡ 16 = omega arith in
    c.salsa.ensures ∙ ap salsa (c.xor_words_onto.ensures ∙ ap (λ (n : ℕ). xor_bytes c.args.x.now (take n (drop (16 * c.args.i) c.args.row.now))) long)
