use Rattle.std.proofs.Common.{◌≡◌, ◌+◌, ◌*◌, length, take, ap, ◌∙◌, arith}
use Rattle.std.proofs.lemmas.List.{length-take-le}
use Rattle.scrypt_kdf.specs.Salsa.{bytes_of_words}
use Rattle.scrypt_kdf.specs.Scrypt.{block_mix}
use Rattle.scrypt_kdf.proofs.RoMixing.{row_at-last, row_at-written}
use Rattle.scrypt_kdf.proofs.mixing.fill_row.Goals as goal

pub returns-clause-made : goal.returns-clause-made
returns-clause-made c =
    let r = c.args.r in
    let end : 32 * c.args.r * (c.args.i + 1) ≡ 32 * c.args.r * c.args.i + 32 * c.args.r = omega arith in
    let long : length (take (32 * c.args.r) c.split_at_mut-front.result.1.now) ≡ 32 * c.args.r = length-take-le (32 * c.args.r) _ (omega arith) in
    ap bytes_of_words (row_at-written r c.args.i c.split_at_mut-front.result.0.now c.block_mix.new.target _ (omega arith) (omega arith))
    ∙ c.block_mix.ensures
    ∙ ap (block_mix r) (ap bytes_of_words (row_at-last r c.args.i c.split_at_mut-front.result.0.now c.args.table.now (omega arith) c.split_at_mut-front.ensures.front))
