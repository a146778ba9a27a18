use Rattle.std.proofs.Common.{ℕ, ◌≡◌, ◌+◌, ◌-◌, ◌*◌, ◌∙◌, ap, sym, take, drop, arith}
use Rattle.aes_block.specs.Bytes.{xor_bytes}
use Rattle.scrypt_kdf.specs.Rows.{row_at}
use Rattle.scrypt_kdf.specs.Salsa.{bytes_of_words}
use Rattle.scrypt_kdf.specs.Scrypt.{block_mix}
use Rattle.scrypt_kdf.proofs.Words.{xor-bytes_of_words}
use Rattle.scrypt_kdf.proofs.mixing.mix_with_row.Goals as goal

pub returns : goal.returns
returns c =
    let r = c.args.r in
    let j : ℕ = c.chosen_row-j.result in
    let long : 32 * c.args.r * c.chosen_row-j.result + 32 * c.args.r - 32 * c.args.r * c.chosen_row-j.result ≡ 32 * c.args.r = omega arith in
    c.block_mix.ensures ∙ ap (block_mix r) (ap bytes_of_words (c.xor_words_onto.ensures ∙ ap (λ (n : ℕ). xor_bytes c.args.x.now (take n (drop (32 * r * j) c.args.table.now))) long)
    ∙ sym (xor-bytes_of_words c.args.x.now (row_at r c.args.table.now j))
    ∙ ap (λ (n : ℕ). xor_bytes (bytes_of_words c.args.x.now) (bytes_of_words (row_at r c.args.table.now n))) c.chosen_row-j.ensures.row)
