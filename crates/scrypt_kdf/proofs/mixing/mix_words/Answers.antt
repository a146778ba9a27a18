use Rattle.std.proofs.Common.{ℕ, List, ◌≡◌, ◌+◌, ◌*◌, ◌∙◌, ap, sym, arith}
use Rattle.std.proofs.lemmas.List.{take_all}
use Rattle.scrypt_kdf.specs.Salsa.{bytes_of_words}
use Rattle.scrypt_kdf.specs.Scrypt.{block_mix, x_after}
use Rattle.scrypt_kdf.proofs.RoMixing.{row_at-last, x_after-none, x_after-more}
use Rattle.scrypt_kdf.proofs.mixing.mix_words.Goals as goal

pub loop-pair-init : goal.loop-pair-init
loop-pair-init c =
    let r = c.args.r in
    let table : List ℕ = c.fill_table.new.table in
    let last = row_at-last r c.args.cost table table (omega arith) (sym (take_all (32 * r * c.args.cost) table (omega arith))) in
    x_after-none c.args.cost r (bytes_of_words c.args.x.now) table _ (omega arith) c.fill_table.ensures (c.block_mix.ensures ∙ ap (block_mix r) (ap bytes_of_words last))

pub loop-pair-preserved : goal.loop-pair-preserved
loop-pair-preserved c =
    let n = c.loop-pair._pair in
    let first = x_after-more c.args.cost c.args.r (2 * n) (2 * n + 1) (bytes_of_words c.args.x.now) c.fill_table.new.table c.loop-pair.x c.mix_with_row.new.y (omega arith)
    (omega arith) c.fill_table.ensures c.loop-pair.invariant c.mix_with_row.ensures in
    x_after-more c.args.cost c.args.r (2 * n + 1) (2 * (n + 1)) (bytes_of_words c.args.x.now) c.fill_table.new.table c.mix_with_row.new.y _ (omega arith)
    (omega arith) c.fill_table.ensures first c.mix_with_row-in-loop-pair.ensures

pub returns : goal.returns
returns c =
    let end : 2 * c.loop-pair._pair ≡ c.args.cost = omega arith in
    c.loop-pair.invariant ∙ ap (x_after c.args.cost c.args.r (bytes_of_words c.args.x.now)) end
