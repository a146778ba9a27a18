use Rattle.std.proofs.Common.{arith, rules}
use Rattle.aes_block.specs.Aes.{sub_bytes}
use Rattle.aes_block.specs.Field.{substituted}
use Rattle.model_contents.proofs.CipherArrays.{map-is}
use Rattle.model_contents.proofs.cipher.sub_word.Goals as goal

pub returns : goal.returns
unfolding sub_bytes
returns c =
    let items = c.map.ensures.items in
    map-is substituted c.args.word c.map.result 4 (omega arith) items.long (λ i h. let called = items.at i 0 0 h in search rules)
