use Rattle.std.proofs.Common.{◌≡◌, sym, ap, ◌∙◌, ◌++◌, rules}
use Rattle.aes_block.specs.Aes.{aes}
use Rattle.aes_block.proofs.BlockNumbers.{to_be_bytes_block}
use Rattle.siv_mode.proofs.Counters.{keystream-push}
use Rattle.model_contents.proofs.siv.keystream.Goals as goal

pub loop-i-preserved : goal.loop-i-preserved
loop-i-preserved c =
    let cipher = aes c.args.key.now in
    let block = c.aes.ensures ∙ ap cipher (c.to_be_bytes.ensures ∙ to_be_bytes_block _) in
    let grown : c.extend_from_slice.new.self.items ≡ c.loop-i.stream.items ++ c.aes.result = search rules in
    grown ∙ (λ j. c.loop-i.invariant j ++ block j) ∙ sym (keystream-push cipher c.args.start c.loop-i.i)
