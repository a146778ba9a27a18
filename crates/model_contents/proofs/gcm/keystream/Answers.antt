use Rattle.std.proofs.Common.{sym, ◌∙◌, rules}
use Rattle.aes_block.specs.Aes.{aes}
use Rattle.gcm_mode.proofs.Counting.{keystream_more, keystream_none}
use Rattle.model_contents.proofs.gcm.keystream.Goals as goal

pub loop-i-init : goal.loop-i-init
loop-i-init c = c.new-stream.ensures.items ∙ sym (keystream_none (aes c.args.key.now) c.args.nonce)

pub loop-i-preserved : goal.loop-i-preserved
loop-i-preserved c = rw (keystream_more (aes c.args.key.now) c.args.nonce c.loop-i.i) (search rules)
