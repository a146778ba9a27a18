use Rattle.std.proofs.Common.{arith}
use Rattle.aes_block.specs.Aes.{aes}
use Rattle.siv_mode.specs.Siv.{ad_of}
use Rattle.siv_mode.proofs.Sealing.{s2v_short, s2v_long}
use Rattle.model_contents.proofs.siv.s2v.Goals as goal

pub returns-then-text-lt16 : goal.returns-then-text-lt16
returns-then-text-lt16 c =
    let short = s2v_short (aes c.args.key.now) (ad_of c.args.ad) c.args.text.now (omega arith) in
    cc

pub returns-in_ok-xored_end : goal.returns-in_ok-xored_end
returns-in_ok-xored_end c =
    let long = s2v_long (aes c.args.key.now) (ad_of c.args.ad) c.args.text.now (omega arith) in
    cc (c.in_ok-xored_end.ensures, c.deref.ensures.value)
