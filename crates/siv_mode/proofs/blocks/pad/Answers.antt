use Rattle.siv_mode.proofs.Padding.{padded_is}
use Rattle.siv_mode.proofs.blocks.pad.Goals as goal

pub returns : goal.returns
returns c = padded_is c.args.bytes.now _ c.requires c.copy_from_slice.ensures.after
