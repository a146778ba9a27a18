use Rattle.std.proofs.Common.{arith}
use Rattle.std.proofs.lemmas.Grind.{common_steps}
use Rattle.host_folder.proofs.Ascii.{IsUtf8-from_part}
use Rattle.host_folder.proofs.path_buffer.part_text.Goals as goal

pub unwrap-requires : goal.unwrap-requires
unwrap-requires c = let text = IsUtf8-from_part c.args.part.now c.requires in grind (arith, common_steps, text, c.from_utf8.ensures.cases)
