use Rattle.std.proofs.Common.{ap, take, ◌∙◌}
use Rattle.std.specs.Int.{bytes_low_first}
use Rattle.model_step.proofs.Lists.{appended, low_bytes}
use Rattle.model_step.proofs.stats.put_number.Goals as goal

pub returns : goal.returns
returns c =
    appended c.extend_from_slice.result c.extend_from_slice.new.self.items c.args.out.now.items (take c.args.size c.to_le_bytes.result) (bytes_low_first 0 c.args.size c.args.value)
    c.extend_from_slice.ensures.items (ap (take c.args.size) c.to_le_bytes.ensures ∙ low_bytes 0 c.args.size 8 c.args.value c.requires)
