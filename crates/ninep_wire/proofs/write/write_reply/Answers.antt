use Rattle.std.proofs.Common.{arith}
use Rattle.ninep_wire.proofs.write.write_reply.Goals as goal

pub returns-clause-formed : goal.returns-clause-formed
returns-clause-formed c = record {
  tag_fits = c.ranges.tag.fits;
  fields = c.put_fields-size.ensures.formed;
  size = omega (arith, c.put_fields-size.ensures.bytes.end, c.put_fields-size.ensures.small);
}
