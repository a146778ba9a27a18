use Rattle.std.proofs.Common.{refl}
use Rattle.deeds.specs.Plain.{plain_ranges}
use Rattle.journal_mending.proofs.Skips.{not_refused}
use Rattle.journal_mending.proofs.skipping.reshape.Goals as goal

pub returns-in-Err-Unfit-clause-skips : goal.returns-in-Err-Unfit-clause-skips
returns-in-Err-Unfit-clause-skips g c =
    not_refused c.args.path.now c.args.len (plain_ranges c.args.ranges.now) (g.F.Reads.log c.args.folder.now) (g.F.Reads.log c.do_reshape.new.folder) c.requires.can
    (c.in-Err-Unfit.ensures.left (rw c.in-Err-Unfit.field-0-is refl))
