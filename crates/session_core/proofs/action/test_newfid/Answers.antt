use Rattle.session_core.proofs.Tests.{newfid_tested}
use Rattle.session_core.proofs.action.test_newfid.Goals as goal

pub returns : goal.returns
returns c =
    newfid_tested c.args.session.now c.args.fid c.args.newfid c.if-newfid-eq-NO_FID.false c.if-newfid-fid.false c.test_unused.result c.test_unused.ensures
