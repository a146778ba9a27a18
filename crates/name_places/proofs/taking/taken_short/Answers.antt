use Rattle.std.proofs.Common.{refl}
use Rattle.std.proofs.lemmas.Bool.{false≢true}
use Rattle.std.proofs.lemmas.Result.{IfOk-weaker}
use Rattle.outside.specs.Images.{disk_in}
use Rattle.name_places.proofs.Asking.{short_ok, short_err}
use Rattle.name_places.proofs.taking.taken_short.Goals as goal

pub returns-in-Ok-clause-taken : goal.returns-in-Ok-clause-taken
returns-in-Ok-clause-taken g c =
    IfOk-weaker c.if_there.result _ _
    (λ found told.
    short_ok (disk_in (g.R.Reads.log c.args.folder.now)) c.args.parent.now c.args.text.now c.host_folder.result c.in-Ok.short found c.requires c.host_folder.ensures (c.in-Ok.ensures.exact.0 refl) c.in-Ok.ensures.path told)
    c.if_there.ensures.there

pub returns-in-Err-clause-taken : goal.returns-in-Err-clause-taken
returns-in-Err-clause-taken g c =
    short_err (disk_in (g.R.Reads.log c.args.folder.now)) c.args.parent.now c.args.text.now c.host_folder.result c.requires c.host_folder.ensures (λ good. false≢true (c.in-Err.ensures.exact.1 good))
