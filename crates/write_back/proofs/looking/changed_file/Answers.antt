use Rattle.std.proofs.Common.{◌≡◌, None, ap}
use Rattle.deeds.specs.Plain.{plain, plain_ranges}
use Rattle.write_back.specs.Headers.{header_of}
use Rattle.write_back.proofs.Fitting.{unfit_changed}
use Rattle.write_back.proofs.looking.changed_file.Goals as goal

pub returns-clause-unchanged : goal.returns-clause-unchanged
returns-clause-unchanged g c =
    let path = c.in-Reshape.path in
    unfit_changed (λ bytes. bytes.now) c.of.result (header_of path c.args.headers.now ≡ None) (g.R.Reads.log c.args.folder.now) (plain c.args.deed.now) path c.in-Reshape.field-1
    (plain_ranges c.in-Reshape.field-2.items) c.args.headers.now c.in_ok-fits.field-0 c.copied.result (ap plain c.in-Reshape.is) c.of.ensures c.in_ok-fits.ensures.fits c.if-branch.false
