use Rattle.std.proofs.Common.{Option, ap, subst}
use Rattle.outside.specs.Calls.{Changes}
use Rattle.outside.specs.Images.{Log, now}
use Rattle.chunk_journal.specs.Journal.{IsQuiet, IsAlike}
use Rattle.vaultd.proofs.Tidying.{recovered}
use Rattle.vaultd.proofs.closing.cut_journal.Goals as goal

pub returns-clause-recovered : goal.returns-clause-recovered
returns-clause-recovered g c =
    let opened = g.D.Reads.log c.in-Ok.journal in
    let after = g.D.Reads.log c.empty_journal.new.folder in
    recovered (g.D.Reads.log c.args.folder) opened after c.in-Ok.ensures.opened
    (subst (λ (o : Option Log). Changes o after (λ old new. IsQuiet new × IsAlike (now old) (now new))) (ap (λ d. g.D.Reads.log d) c.into_folder-folder.ensures) c.in_ok-empty_journal.ensures.quiet)
