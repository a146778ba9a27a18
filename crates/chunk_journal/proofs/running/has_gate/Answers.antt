use Rattle.std.proofs.Common.{◌≡◌, Some, sym, ap, ◌∙◌}
use Rattle.std.proofs.lemmas.Bool.{ltb-true}
use Rattle.outside.specs.Disk.{kind_at}
use Rattle.outside.specs.Images.{now}
use Rattle.outside.specs.declared.folder.Kind.{Kind}
use Rattle.outside.proofs.Told.{told_then}
use Rattle.deeds.proofs.Doing.{told_disk}
use Rattle.chunk_journal.proofs.Commits.{found_gate}
use Rattle.chunk_journal.proofs.running.has_gate.Goals as goal

pub returns-in-Some-File-clause-gate : goal.returns-in-Some-File-clause-gate
returns-in-Some-File-clause-gate g c =
    let log = g.D.Reads.log c.args.folder.now in
    let told = told_disk log (λ d. c.in_ok-len.field-0 ≡ kind_at d c.args.journal.now) c.in_ok-len.ensures.kind in
    told_then log (λ l. c.in_ok-len.field-0 ≡ kind_at (now l) c.args.journal.now) _ told
    (λ l e some. found_gate (now l) c.in-Some-File.len (ap (λ (k : Kind). Some k) (sym c.in-Some-File.field-0-is) ∙ sym c.in-Some-File.is ∙ e ∙ ap (kind_at (now l)) c.requires) (ltb-true 0 c.in-Some-File.len some))
