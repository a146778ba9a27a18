use Rattle.std.proofs.Common.{◌≡◌, ℕ, ◌+◌, ◌∷◌, ◌++◌, take, ◌∙◌, sym, subst}
use Rattle.outside.specs.Disk.{Disk, Path, IsFile}
use Rattle.outside.specs.Images.{now}
use Rattle.outside.proofs.Told.{told_both}
use Rattle.deeds.specs.Grammar.{behind_gate}
use Rattle.deeds.specs.Plain.{plains}
use Rattle.deeds.proofs.Doing.{told_disk}
use Rattle.chunk_journal.specs.Journal.{journal_file}
use Rattle.chunk_journal.specs.Opening.{Follows, IsSummedOrNot}
use Rattle.chunk_journal.proofs.Damage.{HasReadAt, summed_at}
use Rattle.chunk_journal.proofs.Faults.{look_cause}
use Rattle.chunk_journal.proofs.reading.is_summed.Goals as goal

pub returns-in_err-n-clause-cause : goal.returns-in_err-n-clause-cause
returns-in_err-n-clause-cause g c =
    let log = g.D.Reads.log c.args.folder.now in
    let ds = plains c.args.deeds.now in
    let p = c.args.journal.now in
    let there = told_both log (λ l. Follows ds (now l)) (λ l. Follows ds (now l)) (λ l. IsFile (now l) p) c.requires.follows c.requires.follows
    (λ l f _. subst (λ (q : Path). IsFile (now l) q) (sym c.requires.journal) (1 ∷ (behind_gate ds ++ f.rest), f.here)) in
    look_cause c.in_err-n.field-0.0 log (g.D.Reads.faults c.args.folder.now) (g.D.Reads.faults c.read.new.self) (λ d. IsFile d p) _ there
    c.in_err-n.ensures.cause c.in_err-n.ensures.unfit c.in_err-n.ensures.no_memory

pub returns-clause-summed : goal.returns-clause-summed
returns-clause-summed g c =
    let log = g.D.Reads.log c.args.folder.now in
    let ds = plains c.args.deeds.now in
    let p = c.args.journal.now in
    let n = c.in_ok-n.n in
    let out = c.read.new.out in
    let len = c.args.len in
    told_both log (λ l. Follows ds (now l)) (λ l. HasReadAt p out 40 (9 + len) n (now l)) (λ l. IsSummedOrNot c.is_no_other-is_fit.result ds (now l)) c.requires.follows
    (told_disk log (HasReadAt p out 40 (9 + len) n) c.in_ok-n.ensures.bytes)
    (λ l f r. summed_at c.is_no_other-is_fit.result ds (now l) p out c.sum_behind.result n len c.requires.journal c.requires.len c.sum_behind.ensures f r
    c.is_no_other-is_fit.ensures.yes c.is_no_other-is_fit.ensures.no c.is_no_other-is_fit.ensures.other)
