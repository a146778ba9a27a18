use Rattle.std.proofs.Common.{◌≡◌, ◌+◌, Bool, false, Option, subst}
use Rattle.outside.specs.Calls.{Told}
use Rattle.outside.specs.Images.{Log, now}
use Rattle.outside.proofs.Told.{told_both}
use Rattle.deeds.specs.Plain.{plains}
use Rattle.chunk_journal.specs.Journal.{IsUnheld}
use Rattle.chunk_journal.specs.Opening.{HasFolder, Says, IsSummedOrNot, IsBadBehindGate}
use Rattle.chunk_journal.proofs.Damage.{missummed, missummed_unheld}
use Rattle.chunk_journal.proofs.reading.held_batch.Goals as goal

pub returns-then-not-branch-clause-damaged : goal.returns-then-not-branch-clause-damaged
returns-then-not-branch-clause-damaged g c =
    let log = g.D.Reads.log c.args.folder.now in
    let ds = plains c.deref.result.now in
    let len = c.args.len in
    let other = subst (λ (is : Bool). Told log (λ l. IsSummedOrNot is ds (now l))) c.if-not-branch.true
    (subst (λ (o : Option Log). Told o (λ l. IsSummedOrNot c.in_ok-is_summed.field-0 ds (now l))) c.in_ok-deeds.ensures.log c.in_ok-is_summed.ensures.summed) in
    told_both log (λ l. Says len (now l) × (HasFolder (now l) → ⊥)) (λ l. IsSummedOrNot false ds (now l)) (λ l. IsBadBehindGate (now l) (9 + len)) c.requires.says other
    (λ l s o. missummed (now l) len ds s.0 s.1 o)

pub returns-then-not-branch-clause-unheld : goal.returns-then-not-branch-clause-unheld
returns-then-not-branch-clause-unheld g c =
    let log = g.D.Reads.log c.args.folder.now in
    let ds = plains c.deref.result.now in
    let other = subst (λ (is : Bool). Told log (λ l. IsSummedOrNot is ds (now l))) c.if-not-branch.true
    (subst (λ (o : Option Log). Told o (λ l. IsSummedOrNot c.in_ok-is_summed.field-0 ds (now l))) c.in_ok-deeds.ensures.log c.in_ok-is_summed.ensures.summed) in
    told_both log (λ l. IsSummedOrNot false ds (now l)) (λ l. IsSummedOrNot false ds (now l)) (λ l. IsUnheld (now l)) other other (λ l o _. missummed_unheld (now l) ds o)
