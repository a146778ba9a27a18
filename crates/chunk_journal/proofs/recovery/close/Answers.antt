use Rattle.std.proofs.Common.{◌∷◌, [], Option, sym, subst}
use Rattle.outside.specs.Calls.{Changes}
use Rattle.outside.specs.Disk.{Path}
use Rattle.outside.specs.Changes.{Write}
use Rattle.outside.specs.Images.{Log, now}
use Rattle.outside.proofs.Told.{changed_from, told_same}
use Rattle.outside.specs.Unsynced.{IsSynced}
use Rattle.chunk_journal.specs.Journal.{journal_file}
use Rattle.chunk_journal.specs.Opening.{HasLen}
use Rattle.chunk_journal.specs.Stages.{IsKept, LeavesParts}
use Rattle.chunk_journal.proofs.Openings.{ClosesBeside, parts_begun, shut_found}
use Rattle.chunk_journal.proofs.recovery.close.Goals as goal

pub returns-in_ok-write_synced-clause-closed : goal.returns-in_ok-write_synced-clause-closed
returns-in_ok-write_synced-clause-closed g c =
    let log = g.D.Reads.log c.args.folder.now in
    let after = g.D.Reads.log c.write_synced.new.folder in
    let found = c.in_ok-journal_len.field-0 in
    let some = sym c.if-is_some.ensures in
    changed_from log after (λ l. HasLen found (now l)) (IsKept (Write c.args.journal.now 0 (0 ∷ []))) ClosesBeside
    (λ old new has kept. shut_found found old new some has (subst (λ (p : Path). IsKept (Write p 0 (0 ∷ [])) old new) c.requires.journal kept))
    c.in_ok-journal_len.ensures.found
    (subst (λ (o : Option Log). Changes o after (IsKept (Write c.args.journal.now 0 (0 ∷ [])))) c.in_ok-journal_len.ensures.log c.in_ok-write_synced.ensures.written)

pub returns-in_err-journal_len-clause-any_moment : goal.returns-in_err-journal_len-clause-any_moment
returns-in_err-journal_len-clause-any_moment g c =
    let w = Write journal_file 0 (0 ∷ []) in
    told_same (g.D.Reads.log c.args.folder.now) (g.D.Reads.log c.journal_len.new.folder) IsSynced (LeavesParts w) c.in_err-journal_len.ensures.log (parts_begun w) c.requires.steady

pub returns-else-is_some-clause-any_moment : goal.returns-else-is_some-clause-any_moment
returns-else-is_some-clause-any_moment g c =
    let w = Write journal_file 0 (0 ∷ []) in
    told_same (g.D.Reads.log c.args.folder.now) (g.D.Reads.log c.journal_len.new.folder) IsSynced (LeavesParts w) c.in_ok-journal_len.ensures.log (parts_begun w) c.requires.steady
