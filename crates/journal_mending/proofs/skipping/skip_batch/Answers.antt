use Rattle.std.proofs.Common.{◌≡◌, ◌∙◌}
use Rattle.std.proofs.lemmas.Result.{err_from_is_err_and}
use Rattle.outside.specs.Calls.{Told}
use Rattle.outside.specs.Disk.{IsFolder}
use Rattle.outside.specs.Images.{now}
use Rattle.outside.proofs.Told.{changed_from, told_through}
use Rattle.chunk_journal.specs.Journal.{journal_file, HoldsBatch}
use Rattle.chunk_journal.proofs.Openings.{damaged_by, told_earlier}
use Rattle.deeds.specs.Plain.{plains}
use Rattle.journal_mending.specs.Mending.{SkipsAll, HasSkipped, SkipsToFolder}
use Rattle.journal_mending.proofs.Closing.{Closes, skipped_closed}
use Rattle.journal_mending.proofs.skipping.skip_batch.Goals as goal

pub returns-clause-skipped : goal.returns-clause-skipped
returns-clause-skipped g c =
    let log = g.F.Reads.log in
    let ds = plains c.args.deeds.items in
    let ss = c.in_ok-states.states.items in
    told_through (log c.args.folder.now) (log c.skip_all.new.folder) (log c.close.new.folder) (λ l. HoldsBatch (now l) ds) (λ old new. SkipsAll ss (now old) (now new)) Closes (λ old new. HasSkipped ss (now old) new)
    (skipped_closed ds ss (c.in_ok-states.ensures.deeds ∙ c.in_ok-ordered.ensures)) c.requires c.in_ok-states.ensures.skips c.in_ok-close.ensures.closed

pub returns-in_err-close-clause-damaged : goal.returns-in_err-close-clause-damaged
returns-in_err-close-clause-damaged g c =
    let log = g.F.Reads.log in
    let ds = plains c.args.deeds.items in
    let ss = c.in_ok-states.states.items in
    let order = c.in_ok-states.ensures.deeds ∙ c.in_ok-ordered.ensures in
    let q = err_from_is_err_and c.from_residual-in_err-close.result c.from_residual-in_err-close.ensures.1 in
    let both = changed_from (log c.args.folder.now) (log c.skip_all.new.folder) (λ l. HoldsBatch (now l) ds) (λ old new. SkipsAll ss (now old) (now new)) (λ old new. HoldsBatch (now old) ds × SkipsAll ss (now old) (now new))
    (λ x y held skips. (held, skips)) c.requires c.in_ok-states.ensures.skips in
    rw (q.1, q.2) (damaged_by c.in_err-close.field-0.0 (λ n. Told (log c.skip_all.new.folder) (λ l. IsFolder (now l) journal_file × (n ≡ 0))) (λ n. Told (log c.args.folder.now) (λ l. SkipsToFolder (now l) n))
    (λ n told. told_earlier (log c.args.folder.now) (log c.skip_all.new.folder) (λ old new. HoldsBatch (now old) ds × SkipsAll ss (now old) (now new)) (λ l. IsFolder (now l) journal_file × (n ≡ 0)) (λ l. SkipsToFolder (now l) n)
    (λ x y p at. record { states = ss; deeds = ds; held = p.0; order = order; between = now y; skips = p.1; folder = at.0; place = at.1 }) both told)
    c.in_err-close.ensures.damaged)
