use Rattle.std.proofs.Common.{arith}
use Rattle.outside.specs.Changes.{SetLen, CanDo}
use Rattle.outside.specs.Images.{now}
use Rattle.chunk_journal.proofs.Faults.{err_cause, then_cause}
use Rattle.chunk_journal.proofs.Tidy.{told_broke, told_did, told_kept, told_synced}
use Rattle.chunk_journal.proofs.steps.cut_synced.Goals as goal

pub returns-clause-cut : goal.returns-clause-cut
returns-clause-cut g c = told_kept (SetLen c.args.path.now c.args.len) (g.D.Reads.log c.args.folder.now) (g.D.Reads.log c.set_len.new.self) c.requires.steady (g.D.Reads.log c.sync.new.self) c.in_ok-set_len.ensures.done c.in_ok-sync.ensures.synced

pub returns-clause-any_moment : goal.returns-clause-any_moment
returns-clause-any_moment g c = told_synced (SetLen c.args.path.now c.args.len) (g.D.Reads.log c.args.folder.now) (g.D.Reads.log c.set_len.new.self) c.requires.steady (g.D.Reads.log c.sync.new.self) c.in_ok-set_len.ensures.done c.in_ok-sync.ensures.synced

pub returns-in_err-set_len-clause-any_moment : goal.returns-in_err-set_len-clause-any_moment
returns-in_err-set_len-clause-any_moment g c = told_broke (SetLen c.args.path.now c.args.len) (g.D.Reads.log c.args.folder.now) (g.D.Reads.log c.set_len.new.self) c.requires.steady c.in_err-set_len.ensures.broken

pub returns-in_err-sync-clause-any_moment : goal.returns-in_err-sync-clause-any_moment
returns-in_err-sync-clause-any_moment g c = told_did (SetLen c.args.path.now c.args.len) (g.D.Reads.log c.args.folder.now) (g.D.Reads.log c.set_len.new.self) c.requires.steady (g.D.Reads.log c.sync.new.self) c.in_ok-set_len.ensures.done c.in_err-sync.ensures.failed

pub returns-in_err-set_len-clause-cause : goal.returns-in_err-set_len-clause-cause
returns-in_err-set_len-clause-cause g c =
    err_cause c.in_err-set_len.field-0.0 (g.D.Reads.log c.args.folder.now) (g.D.Reads.faults c.args.folder.now) (g.D.Reads.faults c.set_len.new.self) (λ log. CanDo (SetLen c.args.path.now c.args.len) (now log)) _ c.requires.can
    c.in_err-set_len.ensures.cause c.in_err-set_len.ensures.unfit c.in_err-set_len.ensures.no_memory

pub returns-in_err-sync-clause-cause : goal.returns-in_err-sync-clause-cause
returns-in_err-sync-clause-cause g c = then_cause c.in_err-sync.field-0.0 (g.D.Reads.faults c.args.folder.now) (g.D.Reads.faults c.set_len.new.self) (g.D.Reads.faults c.sync.new.self) _ c.in_ok-set_len.ensures.cause.later c.in_err-sync.ensures.cause c.in_err-sync.ensures.fits c.in_err-sync.ensures.no_memory

pub returns-clause-cause : goal.returns-clause-cause
returns-clause-cause g c = record { later = omega (arith, c.in_ok-set_len.ensures.cause.later, c.in_ok-sync.ensures.cause.later); rose = λ failed. absurd cc }
