use Rattle.std.proofs.Common.{List, Option, sym, subst, arith}
use Rattle.outside.specs.Calls.{Told, Changes}
use Rattle.outside.specs.Disk.{Disk}
use Rattle.outside.specs.Images.{Log, now}
use Rattle.deeds.specs.Deeds.{PlainDeed, DoesAll, in_order}
use Rattle.chunk_journal.specs.Journal.{IsQuiet, AnyMoment, HasCommitted}
use Rattle.write_back.proofs.Flushing.{nothing_moved, of_all, none_told, was_dropped, fitting_can, rose_after, plains_none}
use Rattle.write_back.proofs.back.commit_fitting.Goals as goal

pub returns-in_err-dropped-clause-any_moment : goal.returns-in_err-dropped-clause-any_moment
returns-in_err-dropped-clause-any_moment g c =
    nothing_moved (g.D.Reads.log c.args.journal.now) (g.D.Reads.log c.drop_changed.new.folder) c.args.pending.now c.in_err-dropped.ensures.log c.requires.quiet

pub returns-then-is_empty-clause-dropped : goal.returns-then-is_empty-clause-dropped
returns-then-is_empty-clause-dropped g c = λ _.
    let look = c.in_ok-dropped in
    none_told (g.D.Reads.log c.args.journal.now) look.dropped look.ensures.untold
    (was_dropped c.args.pending.now c.drop_changed.new.pending look.dropped look.ensures.kept c.requires.some
    (plains_none c.deeds-fitting.result.now c.is_empty.result c.drop_changed.new.pending c.is_empty.ensures c.if-is_empty.true c.deeds-fitting.ensures.deeds))

pub returns-then-is_empty-clause-any_moment : goal.returns-then-is_empty-clause-any_moment
returns-then-is_empty-clause-any_moment g c =
    nothing_moved (g.D.Reads.log c.args.journal.now) (g.D.Reads.log c.drop_changed.new.folder) c.args.pending.now c.in_ok-dropped.ensures.log c.requires.quiet

pub returns-then-is_empty-clause-cause : goal.returns-then-is_empty-clause-cause
returns-then-is_empty-clause-cause g c =
    let look = c.in_ok-dropped in
    record {
      later = look.ensures.cause.later;
      rose = λ _. look.ensures.cause.rose (was_dropped c.args.pending.now c.drop_changed.new.pending look.dropped look.ensures.kept c.requires.some
          (plains_none c.deeds-fitting.result.now c.is_empty.result c.drop_changed.new.pending c.is_empty.ensures c.if-is_empty.true c.deeds-fitting.ensures.deeds));
    }

pub commit-requires-clause-quiet : goal.commit-requires-clause-quiet
commit-requires-clause-quiet g c = subst (λ (o : Option Log). Told o IsQuiet) (sym c.in_ok-dropped.ensures.log) c.requires.quiet

pub commit-requires-clause-can : goal.commit-requires-clause-can
commit-requires-clause-can g c =
    subst (λ (l : List PlainDeed). Told (g.D.Reads.log c.drop_changed.new.folder) (λ log. (after : Disk) × DoesAll (in_order l) (now log) after)) (sym c.deeds-fitting.ensures.deeds)
    (fitting_can (g.D.Reads.log c.args.journal.now) (g.D.Reads.log c.drop_changed.new.folder) c.args.pending.now c.drop_changed.new.pending c.in_ok-dropped.dropped c.in_ok-dropped.ensures.log
    c.in_ok-dropped.ensures.untold c.in_ok-dropped.ensures.kept c.requires.waits)

pub returns-in_err-commit-clause-any_moment : goal.returns-in_err-commit-clause-any_moment
returns-in_err-commit-clause-any_moment g c =
    of_all AnyMoment (g.D.Reads.log c.args.journal.now) (g.D.Reads.log c.drop_changed.new.folder) (g.D.Reads.log c.commit.new.self) c.args.pending.now c.drop_changed.new.pending c.in_ok-dropped.dropped
    c.in_ok-dropped.ensures.log c.in_ok-dropped.ensures.untold c.in_ok-dropped.ensures.kept
    (subst (λ (l : List PlainDeed). Changes (g.D.Reads.log c.drop_changed.new.folder) (g.D.Reads.log c.commit.new.self) (AnyMoment l)) c.deeds-fitting.ensures.deeds c.in_err-commit.ensures.any_moment)

pub returns-then-dropped-clause-dropped : goal.returns-then-dropped-clause-dropped
returns-then-dropped-clause-dropped g c = λ _.
    none_told (g.D.Reads.log c.args.journal.now) c.in_ok-dropped.dropped c.in_ok-dropped.ensures.untold c.if-dropped.true

pub returns-then-dropped-clause-any_moment : goal.returns-then-dropped-clause-any_moment
returns-then-dropped-clause-any_moment g c =
    of_all AnyMoment (g.D.Reads.log c.args.journal.now) (g.D.Reads.log c.drop_changed.new.folder) (g.D.Reads.log c.commit.new.self) c.args.pending.now c.drop_changed.new.pending c.in_ok-dropped.dropped
    c.in_ok-dropped.ensures.log c.in_ok-dropped.ensures.untold c.in_ok-dropped.ensures.kept
    (subst (λ (l : List PlainDeed). Changes (g.D.Reads.log c.drop_changed.new.folder) (g.D.Reads.log c.commit.new.self) (AnyMoment l)) c.deeds-fitting.ensures.deeds c.in_ok-commit.ensures.any_moment)

pub returns-then-dropped-clause-cause : goal.returns-then-dropped-clause-cause
returns-then-dropped-clause-cause g c = record {
  later = omega (arith, c.in_ok-dropped.ensures.cause.later, c.in_ok-commit.ensures.cause.later);
  rose = λ _. rose_after _ _ _ c.in_ok-dropped.ensures.cause.later (c.in_ok-dropped.ensures.cause.rose c.if-dropped.true) c.in_ok-commit.ensures.cause.later;
}

pub returns-clause-any_moment : goal.returns-clause-any_moment
returns-clause-any_moment g c =
    of_all AnyMoment (g.D.Reads.log c.args.journal.now) (g.D.Reads.log c.drop_changed.new.folder) (g.D.Reads.log c.commit.new.self) c.args.pending.now c.drop_changed.new.pending c.in_ok-dropped.dropped
    c.in_ok-dropped.ensures.log c.in_ok-dropped.ensures.untold c.in_ok-dropped.ensures.kept
    (subst (λ (l : List PlainDeed). Changes (g.D.Reads.log c.drop_changed.new.folder) (g.D.Reads.log c.commit.new.self) (AnyMoment l)) c.deeds-fitting.ensures.deeds c.in_ok-commit.ensures.any_moment)

pub returns-clause-committed : goal.returns-clause-committed
returns-clause-committed g c =
    of_all HasCommitted (g.D.Reads.log c.args.journal.now) (g.D.Reads.log c.drop_changed.new.folder) (g.D.Reads.log c.commit.new.self) c.args.pending.now c.drop_changed.new.pending c.in_ok-dropped.dropped
    c.in_ok-dropped.ensures.log c.in_ok-dropped.ensures.untold c.in_ok-dropped.ensures.kept
    (subst (λ (l : List PlainDeed). Changes (g.D.Reads.log c.drop_changed.new.folder) (g.D.Reads.log c.commit.new.self) (HasCommitted l)) c.deeds-fitting.ensures.deeds c.in_ok-commit.ensures.committed)
