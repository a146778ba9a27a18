use Rattle.std.proofs.Common.{◌≡◌, ◌++◌, Option}
use Rattle.outside.specs.Calls.{Changes, Told}
use Rattle.outside.specs.Images.{Log, Synced, now, adds, IsSound}
use Rattle.outside.proofs.Told.{both_changed, through, told_new}
use Rattle.deeds.proofs.Phases.{cause_then}
use Rattle.deeds.specs.Grammar.{behind_gate}
use Rattle.deeds.specs.Plain.{plains}
use Rattle.chunk_journal.specs.Stages.{KeepsShut, HasWritten, HasStaged, HasPlace, KeepsFront, KeepsItShut, headers_at, sum_behind}
use Rattle.chunk_journal.proofs.Behind.{written_place, headers_front, headers_shut}
use Rattle.chunk_journal.proofs.Pieces.{staged_synced, keeps_synced, front_shut, with_new}
use Rattle.chunk_journal.proofs.stage.stage.Given.{Over}
use Rattle.chunk_journal.proofs.stage.stage.Goals as goal
use Rattle.chunk_journal.proofs.stage.stage.Goals.{In_ok-write_headers}

-- the headers' place is there
pub write_headers-requires-clause-place : goal.write_headers-requires-clause-place
write_headers-requires-clause-place g c =
    let bs = plains c.args.deeds.now in
    told_new (g.D.Reads.log c.args.folder.now) (g.D.Reads.log c.write_summed.new.folder) (HasWritten bs) (HasPlace (headers_at bs)) (written_place bs) c.in_ok-write_summed.ensures.written

-- behind them the batch and its sum are still written
written : (g : Over) (c : In_ok-write_headers g) → Changes (g.D.Reads.log c.args.folder.now) (g.D.Reads.log c.write_headers.new.folder) (HasWritten (plains c.args.deeds.now))
written g c =
    let bs = plains c.args.deeds.now in
    through (g.D.Reads.log c.args.folder.now) (g.D.Reads.log c.write_summed.new.folder) (g.D.Reads.log c.write_headers.new.folder) (HasWritten bs) (KeepsFront (headers_at bs)) (HasWritten bs) (headers_front bs)
    c.in_ok-write_summed.ensures.written c.in_ok-write_headers.ensures.front

-- and the journal is still closed
shut : (g : Over) (c : In_ok-write_headers g) → Changes (g.D.Reads.log c.args.folder.now) (g.D.Reads.log c.write_headers.new.folder) KeepsShut
shut g c =
    through (g.D.Reads.log c.args.folder.now) (g.D.Reads.log c.write_summed.new.folder) (g.D.Reads.log c.write_headers.new.folder) KeepsShut KeepsItShut KeepsShut headers_shut c.in_ok-write_summed.ensures.any_moment c.in_ok-write_headers.ensures.any_moment

pub returns-in_err-write_headers-clause-any_moment : goal.returns-in_err-write_headers-clause-any_moment
returns-in_err-write_headers-clause-any_moment g c =
    through (g.D.Reads.log c.args.folder.now) (g.D.Reads.log c.write_summed.new.folder) (g.D.Reads.log c.write_headers.new.folder) KeepsShut KeepsItShut KeepsShut headers_shut c.in_ok-write_summed.ensures.any_moment c.in_err-write_headers.ensures.any_moment

pub returns-clause-staged : goal.returns-clause-staged
returns-clause-staged g c =
    let bs = plains c.args.deeds.now in
    let l0 = g.D.Reads.log c.args.folder.now in
    let l1 = g.D.Reads.log c.write_headers.new.folder in
    through l0 l1 (g.D.Reads.log c.sync.new.self) (λ x y. HasWritten bs x y × IsSound y.start y.calls) (λ mid new. new ≡ adds mid Synced) (HasStaged bs)
    (λ old mid new p is. staged_synced (behind_gate bs ++ sum_behind bs) old mid new p.1 p.0 is) (with_new l0 l1 (HasWritten bs) (λ y. IsSound y.start y.calls) (written g (goal.at.returns-clause-staged g c).In_ok-write_headers) c.sync.ensures.sound) c.in_ok-sync.ensures.synced

pub returns-clause-any_moment : goal.returns-clause-any_moment
returns-clause-any_moment g c =
    let bs = plains c.args.deeds.now in
    let Written = HasWritten bs in
    let l0 = g.D.Reads.log c.args.folder.now in
    let l1 = g.D.Reads.log c.write_headers.new.folder in
    let at = (goal.at.returns-clause-any_moment g c).In_ok-write_headers in
    through l0 l1 (g.D.Reads.log c.sync.new.self) (λ x y. KeepsShut x y × Written x y) (λ mid new. new ≡ adds mid Synced) KeepsShut
    (λ old mid new p is. keeps_synced old mid new p.0 (front_shut (behind_gate bs ++ sum_behind bs) (now old) (now mid) p.1) is) (both_changed l0 l1 KeepsShut Written (shut g at) (written g at)) c.in_ok-sync.ensures.synced
