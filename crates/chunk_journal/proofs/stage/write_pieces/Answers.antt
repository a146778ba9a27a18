use Rattle.std.proofs.Common.{◌≡◌, ⊎_elim, ℕ, ◌+◌, ◌-◌, ◌<◌, ◌≤◌, min, List, ◌++◌, length, take, drop, refl, sym, ap, subst, ◌∙◌, arith, length-take, length-drop}
use Rattle.std.proofs.Math.Seq.{take-append-add}
use Rattle.std.proofs.lemmas.Bool.{cases_lt}
use Rattle.std.proofs.lemmas.List.{take-append-drop, take_all}
use Rattle.outside.specs.Calls.{Changes, Told}
use Rattle.outside.specs.Changes.{Write, CanDo}
use Rattle.outside.specs.Disk.{Path}
use Rattle.outside.specs.Images.{Log, now, HasDone, HasBroken}
use Rattle.outside.proofs.Told.{through, told_new, told_same, changed_by}
use Rattle.deeds.specs.Grammar.{behind_gate}
use Rattle.deeds.specs.Plain.{plains}
use Rattle.deeds.proofs.Phases.{cause_then}
use Rattle.chunk_journal.specs.Journal.{journal_file, IsReady}
use Rattle.chunk_journal.specs.Stages.{KeepsShut, HasFront, sum_behind}
use Rattle.chunk_journal.proofs.Faults.{err_cause}
use Rattle.chunk_journal.proofs.Pieces.{pieces_join, pieces_begun, front_begun, piece_did, piece_broke, front_more, can_piece}
use Rattle.chunk_journal.proofs.stage.write_pieces.Goals as goal

abbrev Front : List ℕ → ℕ → Log → Log → Type 0
Front bs at old new = HasFront (take at bs) (now old) (now new)

pub loop-at-init : goal.loop-at-init
loop-at-init g c =
    let a = g.D.Reads.log c.args.folder.now in
    let bs = behind_gate (plains c.args.deeds.now) in
    record {
      front = told_same a a IsReady (Front bs 0) refl (λ l ready. front_begun l ready) c.requires.ready;
      keeps = told_same a a IsReady KeepsShut refl (λ l ready. pieces_begun l ready) c.requires.ready;
      within = omega arith;
      long = omega (arith, c.spelled_len-len.ensures);
      room = c.requires.room;
      later = omega arith;
    }

pub returns-in_err-write-clause-any_moment : goal.returns-in_err-write-clause-any_moment
returns-in_err-write-clause-any_moment g c =
    let a = g.D.Reads.log c.args.folder.now in
    let b = g.D.Reads.log c.loop-at.folder in
    let d = g.D.Reads.log c.write.new.self in
    let at = c.loop-at.at in
    let piece = take c.write_batch-n.result c.write_batch-n.new.out in
    through a b d KeepsShut (HasBroken (Write journal_file (1 + at) piece)) KeepsShut (piece_broke at piece) c.loop-at.invariant.keeps
    (subst (λ (p : Path). Changes b d (HasBroken (Write p (1 + at) piece))) c.requires.journal c.in_err-write.ensures.broken)

pub returns-in_err-write-clause-cause : goal.returns-in_err-write-clause-cause
returns-in_err-write-clause-cause g c =
    let a = g.D.Reads.log c.args.folder.now in
    let b = g.D.Reads.log c.loop-at.folder in
    let at = c.loop-at.at in
    let bs = behind_gate (plains c.args.deeds.now) in
    let piece = take c.write_batch-n.result c.write_batch-n.new.out in
    let fb = g.D.Reads.faults c.loop-at.folder in
    let fd = g.D.Reads.faults c.write.new.self in
    let can = told_new a b (Front bs at) (λ log. CanDo (Write journal_file (1 + at) piece) (now log))
    (λ x y has. can_piece at (take at bs) piece (now x) y (omega (arith, length-take at bs, c.loop-at.invariant.within)) has) c.loop-at.invariant.front in
    cause_then (g.D.Reads.faults c.args.folder.now) fb fd _ c.loop-at.invariant.later
    (err_cause c.in_err-write.field-0.0 b fb fd (λ log. CanDo (Write c.args.journal.now (1 + at) piece) (now log)) _
    (subst (λ (p : Path). Told b (λ log. CanDo (Write p (1 + at) piece) (now log))) (sym c.requires.journal) can)
    c.in_err-write.ensures.cause c.in_err-write.ensures.unfit c.in_err-write.ensures.no_memory)

pub loop-at-preserved : goal.loop-at-preserved
loop-at-preserved g c =
    let a = g.D.Reads.log c.args.folder.now in
    let b = g.D.Reads.log c.loop-at.folder in
    let d = g.D.Reads.log c.write.new.self in
    let at = c.loop-at.at in
    let n = c.write_batch-n.result in
    let bs = behind_gate (plains c.args.deeds.now) in
    let room = length c.loop-at.piece in
    let piece = take n c.write_batch-n.new.out in
    let bytes = take room (drop at bs) in
    let w = Write journal_file (1 + at) bytes in
    let done = subst (λ (l : List ℕ). Changes b d (HasDone (Write journal_file (1 + at) l))) c.write_batch-n.ensures.bytes
    (subst (λ (p : Path). Changes b d (HasDone (Write p (1 + at) piece))) c.requires.journal c.in_ok-write.ensures.done) in
    let join = pieces_join at room n bs c.loop-at.invariant.within c.write_batch-n.ensures.count in
    record {
      front = through a b d (Front bs at) (HasDone w) (Front bs (at + n))
          (λ old mid new has did. subst (λ (l : List ℕ). HasFront l (now old) (now new)) join (front_more at (take at bs) bytes old mid new (omega (arith, length-take at bs, c.loop-at.invariant.within)) has did)) c.loop-at.invariant.front done;
      keeps = through a b d KeepsShut (HasDone w) KeepsShut (piece_did at bytes) c.loop-at.invariant.keeps done;
      within = omega (arith, c.loop-at.invariant.within, c.write_batch-n.ensures.count);
      long = c.loop-at.invariant.long;
      room = omega (arith, c.loop-at.invariant.room, c.write_batch-n.auto.out);
      later = omega (arith, c.loop-at.invariant.later, c.in_ok-write.ensures.cause.later);
    }

-- the whole batch is written as the loop ends, and the sum is written behind it
pub returns-in_err-write-2-clause-any_moment : goal.returns-in_err-write-2-clause-any_moment
returns-in_err-write-2-clause-any_moment g c =
    let a = g.D.Reads.log c.args.folder.now in
    let b = g.D.Reads.log c.loop-at.folder in
    let d = g.D.Reads.log c.write-2.new.self in
    let at = c.loop-at.at in
    let sum = c.sum_behind.result in
    through a b d KeepsShut (HasBroken (Write journal_file (1 + at) sum)) KeepsShut (piece_broke at sum) c.loop-at.invariant.keeps
    (subst (λ (p : Path). Changes b d (HasBroken (Write p (1 + at) sum))) c.requires.journal c.in_err-write-2.ensures.broken)

pub returns-in_err-write-2-clause-cause : goal.returns-in_err-write-2-clause-cause
returns-in_err-write-2-clause-cause g c =
    let a = g.D.Reads.log c.args.folder.now in
    let b = g.D.Reads.log c.loop-at.folder in
    let at = c.loop-at.at in
    let bs = behind_gate (plains c.args.deeds.now) in
    let sum = c.sum_behind.result in
    let fb = g.D.Reads.faults c.loop-at.folder in
    let fd = g.D.Reads.faults c.write-2.new.self in
    let can = told_new a b (Front bs at) (λ log. CanDo (Write journal_file (1 + at) sum) (now log))
    (λ x y has. can_piece at (take at bs) sum (now x) y (omega (arith, length-take at bs, c.loop-at.invariant.within)) has) c.loop-at.invariant.front in
    cause_then (g.D.Reads.faults c.args.folder.now) fb fd _ c.loop-at.invariant.later
    (err_cause c.in_err-write-2.field-0.0 b fb fd (λ log. CanDo (Write c.args.journal.now (1 + at) sum) (now log)) _
    (subst (λ (p : Path). Told b (λ log. CanDo (Write p (1 + at) sum) (now log))) (sym c.requires.journal) can)
    c.in_err-write-2.ensures.cause c.in_err-write-2.ensures.unfit c.in_err-write-2.ensures.no_memory)

pub returns-clause-written : goal.returns-clause-written
returns-clause-written g c =
    let a = g.D.Reads.log c.args.folder.now in
    let b = g.D.Reads.log c.loop-at.folder in
    let d = g.D.Reads.log c.write-2.new.self in
    let bs = behind_gate (plains c.args.deeds.now) in
    let at = c.loop-at.at in
    let sum = c.sum_behind.result in
    let w = Write journal_file (1 + at) sum in
    let all : take at bs ≡ bs = take_all at bs (omega (arith, c.loop-at-test.false, c.loop-at.invariant.long)) in
    let join : take at bs ++ sum ≡ bs ++ sum_behind (plains c.args.deeds.now) = ap (λ (l : List ℕ). l ++ sum) all ∙ ap (λ (l : List ℕ). bs ++ l) c.sum_behind.ensures in
    through a b d (Front bs at) (HasDone w) _
    (λ old mid new has did. subst (λ (l : List ℕ). HasFront l (now old) (now new)) join (front_more at (take at bs) sum old mid new (omega (arith, length-take at bs, c.loop-at.invariant.within)) has did)) c.loop-at.invariant.front
    (subst (λ (p : Path). Changes b d (HasDone (Write p (1 + at) sum))) c.requires.journal c.in_ok-write-2.ensures.done)

pub returns-clause-any_moment : goal.returns-clause-any_moment
returns-clause-any_moment g c =
    let b = g.D.Reads.log c.loop-at.folder in
    let d = g.D.Reads.log c.write-2.new.self in
    let at = c.loop-at.at in
    let sum = c.sum_behind.result in
    through (g.D.Reads.log c.args.folder.now) b d KeepsShut (HasDone (Write journal_file (1 + at) sum)) KeepsShut (piece_did at sum) c.loop-at.invariant.keeps
    (subst (λ (p : Path). Changes b d (HasDone (Write p (1 + at) sum))) c.requires.journal c.in_ok-write-2.ensures.done)

pub returns-clause-cause : goal.returns-clause-cause
returns-clause-cause g c = record { later = omega (arith, c.loop-at.invariant.later, c.in_ok-write-2.ensures.cause.later); rose = λ failed. absurd cc }
