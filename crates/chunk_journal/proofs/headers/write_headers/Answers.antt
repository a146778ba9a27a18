use Rattle.std.proofs.Common.{◌≡◌, ◌≤◌, ◌+◌, Option, sym, subst, arith}
use Rattle.outside.specs.Calls.{Changes, Told}
use Rattle.outside.specs.Images.{Log}
use Rattle.outside.proofs.Told.{through}
use Rattle.deeds.specs.Plain.{plains}
use Rattle.chunk_journal.specs.Stages.{HasPlace, KeepsFront, KeepsItShut, headers_at}
use Rattle.chunk_journal.proofs.Behind.{then_front, then_shut}
use Rattle.chunk_journal.proofs.headers.write_headers.Goals as goal
use Rattle.chunk_journal.proofs.headers.write_headers.Goals.{then-used-lt-HEADER_LEN+in_ok-at, else-used-lt-HEADER_LEN}

pub returns-in_err-at-clause-any_moment : goal.returns-in_err-at-clause-any_moment
returns-in_err-at-clause-any_moment g c =
    let l0 = g.D.Reads.log c.args.folder.now in
    let l2 = g.D.Reads.log c.write_behind.new.folder in
    through l0 (g.D.Reads.log c.loop-deed.folder) l2 KeepsItShut KeepsItShut KeepsItShut then_shut c.loop-deed.invariant.shut
    (subst (λ (o : Option Log). Changes o l2 KeepsItShut) c.header_to_keep.ensures.log c.in_err-at.ensures.any_moment)

pub loop-deed-preserved : goal.loop-deed-preserved
loop-deed-preserved g c =
    let l0 = g.D.Reads.log c.args.folder.now in
    let l1 = g.D.Reads.log c.loop-deed.folder in
    let start = headers_at (plains c.args.deeds.now) in
    let so_far = c.loop-deed.invariant in
    elim c.if-used-lt-HEADER_LEN.branch [
      | then-used-lt-HEADER_LEN+in_ok-at w ↦
          let l2 = g.D.Reads.log w.write_behind.new.folder in
          let wrote = w.in_ok-at.ensures in
          rw (w.folder-is, w.at-is, w.used-is) record {
            front = through l0 l1 l2 (KeepsFront start) (KeepsFront c.loop-deed.at) (KeepsFront start) (then_front start c.loop-deed.at so_far.behind) so_far.front (subst (λ (o : Option Log). Changes o l2 (KeepsFront c.loop-deed.at)) c.header_to_keep.ensures.log wrote.front);
            shut = through l0 l1 l2 KeepsItShut KeepsItShut KeepsItShut then_shut so_far.shut (subst (λ (o : Option Log). Changes o l2 KeepsItShut) c.header_to_keep.ensures.log wrote.any_moment);
            place = wrote.place;
            behind = omega (arith, so_far.behind, wrote.behind);
            within = omega arith;
            later = omega (arith, so_far.later, c.header_to_keep.ensures.cause.later, wrote.cause.later);
          }
      | else-used-lt-HEADER_LEN w ↦
          rw (w.folder-is, w.at-is, w.used-is) record {
            front = subst (λ (o : Option Log). Changes l0 o (KeepsFront start)) (sym c.header_to_keep.ensures.log) so_far.front;
            shut = subst (λ (o : Option Log). Changes l0 o KeepsItShut) (sym c.header_to_keep.ensures.log) so_far.shut;
            place = subst (λ (o : Option Log). Told o (HasPlace c.loop-deed.at)) (sym c.header_to_keep.ensures.log) so_far.place;
            behind = so_far.behind;
            within = omega (arith, so_far.within, w.if-used-lt-HEADER_LEN.false);
            later = omega (arith, so_far.later, c.header_to_keep.ensures.cause.later);
          }
    ]

pub returns-in_err-write_behind-clause-any_moment : goal.returns-in_err-write_behind-clause-any_moment
returns-in_err-write_behind-clause-any_moment g c =
    let l0 = g.D.Reads.log c.args.folder.now in
    let l2 = g.D.Reads.log c.write_behind-2.new.folder in
    through l0 (g.D.Reads.log c.loop-deed.folder) l2 KeepsItShut KeepsItShut KeepsItShut then_shut c.loop-deed.invariant.shut c.in_err-write_behind.ensures.any_moment

pub returns-clause-any_moment : goal.returns-clause-any_moment
returns-clause-any_moment g c =
    let l0 = g.D.Reads.log c.args.folder.now in
    let l2 = g.D.Reads.log c.write_behind-2.new.folder in
    through l0 (g.D.Reads.log c.loop-deed.folder) l2 KeepsItShut KeepsItShut KeepsItShut then_shut c.loop-deed.invariant.shut c.write_behind-2.ensures.any_moment
