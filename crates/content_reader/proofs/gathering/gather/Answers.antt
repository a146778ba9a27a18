use Rattle.std.proofs.Common.{◌≤◌, ◌+◌, ◌%◌, length, refl, arith, length-take}
use Rattle.std.proofs.lemmas.Result.{err_from_is_err_and}
use Rattle.content_reader.proofs.Pieces.{NextPiece, SliceLaws, IsNextPiece, gathered_none, gathered_more, not_short, put_is}
use Rattle.content_reader.proofs.gathering.gather.Goals as goal

pub open_chunk-requires-clause-sealed : goal.open_chunk-requires-clause-sealed
open_chunk-requires-clause-sealed c = rw c.chunk_in-chunk.ensures (simp length-take (omega arith))

pub open_chunk-requires-clause-room : goal.open_chunk-requires-clause-room
open_chunk-requires-clause-room c =
    let few : length c.chunk_in-chunk.result.now ≤ 32796 = rw c.chunk_in-chunk.ensures (simp length-take (omega arith)) in
    omega (arith, c.loop-done.invariant.room, few)

pub returns-in_err-opened-clause-damaged : goal.returns-in_err-opened-clause-damaged
returns-in_err-opened-clause-damaged c = λ keys bytes span.
    let p = err_from_is_err_and c.from_residual.result c.from_residual.ensures.1 in
    let law = c.reads_are_slices.ensures in
    let laws : SliceLaws = record { sealed = law.sealed; damaged = law.damaged; opened = law.opened; joined = law.joined } in
    let next : IsNextPiece c.args.at (length c.args.out.now) c.loop-done.done _ c.args.sealed.now c.chunk_in-chunk.result.now =
    record { more = c.loop-done-test.true; place = refl; bytes = c.chunk_in-chunk.ensures } in
    let piece : NextPiece = record {
      keys = keys;
      head = c.args.header.now;
      at = c.args.at;
      count = length c.args.out.now;
      done = c.loop-done.done;
      index = _;
      sealed = c.args.sealed.now;
      chunk = c.chunk_in-chunk.result.now;
      bytes = bytes;
      out = c.loop-done.out;
      span = span;
      next = next;
      so_far = c.loop-done.invariant.so_far keys bytes span;
    } in
    rw p.1
    (gathered_none laws piece c.in_err-opened.ensures.damaged)

pub returns-then-opened-offset-clause-damaged : goal.returns-then-opened-offset-clause-damaged
returns-then-opened-offset-clause-damaged c = λ keys bytes span.
    let law = c.reads_are_slices.ensures in
    let laws : SliceLaws = record { sealed = law.sealed; damaged = law.damaged; opened = law.opened; joined = law.joined } in
    let next : IsNextPiece c.args.at (length c.args.out.now) c.loop-done.done _ c.args.sealed.now c.chunk_in-chunk.result.now =
    record { more = c.loop-done-test.true; place = refl; bytes = c.chunk_in-chunk.ensures } in
    let piece : NextPiece = record {
      keys = keys;
      head = c.args.header.now;
      at = c.args.at;
      count = length c.args.out.now;
      done = c.loop-done.done;
      index = _;
      sealed = c.args.sealed.now;
      chunk = c.chunk_in-chunk.result.now;
      bytes = bytes;
      out = c.loop-done.out;
      span = span;
      next = next;
      so_far = c.loop-done.invariant.so_far keys bytes span;
    } in
    absurd
    (not_short laws piece c.min-more.result c.in_ok-opened.opened (omega arith) (omega arith) c.in_ok-opened.ensures.count c.if-opened-offset.true)

pub loop-done-preserved : goal.loop-done-preserved
loop-done-preserved c =
    let law = c.reads_are_slices.ensures in
    let laws : SliceLaws = record { sealed = law.sealed; damaged = law.damaged; opened = law.opened; joined = law.joined } in
    let next : IsNextPiece c.args.at (length c.args.out.now) c.loop-done.done _ c.args.sealed.now c.chunk_in-chunk.result.now =
    record { more = c.loop-done-test.true; place = refl; bytes = c.chunk_in-chunk.ensures } in
    let chunk_len : length c.chunk_in-chunk.result.now ≤ 32796 = rw c.chunk_in-chunk.ensures (simp length-take (omega arith)) in
    let clear_fits : c.in_ok-opened.opened ≤ length c.open_chunk.new.out =
    omega (arith, c.open_chunk.auto.out, c.loop-done.invariant.room, c.in_ok-opened.ensures.count, chunk_len) in
    record {
      within = omega arith;
      room = omega (arith, c.open_chunk.auto.out, c.loop-done.invariant.room);
      so_far = λ keys bytes span.
          let piece : NextPiece = record {
            keys = keys;
            head = c.args.header.now;
            at = c.args.at;
            count = length c.args.out.now;
            done = c.loop-done.done;
            index = _;
            sealed = c.args.sealed.now;
            chunk = c.chunk_in-chunk.result.now;
            bytes = bytes;
            out = c.loop-done.out;
            span = span;
            next = next;
            so_far = c.loop-done.invariant.so_far keys bytes span;
          } in
          gathered_more laws piece c.min-more.result c.in_ok-opened.opened (omega arith) (omega arith)
          c.open_chunk.new.out c.put.new.out c.in_ok-opened.ensures.opened c.if-opened-offset.false clear_fits (omega (arith, c.loop-done.auto.out, c.loop-done-test.true))
          (put_is ((c.args.at + c.loop-done.done) % 32768) c.min-more.result c.loop-done.done c.open_chunk.new.out c.loop-done.out c.put.new.out (omega (arith, clear_fits, c.if-opened-offset.false)) c.put.ensures);
    }
