use Rattle.std.proofs.Common.{◌≡◌, ◌+◌, ℕ, min, sym, ap, ◌∙◌, subst, arith}
use Rattle.std.specs.Slice.Iter.{chunks_rest}
use Rattle.pending_files.specs.Pending.{put_in}
use Rattle.content_laws.specs.Rewriting.{place_of_chunk}
use Rattle.write_back.specs.Deeds.{longer}
use Rattle.write_back.proofs.Chunkwise.{IsBehindSoFar, this_can, this_room, one_behind}
use Rattle.write_back.proofs.behind.put_behind.Goals as goal

pub overflow_add-change : goal.overflow_add-change
overflow_add-change c =
    let step = c.in-Some.ensures.steps in
    let this = this_can c.loop-index.invariant.1
    _ c.in-Some.sealed.now (chunks_rest c.next.new.self.iter) c.loop-index.invariant.0 step.0.1.0 step.0.1.1 step.0.1.2 in
    omega (arith, this.ends, step.1)

pub place_of-place-requires : goal.place_of-place-requires
place_of-place-requires c =
    let step = c.in-Some.ensures.steps in
    let this = this_can c.loop-index.invariant.1
    _ c.in-Some.sealed.now (chunks_rest c.next.new.self.iter) c.loop-index.invariant.0 step.0.1.0 step.0.1.1 step.0.1.2 in
    omega (arith, this.ends, step.1)

pub overflow_add-place : goal.overflow_add-place
overflow_add-place c =
    let step = c.in-Some.ensures.steps in
    let this = this_can c.loop-index.invariant.1
    _ c.in-Some.sealed.now (chunks_rest c.next.new.self.iter) c.loop-index.invariant.0 step.0.1.0 step.0.1.1 step.0.1.2 in
    omega (arith, this.ends, step.1, c.place_of-place.ensures)

pub put_chunk-requires-clause-room : goal.put_chunk-requires-clause-room
put_chunk-requires-clause-room c =
    let step = c.in-Some.ensures.steps in
    this_room c.loop-index.invariant.1
    _ c.in-Some.sealed.now (chunks_rest c.next.new.self.iter) c.loop-index.invariant.0 step.0.1.0 step.0.1.1 step.0.1.2

pub put_chunk-requires-clause-within : goal.put_chunk-requires-clause-within
put_chunk-requires-clause-within c =
    let step = c.in-Some.ensures.steps in
    let this = this_can c.loop-index.invariant.1
    _ c.in-Some.sealed.now (chunks_rest c.next.new.self.iter) c.loop-index.invariant.0 step.0.1.0 step.0.1.1 step.0.1.2 in
    omega (arith, this.ends, step.1, c.place_of-place.ensures, c.max-reached.ensures, c.min.ensures)

pub loop-index-preserved : goal.loop-index-preserved
loop-index-preserved c =
    let path = c.args.path.now in
    let change = c.args.change.now in
    let x = c.in-Some.sealed.now in
    let index = change.first + c.loop-index.index-iterator.count in
    let step = c.in-Some.ensures.steps in
    let place : c.place_of-place.result ≡ place_of_chunk index = c.place_of-place.ensures ∙ ap (λ (i : ℕ). place_of_chunk (change.first + i)) step.1 in
    let reached : c.max-reached.result ≡ longer c.loop-index.reached index x = omega (arith, c.max-reached.ensures, place) in
    let size : c.min.result ≡ min change.size (longer c.loop-index.reached index x) = omega (arith, c.min.ensures, reached) in
    let put = c.put_chunk.ensures.put ∙ ap (λ (n : ℕ). put_in path n c.place_of-place.result x c.loop-index.pending) size
    ∙ ap (λ (at : ℕ). put_in path (min change.size (longer c.loop-index.reached index x)) at x c.loop-index.pending) place in
    let more = one_behind c.loop-index.invariant.1
    _ x (chunks_rest c.next.new.self.iter) c.loop-index.invariant.0 step.0.1.0 step.0.1.1 step.0.1.2 c.put_chunk.new.self put c.put_chunk.ensures.pending c.put_chunk.ensures.room in (
      step.0.0 ∙ c.loop-index.invariant.0,
      subst (λ (n : ℕ). IsBehindSoFar path change.size change.first c.args.len change.sealed.now c.args.pending.now (chunks_rest c.next.new.self.iter) c.next.new.self.count n c.put_chunk.new.self) (sym reached)
          (subst (λ (count : ℕ). IsBehindSoFar path change.size change.first c.args.len change.sealed.now c.args.pending.now (chunks_rest c.next.new.self.iter) count (longer c.loop-index.reached index x) c.put_chunk.new.self)
          (sym step.2) more),
    )
