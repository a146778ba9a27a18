use Rattle.std.proofs.Common.{◌+◌, ℕ, sym, ap, ◌∙◌, subst, arith}
use Rattle.std.specs.Slice.Iter.{chunks_rest, chunks_size}
use Rattle.pending_files.specs.Pending.{put_in}
use Rattle.content_laws.specs.Rewriting.{place_of_chunk}
use Rattle.write_back.specs.Sealed.{rewriting_of}
use Rattle.write_back.proofs.WaitingChunks.{IsPutSoFar, nothing_yet, all_put, next_within, next_room, next_put}
use Rattle.write_back.proofs.putting.put_chunks.Goals as goal

pub loop-index-init : goal.loop-index-init
loop-index-init c =
    let change = c.args.change.now in
    let gives = c.into_iter-index-iterator.ensures.into_iter_gives in
    let source = c.enumerate-index-items.ensures.source in (
      ap (λ it. chunks_size it.iter) gives ∙ ap chunks_size source ∙ c.chunks.ensures.size,
      nothing_yet c.args.path.now change.size change.first change.sealed.now _ _ c.args.pending.now c.cut.new.self c.requires.none c.cut.ensures.cut
          (ap (λ it. chunks_rest it.iter) gives ∙ ap chunks_rest source ∙ c.chunks.ensures.rest)
          (ap (λ it. it.count) gives ∙ c.enumerate-index-items.ensures.count),
    )

pub overflow_add-change : goal.overflow_add-change
overflow_add-change c =
    let step = c.in-Some.ensures.steps in
    let within = next_within _ _ _ c.requires.can.0 _ _ _ _ c.requires.can.1 c.loop-index.invariant.1
    _ c.in-Some.sealed.now (chunks_rest c.next.new.self.iter) c.loop-index.invariant.0 step.0.1.0 step.0.1.1 step.0.1.2 in
    omega (arith, within, step.1)

pub place_of-place-requires : goal.place_of-place-requires
place_of-place-requires c =
    let step = c.in-Some.ensures.steps in
    let within = next_within _ _ _ c.requires.can.0 _ _ _ _ c.requires.can.1 c.loop-index.invariant.1
    _ c.in-Some.sealed.now (chunks_rest c.next.new.self.iter) c.loop-index.invariant.0 step.0.1.0 step.0.1.1 step.0.1.2 in
    omega (arith, within, step.1)

pub put_chunk-requires-clause-room : goal.put_chunk-requires-clause-room
put_chunk-requires-clause-room c =
    let step = c.in-Some.ensures.steps in
    next_room _ _ _ c.requires.can.0 _ _ _ _ c.requires.can.1 c.loop-index.invariant.1
    _ c.in-Some.sealed.now (chunks_rest c.next.new.self.iter) c.loop-index.invariant.0 step.0.1.0 step.0.1.1 step.0.1.2 c.requires.inside c.requires.few

pub put_chunk-requires-clause-within : goal.put_chunk-requires-clause-within
put_chunk-requires-clause-within c =
    let step = c.in-Some.ensures.steps in
    let within = next_within _ _ _ c.requires.can.0 _ _ _ _ c.requires.can.1 c.loop-index.invariant.1
    _ c.in-Some.sealed.now (chunks_rest c.next.new.self.iter) c.loop-index.invariant.0 step.0.1.0 step.0.1.1 step.0.1.2 in
    omega (arith, within, step.1, c.place_of-place.ensures)

pub loop-index-preserved : goal.loop-index-preserved
loop-index-preserved c =
    let change = c.args.change.now in
    let step = c.in-Some.ensures.steps in
    let place = c.place_of-place.ensures ∙ ap (λ (i : ℕ). place_of_chunk (change.first + i)) step.1 in
    let put = c.put_chunk.ensures.put ∙ ap (λ (at : ℕ). put_in c.args.path.now change.size at c.in-Some.sealed.now c.loop-index.pending) place in
    let more = next_put _ _ _ c.requires.can.0 _ _ _ _ c.requires.can.1 c.loop-index.invariant.1
    _ c.in-Some.sealed.now (chunks_rest c.next.new.self.iter) c.loop-index.invariant.0 step.0.1.0 step.0.1.1 step.0.1.2 _ put in (
      step.0.0 ∙ c.loop-index.invariant.0,
      subst (λ (count : ℕ). IsPutSoFar c.args.path.now change.size change.first (rewriting_of change).sealed (chunks_rest c.next.new.self.iter) count c.put_chunk.new.self) (sym step.2) more,
    )

pub returns : goal.returns
returns c =
    let step = c.in-None.ensures.steps in
    record { deeds = all_put _ _ _ c.requires.can.0 _ _ _ _ c.requires.can.1 c.loop-index.invariant.1 step.0.1.0 }
