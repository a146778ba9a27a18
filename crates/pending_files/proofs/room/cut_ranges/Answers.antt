use Rattle.std.proofs.Common.{◌≡◌, ℕ, List, [], ◌∷◌, ◌++◌, sym, ap, subst, ◌∙◌, arith}
use Rattle.std.specs.List.{AllByRecursion}
use Rattle.deeds.specs.Plain.{plain_ranges}
use Rattle.pending_files.specs.Pending.{AreChunks, cut_to}
use Rattle.pending_files.specs.Kept.{InBuffer}
use Rattle.pending_files.proofs.Files.{each_last, each_front}
use Rattle.pending_files.proofs.Ranges.{plain_pushed, cut_gone, cut_kept, chunks_front}
use Rattle.pending_files.proofs.room.cut_ranges.Goals as goal

pub returns-then-range-len-clause-cut : goal.returns-then-range-len-clause-cut
returns-then-range-len-clause-cut c =
    let front = plain_ranges c.pop.new.self.items in
    let r = c.in-Some.range in
    let split : plain_ranges c.loop-range.ranges.items ≡ front ++ (r.at, r.bytes.items) ∷ [] = ap plain_ranges c.in-Some.ensures.items ∙ plain_pushed c.pop.new.self.items r in
    let are = subst (AreChunks 0 c.loop-range.invariant.chunks.0) split c.loop-range.invariant.chunks.1 in
    ap plain_ranges c.push_range.ensures.ranges ∙ plain_pushed c.pop.new.self.items c.cut_range.result
    ∙ ap (λ (n : ℕ). front ++ (n, c.cut_range.result.bytes.items) ∷ []) c.cut_range.ensures.at
    ∙ ap (λ (bytes : List ℕ). front ++ (r.at, bytes) ∷ []) c.cut_range.ensures.bytes
    ∙ sym (cut_kept c.args.len 0 c.loop-range.invariant.chunks.0 front (r.at, r.bytes.items) are c.if-range-len.true)
    ∙ ap (cut_to c.args.len) (sym split) ∙ c.loop-range.invariant.same

pub give_back-requires-clause-buffer : goal.give_back-requires-clause-buffer
give_back-requires-clause-buffer c = each_last InBuffer c.pop.new.self.items c.in-Some.range (subst (AllByRecursion InBuffer) c.in-Some.ensures.items c.loop-range.invariant.list.buffers)

pub loop-range-preserved : goal.loop-range-preserved
loop-range-preserved c =
    let front = plain_ranges c.pop.new.self.items in
    let r = c.in-Some.range in
    let split : plain_ranges c.loop-range.ranges.items ≡ front ++ (r.at, r.bytes.items) ∷ [] = ap plain_ranges c.in-Some.ensures.items ∙ plain_pushed c.pop.new.self.items r in
    record {
      same = sym (cut_gone c.args.len front (r.at, r.bytes.items) c.if-range-len.false) ∙ ap (cut_to c.args.len) (sym split) ∙ c.loop-range.invariant.same;
      chunks = (c.loop-range.invariant.chunks.0, chunks_front 0 c.loop-range.invariant.chunks.0 front (r.at, r.bytes.items) (subst (AreChunks 0 c.loop-range.invariant.chunks.0) split c.loop-range.invariant.chunks.1));
      list = record {
        room = omega (arith, c.loop-range.invariant.list.room, c.in-Some.ensures.capacity);
        buffers = each_front InBuffer c.pop.new.self.items r (subst (AllByRecursion InBuffer) c.in-Some.ensures.items c.loop-range.invariant.list.buffers);
      };
      buffers = c.give_back.ensures.buffers;
      all = omega (arith, c.loop-range.invariant.all, c.give_back.ensures.count, c.in-Some.ensures.cases);
    }
