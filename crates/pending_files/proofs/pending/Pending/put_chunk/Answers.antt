use Rattle.std.proofs.Common.{◌≡◌, ◌+◌, ℕ, List, ◌++◌, ◌∷◌, [], length, sym, ap, subst, ◌∙◌, arith}
use Rattle.deeds.specs.Deeds.{PlainDeed, Reshapes}
use Rattle.deeds.specs.Reshape.{Ranges}
use Rattle.deeds.specs.Plain.{plains, plain_ranges}
use Rattle.deeds.proofs.Phases.{plains_long}
use Rattle.pending_files.specs.Pending.{file_of, without, ranges_of, cut_to, with_chunk, put_in, chunk_count, AreChunks, ArePending, HasRoom}
use Rattle.pending_files.proofs.Files.{count_without, count_pushed, ranges_are}
use Rattle.pending_files.proofs.RoomLeft.{put_room, put_pending}
use Rattle.pending_files.proofs.Ranges.{plain_long, cut_short}
use Rattle.pending_files.proofs.pending.Pending.put_chunk.Goals as goal

pub take_ranges-ranges-requires-clause-spare : goal.take_ranges-ranges-requires-clause-spare
take_ranges-ranges-requires-clause-spare c = λ none.
    let few = c.requires.room.files (ap (file_of c.args.path.now) (sym c.self.view_is) ∙ none) in
    omega (arith, few, ap length c.self.view_is, plains_long c.self.inside.deeds.items, c.self.inside.deeds.ok, c.self.invariant.all_lists)

pub cut_ranges-requires-clause-chunks : goal.cut_ranges-requires-clause-chunks
cut_ranges-requires-clause-chunks c =
    let are = ranges_are c.args.path.now (plains c.self.inside.deeds.items) c.self.invariant.pending.each in
    (are.0, subst (AreChunks 0 are.0) (sym c.take_ranges-ranges.ensures.ranges) are.1)

pub cut_ranges-requires-clause-room : goal.cut_ranges-requires-clause-room
cut_ranges-requires-clause-room c =
    let long = ap length c.take_ranges-ranges.ensures.ranges in
    omega (arith, long, plain_long c.take_ranges-ranges.result.items, c.take_ranges-ranges.result.ok, count_without c.args.path.now (plains c.self.inside.deeds.items), c.self.invariant.all_buffers)

pub put_range-requires-clause-room : goal.put_range-requires-clause-room
put_range-requires-clause-room c =
    let long = ap length c.take_ranges-ranges.ensures.ranges in
    let old = ap chunk_count c.self.view_is in
    let short = ap length c.cut_ranges.ensures.cut in
    let cut = cut_short c.args.size (plain_ranges c.take_ranges-ranges.result.items) in
    omega (arith, cut, long, old, plain_long c.take_ranges-ranges.result.items, c.take_ranges-ranges.result.ok, count_without c.args.path.now (plains c.self.inside.deeds.items), c.requires.room.fits, c.cut_ranges.ensures.all, c.self.invariant.all_buffers, short, plain_long c.cut_ranges.new.ranges.items, c.cut_ranges.new.ranges.ok)

pub put_range-requires-clause-spare : goal.put_range-requires-clause-spare
put_range-requires-clause-spare c =
    let old = ap chunk_count c.self.view_is in
    let short = ap length c.cut_ranges.ensures.cut in
    let cut = cut_short c.args.size (plain_ranges c.take_ranges-ranges.result.items) in
    let long = ap length c.take_ranges-ranges.ensures.ranges in
    omega (arith, cut, long, old, c.cut_ranges.ensures.all, c.self.invariant.all_buffers, c.requires.room.fits, short, plain_long c.take_ranges-ranges.result.items, c.take_ranges-ranges.result.ok, plain_long c.cut_ranges.new.ranges.items, c.cut_ranges.new.ranges.ok)

-- what waits after it
is_put : (c : goal.After-add) → plains c.add.new.deeds.items ≡ put_in c.args.path.now c.args.size c.args.at c.args.sealed.now (plains c.self.inside.deeds.items)
is_put c =
    let path = c.args.path.now in
    let rs = plain_ranges c.put_range.new.ranges.items in
    let old = plains c.self.inside.deeds.items in
    let cut = c.cut_ranges.ensures.cut ∙ ap (cut_to c.args.size) c.take_ranges-ranges.ensures.ranges in
    let put = c.put_range.ensures.put ∙ ap (with_chunk c.args.at c.args.sealed.now) cut in
    c.add.ensures.deeds ∙ ap (λ (l : List PlainDeed). l ++ Reshapes c.copied.result c.args.size rs ∷ []) c.take_ranges-ranges.ensures.others
    ∙ ap (λ (p : List (List ℕ)). without path old ++ Reshapes p c.args.size rs ∷ []) c.copied.ensures
    ∙ ap (λ (l : Ranges). without path old ++ Reshapes path c.args.size l ∷ []) put

are_put : (c : goal.After-add) → ArePending (put_in c.args.path.now c.args.size c.args.at c.args.sealed.now (plains c.self.inside.deeds.items))
are_put c =
    let room = subst (λ (l : List PlainDeed). HasRoom l c.args.path.now 1) (sym c.self.view_is) c.requires.room in
    put_pending c.args.path.now c.args.size c.args.at c.args.sealed.now (plains c.self.inside.deeds.items) c.self.invariant.pending room c.ranges.size.fits c.requires.place c.requires.short c.requires.within

pub invariant_of-self : goal.invariant_of-self
invariant_of-self c =
    let path = c.args.path.now in
    let old = plains c.self.inside.deeds.items in
    let was = c.take_ranges-ranges.result in
    let ranges = c.put_range.new.ranges in
    let cut = c.cut_ranges.ensures.cut ∙ ap (cut_to c.args.size) c.take_ranges-ranges.ensures.ranges in
    let put = ap length (c.put_range.ensures.put ∙ ap (with_chunk c.args.at c.args.sealed.now) cut) in
    let long = ap length c.take_ranges-ranges.ensures.ranges in
    let total = ap chunk_count (is_put c) ∙ count_pushed (without path old) (Reshapes path c.args.size (with_chunk c.args.at c.args.sealed.now (cut_to c.args.size (ranges_of path old)))) in
    record {
      pending = subst ArePending (sym (is_put c)) (are_put c);
      deeds = c.add.ensures.lent;
      lists = c.take_ranges-ranges.ensures.lists;
      buffers = c.put_range.ensures.buffers;
      all_lists = omega (arith, c.add.ensures.count, c.take_ranges-ranges.ensures.all, c.self.invariant.all_lists);
      all_buffers = omega (arith, total, put, count_without path old, long, plain_long was.items, was.ok, plain_long ranges.items, ranges.ok, c.cut_ranges.ensures.all, c.put_range.ensures.all, c.self.invariant.all_buffers);
    }

pub returns-clause-pending : goal.returns-clause-pending
returns-clause-pending c = subst ArePending (sym (is_put c)) (are_put c)

pub returns-clause-room : goal.returns-clause-room
returns-clause-room c = λ chunks room.
    let had = subst (λ (l : List PlainDeed). HasRoom l c.args.path.now (chunks + 1)) (sym c.self.view_is) room in
    subst (λ (l : List PlainDeed). HasRoom l c.args.path.now chunks) (sym (is_put c))
    (put_room c.args.path.now c.args.size c.args.at c.args.sealed.now (plains c.self.inside.deeds.items) c.self.invariant.pending chunks had)
