use Rattle.std.proofs.Common.{◌≡◌, ℕ, List, ◌++◌, ◌∷◌, [], length, sym, ap, subst, ◌∙◌, arith}
use Rattle.deeds.specs.Deeds.{PlainDeed, Reshapes}
use Rattle.deeds.specs.Reshape.{Ranges}
use Rattle.deeds.specs.Plain.{plains, plain_ranges}
use Rattle.deeds.proofs.Phases.{plains_long}
use Rattle.pending_files.specs.Pending.{file_of, without, ranges_of, cut_to, cut_in, chunk_count, AreChunks, ArePending, HasRoom}
use Rattle.pending_files.proofs.Files.{count_without, count_pushed, ranges_are}
use Rattle.pending_files.proofs.RoomLeft.{cut_room, cut_pending}
use Rattle.pending_files.proofs.Ranges.{plain_long}
use Rattle.pending_files.proofs.pending.Pending.cut.Goals as goal

pub take_ranges-ranges-requires-clause-spare : goal.take_ranges-ranges-requires-clause-spare
take_ranges-ranges-requires-clause-spare c = λ none.
    let few = c.requires.files (ap (file_of c.args.path.now) (sym c.self.view_is) ∙ none) in
    omega (arith, few, ap length c.self.view_is, plains_long c.self.inside.deeds.items, c.self.inside.deeds.ok, c.self.invariant.all_lists)

pub cut_ranges-requires-clause-chunks : goal.cut_ranges-requires-clause-chunks
cut_ranges-requires-clause-chunks c =
    let are = ranges_are c.args.path.now (plains c.self.inside.deeds.items) c.self.invariant.pending.each in
    (are.0, subst (AreChunks 0 are.0) (sym c.take_ranges-ranges.ensures.ranges) are.1)

pub cut_ranges-requires-clause-room : goal.cut_ranges-requires-clause-room
cut_ranges-requires-clause-room c =
    let long = ap length c.take_ranges-ranges.ensures.ranges in
    omega (arith, long, plain_long c.take_ranges-ranges.result.items, c.take_ranges-ranges.result.ok, count_without c.args.path.now (plains c.self.inside.deeds.items), c.self.invariant.all_buffers)

-- what waits after it
is_cut : (c : goal.After-add) → plains c.add.new.deeds.items ≡ cut_in c.args.path.now c.args.len (plains c.self.inside.deeds.items)
is_cut c =
    let path = c.args.path.now in
    let rs = plain_ranges c.cut_ranges.new.ranges.items in
    let old = plains c.self.inside.deeds.items in
    let cut = c.cut_ranges.ensures.cut ∙ ap (cut_to c.args.len) c.take_ranges-ranges.ensures.ranges in
    c.add.ensures.deeds ∙ ap (λ (l : List PlainDeed). l ++ Reshapes c.copied.result c.args.len rs ∷ []) c.take_ranges-ranges.ensures.others
    ∙ ap (λ (p : List (List ℕ)). without path old ++ Reshapes p c.args.len rs ∷ []) c.copied.ensures
    ∙ ap (λ (l : Ranges). without path old ++ Reshapes path c.args.len l ∷ []) cut

had_room : (c : goal.After-add) → HasRoom (plains c.self.inside.deeds.items) c.args.path.now 0
had_room c = subst (λ (l : List PlainDeed). HasRoom l c.args.path.now 0) (sym c.self.view_is) c.requires

pub invariant_of-self : goal.invariant_of-self
invariant_of-self c =
    let path = c.args.path.now in
    let old = plains c.self.inside.deeds.items in
    let was = c.take_ranges-ranges.result in
    let ranges = c.cut_ranges.new.ranges in
    let cut = ap length (c.cut_ranges.ensures.cut ∙ ap (cut_to c.args.len) c.take_ranges-ranges.ensures.ranges) in
    let long = ap length c.take_ranges-ranges.ensures.ranges in
    let total = ap chunk_count (is_cut c) ∙ count_pushed (without path old) (Reshapes path c.args.len (cut_to c.args.len (ranges_of path old))) in
    record {
      pending = subst ArePending (sym (is_cut c)) (cut_pending path c.args.len old c.self.invariant.pending (had_room c) c.ranges.len.fits);
      deeds = c.add.ensures.lent;
      lists = c.take_ranges-ranges.ensures.lists;
      buffers = c.cut_ranges.ensures.buffers;
      all_lists = omega (arith, c.add.ensures.count, c.take_ranges-ranges.ensures.all, c.self.invariant.all_lists);
      all_buffers = omega (arith, total, cut, count_without path old, long, plain_long was.items, was.ok, plain_long ranges.items, ranges.ok, c.cut_ranges.ensures.all, c.self.invariant.all_buffers);
    }

pub returns-clause-pending : goal.returns-clause-pending
returns-clause-pending c =
    subst ArePending (sym (is_cut c)) (cut_pending c.args.path.now c.args.len (plains c.self.inside.deeds.items) c.self.invariant.pending (had_room c) c.ranges.len.fits)

pub returns-clause-room : goal.returns-clause-room
returns-clause-room c = λ chunks room.
    let had = subst (λ (l : List PlainDeed). HasRoom l c.args.path.now chunks) (sym c.self.view_is) room in
    subst (λ (l : List PlainDeed). HasRoom l c.args.path.now chunks) (sym (is_cut c)) (cut_room c.args.path.now c.args.len (plains c.self.inside.deeds.items) c.self.invariant.pending chunks had)
