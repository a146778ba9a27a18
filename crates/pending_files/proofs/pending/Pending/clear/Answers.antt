use Rattle.std.proofs.Common.{ap, subst, ◌∙◌, arith}
use Rattle.std.specs.List.{AllByRecursion}
use Rattle.deeds.specs.Plain.{plain, plains}
use Rattle.deeds.proofs.Phases.{plains_pushed}
use Rattle.pending_files.specs.Pending.{IsWaiting, chunk_count}
use Rattle.pending_files.specs.Kept.{InList}
use Rattle.pending_files.proofs.Files.{each_last, each_front, count_pushed}
use Rattle.pending_files.proofs.pending.Pending.clear.Goals as goal

pub forget-requires : goal.forget-requires
forget-requires c =
    let front = c.pop.new.self.items in
    let deed = c.in-Some.deed in
    let split = ap plains c.in-Some.ensures.items ∙ plains_pushed front deed in
    record {
      list = each_last InList front deed (subst (AllByRecursion InList) c.in-Some.ensures.items c.loop-deed.invariant.lent.each);
      waits = each_last IsWaiting (plains front) (plain deed) (subst (AllByRecursion IsWaiting) split c.loop-deed.invariant.each);
      lists = c.loop-deed.invariant.lists;
      buffers = c.loop-deed.invariant.buffers;
      room = omega (arith, c.loop-deed.invariant.all_lists, c.in-Some.ensures.cases);
      all = omega (arith, c.loop-deed.invariant.all_buffers, ap chunk_count split ∙ count_pushed (plains front) (plain deed));
    }

pub loop-deed-preserved : goal.loop-deed-preserved
loop-deed-preserved c =
    let front = c.pop.new.self.items in
    let deed = c.in-Some.deed in
    let split = ap plains c.in-Some.ensures.items ∙ plains_pushed front deed in
    record {
      each = each_front IsWaiting (plains front) (plain deed) (subst (AllByRecursion IsWaiting) split c.loop-deed.invariant.each);
      lent = record {
        room = omega (arith, c.loop-deed.invariant.lent.room, c.in-Some.ensures.capacity);
        each = each_front InList front deed (subst (AllByRecursion InList) c.in-Some.ensures.items c.loop-deed.invariant.lent.each);
      };
      lists = c.forget.ensures.lists;
      buffers = c.forget.ensures.buffers;
      all_lists = omega (arith, c.loop-deed.invariant.all_lists, c.in-Some.ensures.cases, c.forget.ensures.count);
      all_buffers = omega (arith, c.loop-deed.invariant.all_buffers, ap chunk_count split ∙ count_pushed (plains front) (plain deed), c.forget.ensures.all);
    }
