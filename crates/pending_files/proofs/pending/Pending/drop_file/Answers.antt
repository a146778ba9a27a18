use Rattle.std.proofs.Common.{◌≡◌, ◌+◌, ◌∷◌, List, None, drop, length, sym, ap, subst, ◌∙◌, arith}
use Rattle.std.specs.List.{AllByRecursion}
use Rattle.deeds.specs.declared.deed.Deed.{Deed}
use Rattle.deeds.specs.Plain.{plain, plains}
use Rattle.deeds.proofs.Doing.{split_at}
use Rattle.deeds.proofs.Phases.{plains_next, plains_long}
use Rattle.pending_files.specs.Pending.{IsWaiting, ArePending, file_of, without, chunk_count, ranges_or_none}
use Rattle.pending_files.specs.Kept.{IsIndexOf, InList}
use Rattle.pending_files.proofs.Files.{index_file, index_without, index_within, plains_removed, none_without, count_without, pending_without, each_at, each_removed}
use Rattle.pending_files.proofs.pending.Pending.drop_file.Goals as goal

pub remove-deed-requires : goal.remove-deed-requires
remove-deed-requires c =
    let s = c.self.inside.deeds.items in
    let is = subst (λ (l : List Deed). IsIndexOf c.args.path.now (plains l) c.in-Some.index) c.deref.ensures.value c.in-Some.ensures in
    omega (arith, index_within c.args.path.now (plains s) c.in-Some.index is, plains_long s, c.self.inside.deeds.ok)

pub forget-requires : goal.forget-requires
forget-requires c =
    let s = c.self.inside.deeds.items in
    let path = c.args.path.now in
    let i = c.in-Some.index in
    let x = c.remove-deed.result in
    let is = subst (λ (l : List Deed). IsIndexOf path (plains l) i) c.deref.ensures.value c.in-Some.ensures in
    let within = index_within path (plains s) i is in
    let split : drop i s ≡ x ∷ drop (i + 1) s = split_at s i x (omega (arith, within, plains_long s)) c.remove-deed.ensures.value in
    let here : drop i (plains s) ≡ plain x ∷ drop (i + 1) (plains s) = plains_next s i x split in
    let ranges = ap (λ o. length (ranges_or_none o)) (index_file path (plains s) i (plain x) (drop (i + 1) (plains s)) is here) in
    record {
      list = each_at InList s i x (drop (i + 1) s) split c.self.invariant.deeds.each;
      waits = each_at IsWaiting (plains s) i (plain x) (drop (i + 1) (plains s)) here c.self.invariant.pending.each;
      lists = c.self.invariant.lists;
      buffers = c.self.invariant.buffers;
      room = omega (arith, within, plains_long s, c.self.inside.deeds.ok, c.self.invariant.all_lists);
      all = omega (arith, ranges, count_without path (plains s), c.self.invariant.all_buffers);
    }

pub invariant_of-self : goal.invariant_of-self
invariant_of-self c =
    let s = c.self.inside.deeds.items in
    let path = c.args.path.now in
    let i = c.in-Some.index in
    let x = c.remove-deed.result in
    let is = subst (λ (l : List Deed). IsIndexOf path (plains l) i) c.deref.ensures.value c.in-Some.ensures in
    let within = index_within path (plains s) i is in
    let split : drop i s ≡ x ∷ drop (i + 1) s = split_at s i x (omega (arith, within, plains_long s)) c.remove-deed.ensures.value in
    let here : drop i (plains s) ≡ plain x ∷ drop (i + 1) (plains s) = plains_next s i x split in
    let ranges = ap (λ o. length (ranges_or_none o)) (index_file path (plains s) i (plain x) (drop (i + 1) (plains s)) is here) in
    let others = ap plains c.remove-deed.ensures.items ∙ plains_removed s i ∙ index_without path (plains s) i is in
    record {
      pending = subst ArePending (sym others) (pending_without path (plains s) c.self.invariant.pending);
      deeds = record {
        room = omega (arith, c.self.invariant.deeds.room, c.remove-deed.ensures.capacity);
        each = subst (AllByRecursion InList) (sym c.remove-deed.ensures.items) (each_removed InList s i c.self.invariant.deeds.each);
      };
      lists = c.forget.ensures.lists;
      buffers = c.forget.ensures.buffers;
      all_lists = omega (arith, c.self.invariant.all_lists, c.forget.ensures.count, c.remove-deed.ensures.len, within, plains_long s, c.self.inside.deeds.ok);
      all_buffers = omega (arith, ap chunk_count others, ranges, count_without path (plains s), c.forget.ensures.all, c.self.invariant.all_buffers);
    }

pub returns-in_default-clause-dropped : goal.returns-in_default-clause-dropped
returns-in_default-clause-dropped c =
    let path = c.args.path.now in
    let none = subst (λ (l : List Deed). file_of path (plains l) ≡ None) c.deref.ensures.value c.in_default.ensures in
    sym (none_without path c.args.self.now (ap (file_of path) (sym c.self.view_is) ∙ none))

pub returns-clause-dropped : goal.returns-clause-dropped
returns-clause-dropped c =
    let s = c.self.inside.deeds.items in
    let path = c.args.path.now in
    let is = subst (λ (l : List Deed). IsIndexOf path (plains l) c.in-Some.index) c.deref.ensures.value c.in-Some.ensures in
    ap plains c.remove-deed.ensures.items ∙ plains_removed s c.in-Some.index ∙ index_without path (plains s) c.in-Some.index is ∙ ap (without path) c.self.view_is

pub returns-clause-pending : goal.returns-clause-pending
returns-clause-pending c = (invariant_of-self c).pending
