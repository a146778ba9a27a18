use Rattle.std.proofs.Common.{◌≡◌, ◌+◌, None, List, ◌∷◌, drop, sym, subst, ap, ◌∙◌, arith}
use Rattle.std.specs.List.{AllByRecursion}
use Rattle.deeds.specs.declared.deed.Deed.{Deed}
use Rattle.deeds.specs.Plain.{plain, plains, plain_ranges}
use Rattle.deeds.proofs.Doing.{split_at}
use Rattle.deeds.proofs.Phases.{plains_next, plains_long}
use Rattle.pending_files.specs.Pending.{file_of, ranges_or_none}
use Rattle.pending_files.specs.Kept.{IsIndexOf, IsEmptyList, InBuffer}
use Rattle.pending_files.proofs.Files.{index_file, index_without, index_within, plains_removed, none_without, each_last}
use Rattle.pending_files.proofs.room.take_ranges.Goals as goal

pub remove-requires : goal.remove-requires
remove-requires c =
    let is = subst (λ (l : List Deed). IsIndexOf c.args.path.now (plains l) c.in-Some.index) c.deref.ensures.value c.in-Some.ensures in
    omega (arith, index_within c.args.path.now (plains c.args.deeds.now.items) c.in-Some.index is, plains_long c.args.deeds.now.items, c.args.deeds.now.ok)

pub returns-in-Some-clause-others : goal.returns-in-Some-clause-others
returns-in-Some-clause-others c =
    let s = c.args.deeds.now.items in
    let is = subst (λ (l : List Deed). IsIndexOf c.args.path.now (plains l) c.in-Some.index) c.deref.ensures.value c.in-Some.ensures in
    ap plains c.remove.ensures.items ∙ plains_removed s c.in-Some.index ∙ index_without c.args.path.now (plains s) c.in-Some.index is

pub returns-in-Some-clause-ranges : goal.returns-in-Some-clause-ranges
returns-in-Some-clause-ranges c =
    let s = c.args.deeds.now.items in
    let i = c.in-Some.index in
    let x = c.remove.result in
    let is = subst (λ (l : List Deed). IsIndexOf c.args.path.now (plains l) i) c.deref.ensures.value c.in-Some.ensures in
    let split : drop i s ≡ x ∷ drop (i + 1) s = split_at s i x (omega (arith, index_within c.args.path.now (plains s) i is, plains_long s)) c.remove.ensures.value in
    c.ranges_in.ensures.ranges ∙ sym (ap ranges_or_none (index_file c.args.path.now (plains s) i (plain x) (drop (i + 1) (plains s)) is (plains_next s i x split)))

pub returns-in-Some-pop-clause-others : goal.returns-in-Some-pop-clause-others
returns-in-Some-pop-clause-others c =
    let none = subst (λ (l : List Deed). file_of c.args.path.now (plains l) ≡ None) c.deref.ensures.value c.in-None.ensures in
    sym (none_without c.args.path.now (plains c.args.deeds.now.items) none)

pub returns-in-Some-pop-clause-ranges : goal.returns-in-Some-pop-clause-ranges
returns-in-Some-pop-clause-ranges c =
    let none = subst (λ (l : List Deed). file_of c.args.path.now (plains l) ≡ None) c.deref.ensures.value c.in-None.ensures in
    let one = each_last IsEmptyList c.pop.new.self.items c.in-Some-pop.list (subst (AllByRecursion IsEmptyList) c.in-Some-pop.ensures.items c.requires.lists.each) in
    ap plain_ranges one.empty ∙ sym (ap ranges_or_none none)

pub returns-in-Some-pop-clause-list : goal.returns-in-Some-pop-clause-list
returns-in-Some-pop-clause-list c =
    let one = each_last IsEmptyList c.pop.new.self.items c.in-Some-pop.list (subst (AllByRecursion IsEmptyList) c.in-Some-pop.ensures.items c.requires.lists.each) in
    record { room = one.room; buffers = subst (AllByRecursion InBuffer) (sym one.empty) tt }
