use Rattle.std.proofs.Common.{length, ap, ◌∙◌, arith}
use Rattle.deeds.specs.Plain.{plain_ranges}
use Rattle.pending_files.proofs.Ranges.{plain_long, plain_none, cut_all}
use Rattle.pending_files.proofs.room.forget.Goals as goal

pub cut_ranges-requires-clause-room : goal.cut_ranges-requires-clause-room
cut_ranges-requires-clause-room c =
    let long = ap length c.ranges_in-ranges.ensures.ranges in
    omega (arith, long, plain_long c.ranges_in-ranges.result.items, c.ranges_in-ranges.result.ok, c.requires.all)

pub give_list_back-requires-clause-list : goal.give_list_back-requires-clause-list
give_list_back-requires-clause-list c =
    let none = plain_none c.cut_ranges.new.ranges.items (c.cut_ranges.ensures.cut ∙ cut_all (plain_ranges c.ranges_in-ranges.result.items)) in
    record { room = c.cut_ranges.ensures.list.room; empty = none }

pub returns-clause-all : goal.returns-clause-all
returns-clause-all c =
    let none = ap length (plain_none c.cut_ranges.new.ranges.items (c.cut_ranges.ensures.cut ∙ cut_all (plain_ranges c.ranges_in-ranges.result.items))) in
    let long = ap length c.ranges_in-ranges.ensures.ranges in
    omega (arith, none, c.cut_ranges.new.ranges.ok, long, plain_long c.ranges_in-ranges.result.items, c.ranges_in-ranges.result.ok, c.cut_ranges.ensures.all)
