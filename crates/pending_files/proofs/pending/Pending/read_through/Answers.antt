use Rattle.std.proofs.Common.{◌≡◌, ◌-◌, ℕ, min, List, length, Some, None, sym, ap, subst, ◌∙◌, arith, length-take}
use Rattle.outside.specs.Images.{disk_in}
use Rattle.outside.proofs.Told.{told_then}
use Rattle.deeds.specs.declared.deed.Deed.{Deed}
use Rattle.deeds.specs.Deeds.{PlainDeed, DoesAll, in_order, reshaped}
use Rattle.deeds.specs.Reshape.{written}
use Rattle.deeds.specs.Plain.{plains, plain_ranges}
use Rattle.pending_files.specs.Pending.{file_of}
use Rattle.pending_files.proofs.Shown.{ok_more, unfit_more}
use Rattle.pending_files.proofs.Doing.{later_file, later_other}
use Rattle.pending_files.proofs.pending.Pending.read_through.Goals as goal

pub returns-in-None-clause-bytes : goal.returns-in-None-clause-bytes
returns-in-None-clause-bytes g c =
    let ds = plains c.self.inside.deeds.items in
    let none = subst (λ (l : List Deed). file_of c.args.path.now (plains l) ≡ None) c.deref.ensures.value c.in-None.ensures in
    ok_more c.read.result _ _ (λ n told. told_then (disk_in (g.R.Reads.log c.args.folder.now)) _ _ told (λ d read later does.
    let same = later_other c.args.path.now ds d later c.self.invariant.pending.each none (subst (λ (l : List PlainDeed). DoesAll (in_order l) d later) (sym c.self.view_is) does) in
    (read.0, same ∙ read.1, read.2, read.3))) c.read.ensures.bytes

pub returns-in-None-clause-unfit : goal.returns-in-None-clause-unfit
returns-in-None-clause-unfit g c = λ e.
    let ds = plains c.self.inside.deeds.items in
    let none = subst (λ (l : List Deed). file_of c.args.path.now (plains l) ≡ None) c.deref.ensures.value c.in-None.ensures in
    unfit_more (disk_in (g.R.Reads.log c.args.folder.now)) _ _ _ _ (λ d can.
    let same = later_other c.args.path.now ds d can.0 c.self.invariant.pending.each none (subst (λ (l : List PlainDeed). DoesAll (in_order l) d can.0) (sym c.self.view_is) can.1) in
    (can.2.0, sym same ∙ can.2.1)) (c.read.ensures.unfit e)

pub returns-in-Some-clause-bytes : goal.returns-in-Some-clause-bytes
returns-in-Some-clause-bytes g c =
    let ds = plains c.self.inside.deeds.items in
    let some = subst (λ (l : List Deed). file_of c.args.path.now (plains l) ≡ Some (c.in-Some.len, plain_ranges c.in-Some.ranges.now)) c.deref.ensures.value c.in-Some.ensures in
    let rs = plain_ranges c.in-Some.ranges.now in
    ok_more c.read_reshaped.result _ _ (λ n told. told_then (disk_in (g.R.Reads.log c.args.folder.now)) _ _ told (λ d read later does.
    let is = later_file c.args.path.now ds c.in-Some.len rs d later c.self.invariant.pending.each c.self.invariant.pending.apart some (subst (λ (l : List PlainDeed). DoesAll (in_order l) d later) (sym c.self.view_is) does) in
    let both = read is.was is.there is.can is.long in
    let long : length (reshaped c.in-Some.len rs is.was) ≡ c.in-Some.len = omega (arith, length-take c.in-Some.len (written rs is.was), is.long) in
    (reshaped c.in-Some.len rs is.was, is.is, both.0 ∙ sym (ap (λ (k : ℕ). min (length c.args.out.now) (k - c.args.at)) long), both.1))) c.read_reshaped.ensures.bytes

pub returns-in-Some-clause-unfit : goal.returns-in-Some-clause-unfit
returns-in-Some-clause-unfit g c = λ e.
    let ds = plains c.self.inside.deeds.items in
    let some = subst (λ (l : List Deed). file_of c.args.path.now (plains l) ≡ Some (c.in-Some.len, plain_ranges c.in-Some.ranges.now)) c.deref.ensures.value c.in-Some.ensures in
    unfit_more (disk_in (g.R.Reads.log c.args.folder.now)) _ _ _ _ (λ d can.
    let is = later_file c.args.path.now ds c.in-Some.len (plain_ranges c.in-Some.ranges.now) d can.0 c.self.invariant.pending.each c.self.invariant.pending.apart some (subst (λ (l : List PlainDeed). DoesAll (in_order l) d can.0) (sym c.self.view_is) can.1) in
    (is.was, is.there)) (c.read_reshaped.ensures.unfit e)
