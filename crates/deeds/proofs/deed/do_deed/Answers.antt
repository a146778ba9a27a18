use Rattle.std.proofs.Common.{refl, sym, subst, List, ℕ}
use Rattle.outside.specs.Calls.{Changes, IsUnfit}
use Rattle.outside.specs.Disk.{Disk}
use Rattle.outside.specs.Images.{now}
use Rattle.deeds.specs.declared.writes.Range.{Range}
use Rattle.deeds.specs.declared.deed.Deed.{Deed}
use Rattle.deeds.specs.Deeds.{MakesDir, Puts, Renames, Removes, RemovesDir, Reshapes, Does}
use Rattle.deeds.specs.Applying.{KeepsStill, StaysRefused, HasBrokenOff}
use Rattle.deeds.specs.Plain.{plain, plain_ranges}
use Rattle.deeds.proofs.Applying.{still_refused, still_left}
use Rattle.deeds.proofs.deed.do_deed.Goals as goal

pub returns-in-MakeDir-clause-unfit : goal.returns-in-MakeDir-clause-unfit
returns-in-MakeDir-clause-unfit g c = λ e.
    subst (λ (d : Deed). IsUnfit (g.F.Reads.log c.args.folder.now) (g.F.Reads.faults c.args.folder.now) (g.F.Reads.faults c.do_make_dir.new.folder) (λ log. (x : Disk) × Does (plain d) (now log) x)) (sym c.in-MakeDir.is)
    (c.do_make_dir.ensures.unfit e)

pub returns-in-Put-clause-unfit : goal.returns-in-Put-clause-unfit
returns-in-Put-clause-unfit g c = λ e.
    subst (λ (d : Deed). IsUnfit (g.F.Reads.log c.args.folder.now) (g.F.Reads.faults c.args.folder.now) (g.F.Reads.faults c.do_put.new.folder) (λ log. (x : Disk) × Does (plain d) (now log) x)) (sym c.in-Put.is)
    (subst (λ (bytes : List ℕ). IsUnfit (g.F.Reads.log c.args.folder.now) (g.F.Reads.faults c.args.folder.now) (g.F.Reads.faults c.do_put.new.folder) (λ log. (x : Disk) × Does (Puts c.in-Put.path bytes) (now log) x)) c.deref.ensures.value (c.do_put.ensures.unfit e))

pub returns-in-Rename-clause-unfit : goal.returns-in-Rename-clause-unfit
returns-in-Rename-clause-unfit g c = λ e.
    subst (λ (d : Deed). IsUnfit (g.F.Reads.log c.args.folder.now) (g.F.Reads.faults c.args.folder.now) (g.F.Reads.faults c.do_rename.new.folder) (λ log. (x : Disk) × Does (plain d) (now log) x)) (sym c.in-Rename.is)
    (c.do_rename.ensures.unfit e)

pub returns-in-Remove-clause-unfit : goal.returns-in-Remove-clause-unfit
returns-in-Remove-clause-unfit g c = λ e.
    subst (λ (d : Deed). IsUnfit (g.F.Reads.log c.args.folder.now) (g.F.Reads.faults c.args.folder.now) (g.F.Reads.faults c.do_remove.new.folder) (λ log. (x : Disk) × Does (plain d) (now log) x)) (sym c.in-Remove.is)
    (c.do_remove.ensures.unfit e)

pub returns-in-RemoveDir-clause-unfit : goal.returns-in-RemoveDir-clause-unfit
returns-in-RemoveDir-clause-unfit g c = λ e.
    subst (λ (d : Deed). IsUnfit (g.F.Reads.log c.args.folder.now) (g.F.Reads.faults c.args.folder.now) (g.F.Reads.faults c.do_remove_dir.new.folder) (λ log. (x : Disk) × Does (plain d) (now log) x)) (sym c.in-RemoveDir.is)
    (c.do_remove_dir.ensures.unfit e)

pub returns-in-Reshape-clause-unfit : goal.returns-in-Reshape-clause-unfit
returns-in-Reshape-clause-unfit g c = λ e.
    subst (λ (d : Deed). IsUnfit (g.F.Reads.log c.args.folder.now) (g.F.Reads.faults c.args.folder.now) (g.F.Reads.faults c.do_reshape.new.folder) (λ log. (x : Disk) × Does (plain d) (now log) x)) (sym c.in-Reshape.is)
    (subst (λ (ranges : List Range). IsUnfit (g.F.Reads.log c.args.folder.now) (g.F.Reads.faults c.args.folder.now) (g.F.Reads.faults c.do_reshape.new.folder) (λ log. (x : Disk) × Does (Reshapes c.in-Reshape.path c.in-Reshape.len (plain_ranges ranges)) (now log) x)) c.deref-in-Reshape.ensures.value (c.do_reshape.ensures.unfit e))

pub returns-in-MakeDir-clause-refused : goal.returns-in-MakeDir-clause-refused
returns-in-MakeDir-clause-refused g c =
    subst (λ (d : Deed). Changes (g.F.Reads.log c.args.folder.now) (g.F.Reads.log c.do_make_dir.new.folder) (StaysRefused (plain d))) (sym c.in-MakeDir.is)
    (still_refused (MakesDir c.in-MakeDir.path) (λ d part is. is) (g.F.Reads.log c.args.folder.now) (g.F.Reads.log c.do_make_dir.new.folder) c.do_make_dir.ensures.still)

pub returns-in-MakeDir-clause-left : goal.returns-in-MakeDir-clause-left
returns-in-MakeDir-clause-left g c = λ e.
    subst (λ (d : Deed). Changes (g.F.Reads.log c.args.folder.now) (g.F.Reads.log c.do_make_dir.new.folder) (HasBrokenOff (plain d))) (sym c.in-MakeDir.is)
    (still_left (MakesDir c.in-MakeDir.path) (λ d. refl) (g.F.Reads.log c.args.folder.now) (g.F.Reads.log c.do_make_dir.new.folder) (g.F.Reads.faults c.args.folder.now) (g.F.Reads.faults c.do_make_dir.new.folder) (c.do_make_dir.ensures.unfit e) c.do_make_dir.ensures.still)

pub returns-in-Put-clause-refused : goal.returns-in-Put-clause-refused
returns-in-Put-clause-refused g c =
    subst (λ (d : Deed). Changes (g.F.Reads.log c.args.folder.now) (g.F.Reads.log c.do_put.new.folder) (StaysRefused (plain d))) (sym c.in-Put.is)
    (still_refused (Puts c.in-Put.path c.in-Put.bytes.items) (λ d part is. is) (g.F.Reads.log c.args.folder.now) (g.F.Reads.log c.do_put.new.folder) (subst (λ (bytes : List ℕ). Changes (g.F.Reads.log c.args.folder.now) (g.F.Reads.log c.do_put.new.folder) (KeepsStill (Puts c.in-Put.path bytes))) c.deref.ensures.value c.do_put.ensures.still))

pub returns-in-Put-clause-left : goal.returns-in-Put-clause-left
returns-in-Put-clause-left g c = λ e.
    subst (λ (d : Deed). Changes (g.F.Reads.log c.args.folder.now) (g.F.Reads.log c.do_put.new.folder) (HasBrokenOff (plain d))) (sym c.in-Put.is)
    (still_left (Puts c.in-Put.path c.in-Put.bytes.items) (λ d. refl) (g.F.Reads.log c.args.folder.now) (g.F.Reads.log c.do_put.new.folder) (g.F.Reads.faults c.args.folder.now) (g.F.Reads.faults c.do_put.new.folder) (subst (λ (bytes : List ℕ). IsUnfit (g.F.Reads.log c.args.folder.now) (g.F.Reads.faults c.args.folder.now) (g.F.Reads.faults c.do_put.new.folder) (λ log. (x : Disk) × Does (Puts c.in-Put.path bytes) (now log) x)) c.deref.ensures.value (c.do_put.ensures.unfit e)) (subst (λ (bytes : List ℕ). Changes (g.F.Reads.log c.args.folder.now) (g.F.Reads.log c.do_put.new.folder) (KeepsStill (Puts c.in-Put.path bytes))) c.deref.ensures.value c.do_put.ensures.still))

pub returns-in-Rename-clause-refused : goal.returns-in-Rename-clause-refused
returns-in-Rename-clause-refused g c =
    subst (λ (d : Deed). Changes (g.F.Reads.log c.args.folder.now) (g.F.Reads.log c.do_rename.new.folder) (StaysRefused (plain d))) (sym c.in-Rename.is)
    (still_refused (Renames c.in-Rename.from c.in-Rename.to) (λ d part is. is) (g.F.Reads.log c.args.folder.now) (g.F.Reads.log c.do_rename.new.folder) c.do_rename.ensures.still)

pub returns-in-Rename-clause-left : goal.returns-in-Rename-clause-left
returns-in-Rename-clause-left g c = λ e.
    subst (λ (d : Deed). Changes (g.F.Reads.log c.args.folder.now) (g.F.Reads.log c.do_rename.new.folder) (HasBrokenOff (plain d))) (sym c.in-Rename.is)
    (still_left (Renames c.in-Rename.from c.in-Rename.to) (λ d. refl) (g.F.Reads.log c.args.folder.now) (g.F.Reads.log c.do_rename.new.folder) (g.F.Reads.faults c.args.folder.now) (g.F.Reads.faults c.do_rename.new.folder) (c.do_rename.ensures.unfit e) c.do_rename.ensures.still)

pub returns-in-Remove-clause-refused : goal.returns-in-Remove-clause-refused
returns-in-Remove-clause-refused g c =
    subst (λ (d : Deed). Changes (g.F.Reads.log c.args.folder.now) (g.F.Reads.log c.do_remove.new.folder) (StaysRefused (plain d))) (sym c.in-Remove.is)
    (still_refused (Removes c.in-Remove.path) (λ d part is. is) (g.F.Reads.log c.args.folder.now) (g.F.Reads.log c.do_remove.new.folder) c.do_remove.ensures.still)

pub returns-in-Remove-clause-left : goal.returns-in-Remove-clause-left
returns-in-Remove-clause-left g c = λ e.
    subst (λ (d : Deed). Changes (g.F.Reads.log c.args.folder.now) (g.F.Reads.log c.do_remove.new.folder) (HasBrokenOff (plain d))) (sym c.in-Remove.is)
    (still_left (Removes c.in-Remove.path) (λ d. refl) (g.F.Reads.log c.args.folder.now) (g.F.Reads.log c.do_remove.new.folder) (g.F.Reads.faults c.args.folder.now) (g.F.Reads.faults c.do_remove.new.folder) (c.do_remove.ensures.unfit e) c.do_remove.ensures.still)

pub returns-in-RemoveDir-clause-refused : goal.returns-in-RemoveDir-clause-refused
returns-in-RemoveDir-clause-refused g c =
    subst (λ (d : Deed). Changes (g.F.Reads.log c.args.folder.now) (g.F.Reads.log c.do_remove_dir.new.folder) (StaysRefused (plain d))) (sym c.in-RemoveDir.is)
    (still_refused (RemovesDir c.in-RemoveDir.path) (λ d part is. is) (g.F.Reads.log c.args.folder.now) (g.F.Reads.log c.do_remove_dir.new.folder) c.do_remove_dir.ensures.still)

pub returns-in-RemoveDir-clause-left : goal.returns-in-RemoveDir-clause-left
returns-in-RemoveDir-clause-left g c = λ e.
    subst (λ (d : Deed). Changes (g.F.Reads.log c.args.folder.now) (g.F.Reads.log c.do_remove_dir.new.folder) (HasBrokenOff (plain d))) (sym c.in-RemoveDir.is)
    (still_left (RemovesDir c.in-RemoveDir.path) (λ d. refl) (g.F.Reads.log c.args.folder.now) (g.F.Reads.log c.do_remove_dir.new.folder) (g.F.Reads.faults c.args.folder.now) (g.F.Reads.faults c.do_remove_dir.new.folder) (c.do_remove_dir.ensures.unfit e) c.do_remove_dir.ensures.still)

pub returns-in-Reshape-clause-refused : goal.returns-in-Reshape-clause-refused
returns-in-Reshape-clause-refused g c =
    subst (λ (d : Deed). Changes (g.F.Reads.log c.args.folder.now) (g.F.Reads.log c.do_reshape.new.folder) (StaysRefused (plain d))) (sym c.in-Reshape.is)
    (subst (λ (ranges : List Range). Changes (g.F.Reads.log c.args.folder.now) (g.F.Reads.log c.do_reshape.new.folder) (StaysRefused (Reshapes c.in-Reshape.path c.in-Reshape.len (plain_ranges ranges)))) c.deref-in-Reshape.ensures.value c.do_reshape.ensures.refused)

pub returns-in-Reshape-clause-left : goal.returns-in-Reshape-clause-left
returns-in-Reshape-clause-left g c = λ e.
    subst (λ (d : Deed). Changes (g.F.Reads.log c.args.folder.now) (g.F.Reads.log c.do_reshape.new.folder) (HasBrokenOff (plain d))) (sym c.in-Reshape.is)
    (subst (λ (ranges : List Range). Changes (g.F.Reads.log c.args.folder.now) (g.F.Reads.log c.do_reshape.new.folder) (HasBrokenOff (Reshapes c.in-Reshape.path c.in-Reshape.len (plain_ranges ranges)))) c.deref-in-Reshape.ensures.value (c.do_reshape.ensures.left e))
