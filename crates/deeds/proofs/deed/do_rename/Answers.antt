use Rattle.std.proofs.Common.{[], ◌∷◌, Option, inl, refl, subst, ◌∙◌}
use Rattle.std.specs.Prelude.{IsTrue, ◌↔◌}
use Rattle.outside.specs.Changes.{Move}
use Rattle.outside.specs.Calls.{Told, Changes}
use Rattle.outside.specs.Images.{Log, now, HasDone, HasBroken}
use Rattle.outside.proofs.Told.{changed_by, unchanged, told_same, told_then}
use Rattle.deeds.specs.Deeds.{Renames, HoldsSame, Does, StaysAmid, GoesOnAt, IsDoneAlready}
use Rattle.deeds.proofs.Doing.{did_amid, broke_amid, still_amid}
use Rattle.deeds.proofs.Growing.{still_grown, did_grown, broke_grown}
use Rattle.deeds.proofs.Applying.{same_keeps}
use Rattle.deeds.proofs.Moving.{move_fits, move_keeps, move_broke}
use Rattle.deeds.proofs.deed.do_rename.Goals as goal

pub returns-in_err-is_moved-clause-amid : goal.returns-in_err-is_moved-clause-amid
returns-in_err-is_moved-clause-amid g c =
    let x = Renames c.args.from.now c.args.to.now in
    unchanged (g.F.Reads.log c.args.folder.now) (g.F.Reads.log c.is_moved.new.folder) (StaysAmid (x ∷ [])) c.in_err-is_moved.ensures.log (still_amid x)

pub returns-then-branch-clause-done : goal.returns-then-branch-clause-done
returns-then-branch-clause-done g c =
    let x = Renames c.args.from.now c.args.to.now in
    told_same (g.F.Reads.log c.args.folder.now) (g.F.Reads.log c.is_moved.new.folder) (λ l. IsDoneAlready x (now l)) (λ old new. Does x (now old) (now new)) c.in_ok-is_moved.ensures.log (λ l already. inl (already, refl))
    (told_then (g.F.Reads.log c.args.folder.now) _ (λ l. IsDoneAlready x (now l)) c.in_ok-is_moved.ensures.moved (λ l moved. moved.0 c.if-branch.true))

pub returns-then-branch-clause-amid : goal.returns-then-branch-clause-amid
returns-then-branch-clause-amid g c =
    let x = Renames c.args.from.now c.args.to.now in
    unchanged (g.F.Reads.log c.args.folder.now) (g.F.Reads.log c.is_moved.new.folder) (StaysAmid (x ∷ [])) c.in_ok-is_moved.ensures.log (still_amid x)

pub returns-in_ok-rename-clause-amid : goal.returns-in_ok-rename-clause-amid
returns-in_ok-rename-clause-amid g c =
    let x = Renames c.args.from.now c.args.to.now in
    let m = Move c.args.from.now c.args.to.now in
    subst (λ (o : Option Log). Changes o (g.F.Reads.log c.rename.new.self) (StaysAmid (x ∷ []))) (c.in_ok-holds_same.ensures.log ∙ c.in_ok-is_moved.ensures.log)
    (changed_by (g.F.Reads.log c.holds_same.new.folder) (g.F.Reads.log c.rename.new.self) (HasDone m) (StaysAmid (x ∷ [])) (λ old new did. did_amid x m old old new (λ b d part. part) (still_amid x old) did) c.in_ok-rename.ensures.done)

pub returns-in_err-rename-clause-amid : goal.returns-in_err-rename-clause-amid
returns-in_err-rename-clause-amid g c =
    let x = Renames c.args.from.now c.args.to.now in
    let m = Move c.args.from.now c.args.to.now in
    subst (λ (o : Option Log). Changes o (g.F.Reads.log c.rename.new.self) (StaysAmid (x ∷ []))) (c.in_ok-holds_same.ensures.log ∙ c.in_ok-is_moved.ensures.log)
    (changed_by (g.F.Reads.log c.holds_same.new.folder) (g.F.Reads.log c.rename.new.self) (HasBroken m) (StaysAmid (x ∷ [])) (λ old new broke. broke_amid x m old old new (λ b d part. part) (still_amid x old) broke) c.in_err-rename.ensures.broken)

pub returns-in_err-is_moved-clause-grown : goal.returns-in_err-is_moved-clause-grown
returns-in_err-is_moved-clause-grown g c = still_grown (c.args.from.now ∷ c.args.to.now ∷ []) (g.F.Reads.log c.args.folder.now) (g.F.Reads.log c.is_moved.new.folder) c.in_err-is_moved.ensures.log

pub returns-then-branch-clause-grown : goal.returns-then-branch-clause-grown
returns-then-branch-clause-grown g c = still_grown (c.args.from.now ∷ c.args.to.now ∷ []) (g.F.Reads.log c.args.folder.now) (g.F.Reads.log c.is_moved.new.folder) c.in_ok-is_moved.ensures.log

pub returns-in_err-holds_same-clause-grown : goal.returns-in_err-holds_same-clause-grown
returns-in_err-holds_same-clause-grown g c =
    still_grown (c.args.from.now ∷ c.args.to.now ∷ []) (g.F.Reads.log c.args.folder.now) (g.F.Reads.log c.holds_same.new.folder) (c.in_err-holds_same.ensures.log ∙ c.in_ok-is_moved.ensures.log)

pub returns-else-branch-2-clause-grown : goal.returns-else-branch-2-clause-grown
returns-else-branch-2-clause-grown g c =
    still_grown (c.args.from.now ∷ c.args.to.now ∷ []) (g.F.Reads.log c.args.folder.now) (g.F.Reads.log c.report_changed.new.self)
    (c.report_changed.ensures.log ∙ c.in_ok-holds_same.ensures.log ∙ c.in_ok-is_moved.ensures.log)

pub returns-in_ok-rename-clause-grown : goal.returns-in_ok-rename-clause-grown
returns-in_ok-rename-clause-grown g c =
    subst (λ (o : Option Log). Changes o (g.F.Reads.log c.rename.new.self) (GoesOnAt (c.args.from.now ∷ c.args.to.now ∷ []))) (c.in_ok-holds_same.ensures.log ∙ c.in_ok-is_moved.ensures.log)
    (did_grown (Move c.args.from.now c.args.to.now) (g.F.Reads.log c.holds_same.new.folder) (g.F.Reads.log c.rename.new.self) c.in_ok-rename.ensures.done)

pub returns-in_err-rename-clause-grown : goal.returns-in_err-rename-clause-grown
returns-in_err-rename-clause-grown g c =
    subst (λ (o : Option Log). Changes o (g.F.Reads.log c.rename.new.self) (GoesOnAt (c.args.from.now ∷ c.args.to.now ∷ []))) (c.in_ok-holds_same.ensures.log ∙ c.in_ok-is_moved.ensures.log)
    (broke_grown (Move c.args.from.now c.args.to.now) (g.F.Reads.log c.holds_same.new.folder) (g.F.Reads.log c.rename.new.self) c.in_err-rename.ensures.broken)

pub returns-in_err-is_moved-clause-still : goal.returns-in_err-is_moved-clause-still
returns-in_err-is_moved-clause-still g c = same_keeps (Renames c.args.from.now c.args.to.now) (g.F.Reads.log c.args.folder.now) (g.F.Reads.log c.is_moved.new.folder) c.in_err-is_moved.ensures.log

pub returns-then-branch-clause-still : goal.returns-then-branch-clause-still
returns-then-branch-clause-still g c = same_keeps (Renames c.args.from.now c.args.to.now) (g.F.Reads.log c.args.folder.now) (g.F.Reads.log c.is_moved.new.folder) c.in_ok-is_moved.ensures.log

pub returns-in_ok-rename-clause-still : goal.returns-in_ok-rename-clause-still
returns-in_ok-rename-clause-still g c =
    let from = c.args.from.now in
    let to = c.args.to.now in
    let same = c.in_ok-holds_same.ensures.log ∙ c.in_ok-is_moved.ensures.log in
    let held = subst (λ (o : Option Log). Told o (λ l. IsTrue c.in_ok-holds_same.field-0 ↔ HoldsSame from to (now l))) c.in_ok-is_moved.ensures.log c.in_ok-holds_same.ensures.held in
    move_keeps from to (g.F.Reads.log c.args.folder.now) (g.F.Reads.log c.rename.new.self)
    (move_fits from to (g.F.Reads.log c.args.folder.now) _ held c.if-branch-2.true)
    (subst (λ (o : Option Log). Changes o (g.F.Reads.log c.rename.new.self) (HasDone (Move from to))) same c.in_ok-rename.ensures.done)

pub returns-in_err-rename-clause-still : goal.returns-in_err-rename-clause-still
returns-in_err-rename-clause-still g c =
    let from = c.args.from.now in
    let to = c.args.to.now in
    let same = c.in_ok-holds_same.ensures.log ∙ c.in_ok-is_moved.ensures.log in
    let held = subst (λ (o : Option Log). Told o (λ l. IsTrue c.in_ok-holds_same.field-0 ↔ HoldsSame from to (now l))) c.in_ok-is_moved.ensures.log c.in_ok-holds_same.ensures.held in
    move_broke from to (g.F.Reads.log c.args.folder.now) (g.F.Reads.log c.rename.new.self)
    (move_fits from to (g.F.Reads.log c.args.folder.now) _ held c.if-branch-2.true)
    (subst (λ (o : Option Log). Changes o (g.F.Reads.log c.rename.new.self) (HasBroken (Move from to))) same c.in_err-rename.ensures.broken)
