use Rattle.std.proofs.Common.{◌≡◌, Bool, Some, sym, ap, subst, ◌∙◌}
use Rattle.std.specs.Prelude.{◌↔◌, IsTrue}
use Rattle.outside.specs.Disk.{kind_at}
use Rattle.outside.specs.Images.{now}
use Rattle.outside.specs.declared.folder.Kind.{Kind}
use Rattle.outside.proofs.Told.{told_then}
use Rattle.deeds.specs.Deeds.{Reshapes, CanDeed}
use Rattle.deeds.specs.Plain.{plain_ranges}
use Rattle.deeds.proofs.Doing.{told_disk}
use Rattle.journal_mending.proofs.Lengths.{fits_within, reshape_can, dir_cannot, none_cannot}
use Rattle.journal_mending.proofs.reshaping.can_reshape.Goals as goal

pub returns-in-Some-File-clause-exact : goal.returns-in-Some-File-clause-exact
returns-in-Some-File-clause-exact g c =
    let log = g.R.Reads.log c.args.folder.now in
    let path = c.args.path.now in
    let rs = plain_ranges c.args.ranges.now in
    told_then log (λ l. c.in_ok-have.field-0 ≡ kind_at (now l) path) _ (told_disk log (λ d. c.in_ok-have.field-0 ≡ kind_at d path) c.in_ok-have.ensures.kind)
    (λ l e. subst (λ (b : Bool). IsTrue b ↔ CanDeed (Reshapes path c.args.len rs) (now l)) (sym c.fits_len.ensures)
    (reshape_can path c.args.len rs c.in-Some-File.have (now l) (sym e ∙ c.in-Some-File.is ∙ ap (λ (k : Kind). Some k) c.in-Some-File.field-0-is)))

pub returns-in-Some-File-clause-within : goal.returns-in-Some-File-clause-within
returns-in-Some-File-clause-within g c = λ t. fits_within c.args.len (plain_ranges c.args.ranges.now) c.in-Some-File.have (sym c.fits_len.ensures ∙ t)

pub returns-in-Some-Dir-clause-exact : goal.returns-in-Some-Dir-clause-exact
returns-in-Some-Dir-clause-exact g c =
    let log = g.R.Reads.log c.args.folder.now in
    let path = c.args.path.now in
    told_then log (λ l. c.in_ok-have.field-0 ≡ kind_at (now l) path) _ (told_disk log (λ d. c.in_ok-have.field-0 ≡ kind_at d path) c.in_ok-have.ensures.kind)
    (λ l e. dir_cannot path c.args.len (plain_ranges c.args.ranges.now) (now l) (sym e ∙ c.in-Some-Dir.is ∙ ap (λ (k : Kind). Some k) c.in-Some-Dir.field-0-is))

pub returns-in-None-clause-exact : goal.returns-in-None-clause-exact
returns-in-None-clause-exact g c =
    let log = g.R.Reads.log c.args.folder.now in
    let path = c.args.path.now in
    told_then log (λ l. c.in_ok-have.field-0 ≡ kind_at (now l) path) _ (told_disk log (λ d. c.in_ok-have.field-0 ≡ kind_at d path) c.in_ok-have.ensures.kind)
    (λ l e. none_cannot path c.args.len (plain_ranges c.args.ranges.now) (now l) (sym e ∙ c.in-None.is))
