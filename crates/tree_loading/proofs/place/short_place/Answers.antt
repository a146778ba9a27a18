use Rattle.std.proofs.Common.{◌≡◌, Some, false, ◌∙◌}
use Rattle.outside.specs.declared.folder.Kind.TheVariants.{File as FileKind}
use Rattle.outside.specs.Disk.{kind_at, IsTree}
use Rattle.outside.specs.Images.{disk_in}
use Rattle.outside.proofs.Told.{told_then}
use Rattle.tree_loading.specs.declared.found.Shown.TheVariants.{File}
use Rattle.tree_loading.specs.Reading.{short_at}
use Rattle.tree_loading.specs.Showing.{IsPlace}
use Rattle.tree_loading.proofs.Names.{file_place}
use Rattle.tree_loading.proofs.place.short_place.Goals as goal

pub returns-in-Some-File-clause-place : goal.returns-in-Some-File-clause-place
returns-in-Some-File-clause-place g c =
    let is : Some (FileKind c.in-Some-File.size) ≡ c.in_ok-size.field-0 = cc in
    told_then (disk_in (g.R.Reads.log c.args.from.now)) (λ d. c.in_ok-size.field-0 ≡ kind_at d c.args.node.now)
    (λ d. IsTree d → IsPlace d c.args.node.now false (short_at d c.args.node.now) (Some (record { shown = File c.in-Some-File.size; further = false })))
    c.in_ok-size.ensures.kind
    (λ d kind tree. file_place d c.args.node.now c.in-Some-File.size tree (is ∙ kind))
