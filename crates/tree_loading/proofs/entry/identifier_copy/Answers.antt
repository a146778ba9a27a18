use Rattle.std.proofs.Common.{◌≡◌, List, ℕ, Some, subst, ◌∙◌}
use Rattle.outside.specs.declared.folder.Kind.TheVariants.{File as FileKind}
use Rattle.outside.specs.Disk.{kind_at, IsFile}
use Rattle.outside.specs.Images.{disk_in}
use Rattle.outside.proofs.Told.{told_then}
use Rattle.tree_loading.specs.declared.entry.Entry.TheVariants.{Copy}
use Rattle.tree_loading.specs.Format.{sealing_of}
use Rattle.tree_loading.specs.Entries.{IsReadable}
use Rattle.tree_loading.proofs.Cases.{copy_passed}
use Rattle.tree_loading.proofs.Names.{named_file}
use Rattle.tree_loading.proofs.entry.identifier_copy.Goals as goal

pub returns-in-Some-File-clause-entry : goal.returns-in-Some-File-clause-entry
returns-in-Some-File-clause-entry g c =
    let is : Some (FileKind c.in-Some-File.field-0-0) ≡ c.in_ok-kind.field-0 = cc in
    told_then (disk_in (g.R.Reads.log c.args.from.now)) (λ d. c.in_ok-kind.field-0 ≡ kind_at d c.args.path.now)
    (λ d. IsReadable (sealing_of c.args.keys.now) d c.args.identifier.now c.args.entry Copy) c.in_ok-kind.ensures.kind
    (λ d kind there. copy_passed (sealing_of c.args.keys.now) c.are_ciphers.ensures d c.args.identifier.now c.args.entry c.requires.copy
    (subst (λ (x : List (List ℕ)). IsFile d x) c.requires.path (named_file d c.args.path.now c.in-Some-File.field-0-0 (is ∙ kind))))
