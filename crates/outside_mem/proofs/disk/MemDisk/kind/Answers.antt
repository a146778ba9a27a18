use Rattle.std.proofs.Common.{◌≡◌, length, Some, None, sym, ap, ◌∙◌, arith}
use Rattle.std.proofs.lemmas.Grind.{common_steps}
use Rattle.outside.specs.Disk.{kind_at}
use Rattle.std.specs.Option.{option_copied}
use Rattle.outside.specs.declared.folder.Kind.TheVariants.{File}
use Rattle.outside_mem.specs.declared.disk.Held.TheVariants as held
use Rattle.outside_mem.proofs.Disks.{kind_found}
use Rattle.outside_mem.proofs.disk.MemDisk.kind.Goals as goal

pub returns-in-None : goal.returns-in-None
returns-in-None c = rw (← c.self.view_is) (kind_found c.self.inside.held.entries c.args.path.now None (sym (ap option_copied c.in-None.is) ∙ c.get.ensures.value))

pub returns-in-Some-Folder : goal.returns-in-Some-Folder
returns-in-Some-Folder c = rw (← c.self.view_is) (kind_found c.self.inside.held.entries c.args.path.now (Some held.Folder) (sym (ap option_copied c.in-Some-Folder.is ∙ ap Some c.in-Some-Folder.field-0-is) ∙ c.get.ensures.value))

pub returns-in-Some-File : goal.returns-in-Some-File
returns-in-Some-File c =
    let counted : c.len.result ≡ length c.in-Some-File.bytes.items = grind (arith, common_steps, c.in-Some-File.bytes.ok) in
    let there : Some (File (length c.in-Some-File.bytes.items)) ≡ kind_at c.args.self.now c.args.path.now = rw (← c.self.view_is) (kind_found c.self.inside.held.entries c.args.path.now (Some (held.File c.in-Some-File.bytes)) (sym (ap option_copied c.in-Some-File.is ∙ ap Some c.in-Some-File.field-0-is) ∙ c.get.ensures.value)) in
    ap (λ n. Some (File n)) counted ∙ there
