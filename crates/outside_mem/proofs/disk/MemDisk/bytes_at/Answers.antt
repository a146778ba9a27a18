use Rattle.std.proofs.Common.{◌≡◌, Some, None, sym, ap, ◌∙◌}
use Rattle.std.specs.Option.{option_copied}
use Rattle.outside.specs.Disk.{node_at, folder, file}
use Rattle.outside_mem.specs.declared.disk.Held.TheVariants as held
use Rattle.outside_mem.proofs.Disks.{node_found}
use Rattle.outside_mem.proofs.disk.MemDisk.bytes_at.Goals as goal

pub returns-in-None : goal.returns-in-None
returns-in-None c = λ f.
    let none : None ≡ node_at c.args.self.now c.args.path.now = rw (← c.self.view_is) (node_found c.self.inside.held.entries c.args.path.now None (sym (ap option_copied c.in-None.is) ∙ c.get.ensures.value)) in
    cc

pub returns-in-Some-Folder : goal.returns-in-Some-Folder
returns-in-Some-Folder c = λ f.
    let one : Some folder ≡ node_at c.args.self.now c.args.path.now = rw (← c.self.view_is) (node_found c.self.inside.held.entries c.args.path.now (Some held.Folder) (sym (ap option_copied c.in-Some-Folder.is ∙ ap Some c.in-Some-Folder.field-0-is) ∙ c.get.ensures.value)) in
    cc

pub returns-in-Some-File : goal.returns-in-Some-File
returns-in-Some-File c =
    sym (rw (← c.self.view_is) (node_found c.self.inside.held.entries c.args.path.now (Some (held.File c.in-Some-File.bytes)) (sym (ap option_copied c.in-Some-File.is ∙ ap Some c.in-Some-File.field-0-is) ∙ c.get.ensures.value)))
    ∙ ap (λ bytes. Some (file bytes)) (sym c.deref.ensures.value)
