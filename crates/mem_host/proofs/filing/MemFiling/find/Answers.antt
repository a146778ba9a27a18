use Rattle.std.proofs.Common.{◌≤◌, ◌<◌, length, Some, sym, ap, ◌∙◌, inl, inr, arith}
use Rattle.std.specs.FinMap as map
use Rattle.mem_host.specs.Filing.{Filing}
use Rattle.mem_host.proofs.Files.{not_here, found_here}
use Rattle.mem_host.proofs.filing.MemFiling.find.Goals as goal

pub returns-then-inode-ne-DEVICE : goal.returns-then-inode-ne-DEVICE
returns-then-inode-ne-DEVICE c =
    sym (ap (λ (f : Filing). map.get f.held c.args.inode) c.self.view_is) ∙ not_here c.self.inside.files.items c.args.inode (inl c.if-inode-ne-DEVICE.true)

pub returns-then-inode-len : goal.returns-then-inode-len
returns-then-inode-len c =
    let past : length c.self.inside.files.items ≤ c.args.inode.ino = omega (arith, c.if-inode-len.true, c.len.ensures, c.self.inside.files.ok.0) in
    sym (ap (λ (f : Filing). map.get f.held c.args.inode) c.self.view_is) ∙ not_here c.self.inside.files.items c.args.inode (inr past)

pub returns : goal.returns
returns c =
    let few : c.args.inode.ino < length c.self.inside.files.items = omega (arith, c.if-inode-len.false, c.len.ensures, c.self.inside.files.ok.0) in
    sym (ap (λ (f : Filing). map.get f.held c.args.inode) c.self.view_is)
    ∙ found_here c.self.inside.files.items c.args.inode c.index.result.now c.if-inode-ne-DEVICE.false few
    ∙ ap Some (sym c.index.ensures)
