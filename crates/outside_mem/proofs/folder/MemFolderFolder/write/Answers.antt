use Rattle.std.proofs.Common.{ℕ, List, subst, OnErr}
use Rattle.outside.specs.Disk.{Path}
use Rattle.outside.specs.Changes.{Write}
use Rattle.outside.specs.Images.{HasBroken}
use Rattle.outside_mem.proofs.folder.MemFolderFolder.write.Goals as goal

pub returns-in-Ok-clause-broken : goal.returns-in-Ok-clause-broken
returns-in-Ok-clause-broken c =
    subst (λ (bytes : List ℕ). OnErr c.change.result (HasBroken (Write c.args.path.now c.args.at bytes) c.args.self.now.log c.change.new.self.log)) c.in-Ok.ensures.items
    (subst (λ (p : Path). OnErr c.change.result (HasBroken (Write p c.args.at c.in-Ok.bytes.items) c.args.self.now.log c.change.new.self.log)) c.copied.ensures c.change.ensures.broken)
