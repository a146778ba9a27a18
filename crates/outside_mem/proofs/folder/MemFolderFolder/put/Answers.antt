use Rattle.std.proofs.Common.{ℕ, List, subst, OnErr}
use Rattle.outside.specs.Disk.{Path}
use Rattle.outside.specs.Changes.{Put}
use Rattle.outside.specs.Images.{HasBroken}
use Rattle.outside_mem.proofs.folder.MemFolderFolder.put.Goals as goal

pub returns-in-Ok-clause-broken : goal.returns-in-Ok-clause-broken
returns-in-Ok-clause-broken c =
    subst (λ (bytes : List ℕ). OnErr c.change.result (HasBroken (Put c.args.path.now bytes) c.args.self.now.log c.change.new.self.log)) c.in-Ok.ensures.items
    (subst (λ (p : Path). OnErr c.change.result (HasBroken (Put p c.in-Ok.bytes.items) c.args.self.now.log c.change.new.self.log)) c.copied.ensures c.change.ensures.broken)
