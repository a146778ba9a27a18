use Rattle.std.proofs.Common.{subst, OnErr}
use Rattle.outside.specs.Disk.{Path}
use Rattle.outside.specs.Changes.{MakeDir}
use Rattle.outside.specs.Images.{HasBroken}
use Rattle.outside_mem.proofs.folder.MemFolderFolder.make_dir.Goals as goal

pub returns-clause-broken : goal.returns-clause-broken
returns-clause-broken c =
    subst (λ (p : Path). OnErr c.change.result (HasBroken (MakeDir p) c.args.self.now.log c.change.new.self.log)) c.copied.ensures c.change.ensures.broken
