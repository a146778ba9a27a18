use Rattle.std.proofs.Common.{subst, OnErr}
use Rattle.outside.specs.Disk.{Path}
use Rattle.outside.specs.Changes.{SetLen}
use Rattle.outside.specs.Images.{HasBroken}
use Rattle.outside_mem.proofs.folder.MemFolderFolder.set_len.Goals as goal

pub returns-clause-broken : goal.returns-clause-broken
returns-clause-broken c =
    subst (λ (p : Path). OnErr c.change.result (HasBroken (SetLen p c.args.len) c.args.self.now.log c.change.new.self.log)) c.copied.ensures c.change.ensures.broken
