use Rattle.std.proofs.Common.{subst}
use Rattle.outside.specs.Images.{IsSound}
use Rattle.outside.proofs.Steady.{sound_tree}
use Rattle.outside_mem.specs.Held.{Holding}
use Rattle.outside_mem.proofs.folder.MemFolderReads.kind.Goals as goal

pub returns-then-next_fails-clause-tree : goal.returns-then-next_fails-clause-tree
returns-then-next_fails-clause-tree c = sound_tree c.args.self.now.log.start c.args.self.now.log.calls (subst (λ (h : Holding). IsSound h.log.start h.log.calls) c.self.view_is c.self.invariant.2)

pub returns-clause-tree : goal.returns-clause-tree
returns-clause-tree c = sound_tree c.args.self.now.log.start c.args.self.now.log.calls (subst (λ (h : Holding). IsSound h.log.start h.log.calls) c.self.view_is c.self.invariant.2)
