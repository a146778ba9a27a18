use Rattle.std.proofs.Common.{subst}
use Rattle.outside.specs.Images.{now, IsSound}
use Rattle.outside.proofs.Steady.{sound_tree}
use Rattle.outside_mem.specs.Held.{Holding}
use Rattle.outside_mem.specs.Kept.{change_of}
use Rattle.outside_mem.proofs.Logs.{half_breaks}
use Rattle.outside_mem.proofs.folder.MemFolder.break_off.Goals as goal

pub keep-requires-clause-sound : goal.keep-requires-clause-sound
keep-requires-clause-sound c =
    let sound = subst (λ (h : Holding). IsSound h.log.start h.log.calls) c.self.view_is c.self.invariant.2 in
    (sound, half_breaks (change_of c.args.change) (now c.args.self.now.log) (sound_tree c.args.self.now.log.start c.args.self.now.log.calls sound) c.requires)
