use Rattle.std.proofs.Common.{◌+◌, [], ◌∷◌, length, true, subst, sym, refl}
use Rattle.host_calls.specs.Bytes.{Wrote}
use Rattle.host_calls.specs.Calls.{IsLongFile}
use Rattle.mem_host.specs.Filing.{Filing}
use Rattle.mem_host.specs.Holding.{Holding, IsHolding}
use Rattle.mem_host.proofs.Keeping.{story_of, kept_written}
use Rattle.mem_host.proofs.Writing.{long_after}
use Rattle.mem_host.proofs.host.MemHost.write.Goals as goal

pub invariant_of-self-2 : goal.invariant_of-self-2
invariant_of-self-2 c =
    let a = c.self.inside in
    let file : IsLongFile c.args.path.now c.args.inode c.args.at (story_of a.naming a.files a.doubt a.diary.log a.unnoted) =
    subst (λ (h : Holding). IsLongFile c.args.path.now c.args.inode c.args.at h.story) (sym c.self.view_is) c.requires in
    subst (λ (f : Filing). IsHolding a.top f (story_of a.naming f a.doubt a.diary.log true)) (sym c.in_ok-write.ensures.ok)
    (kept_written a.top a.files (story_of a.naming a.files a.doubt a.diary.log a.unnoted) c.args.path.now c.args.inode (Wrote c.args.at c.args.bytes.now ∷ []) refl file.there (tt, file.long) c.self.invariant)

pub returns-clause-long : goal.returns-clause-long
returns-clause-long c =
    let a = c.self.inside in
    let file : IsLongFile c.args.path.now c.args.inode c.args.at (story_of a.naming a.files a.doubt a.diary.log a.unnoted) =
    subst (λ (h : Holding). IsLongFile c.args.path.now c.args.inode c.args.at h.story) (sym c.self.view_is) c.requires in
    subst (λ (f : Filing). IsLongFile c.args.path.now c.args.inode (c.args.at + length c.args.bytes.now) (story_of a.naming f a.doubt a.diary.log true)) (sym c.in_ok-write.ensures.ok)
    (long_after (story_of a.naming a.files a.doubt a.diary.log a.unnoted) c.args.path.now c.args.inode c.args.at c.args.bytes.now c.self.invariant.sound file)
