use Rattle.std.proofs.Common.{◌≡◌, Some, Result, Ok, Err, subst, sym}
use Rattle.std.specs.Result.{OnOk, OnErr}
use Rattle.host_calls.specs.Volume.{File, entry_at}
use Rattle.host_calls.specs.Story.{names_now}
use Rattle.mem_host.specs.Filing.{Filing}
use Rattle.mem_host.specs.Holding.{Holding, IsHolding}
use Rattle.mem_host.proofs.Keeping.{story_of, known_at, kept_flushed_file}
use Rattle.mem_host.proofs.host.MemHost.flush_file.Goals as goal

either : {T E : Type 0} (r : Result T E) (P : Filing → Type 0) (new done old : Filing) → OnOk r (new ≡ done) → OnErr r (new ≡ old) → P done → P old → P new
either (Ok x) P new done old ok err after before = subst P (sym ok) after
either (Err e) P new done old ok err after before = subst P (sym err) before

pub invariant_of-self : goal.invariant_of-self
invariant_of-self c =
    let a = c.self.inside in
    let story = story_of a.naming a.files a.doubt a.diary.log a.unnoted in
    let there = subst (λ (h : Holding). entry_at (names_now h.story) c.args.path.now ≡ Some (File c.args.inode)) (sym c.self.view_is) c.requires in
    let known = known_at a.top a.files story c.args.path.now c.args.inode c.self.invariant there in
    either c.flush.result (λ f. IsHolding a.top f (story_of a.naming f a.doubt a.diary.log a.unnoted)) c.flush.new.self _ a.files c.flush.ensures.ok c.flush.ensures.err
    (kept_flushed_file a.top a.files story c.args.inode known c.self.invariant) c.self.invariant
