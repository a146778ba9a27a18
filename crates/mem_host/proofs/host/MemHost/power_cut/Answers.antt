use Rattle.std.proofs.Common.{◌≡◌, Result, Ok, Err, subst}
use Rattle.std.specs.Result.{IfOk}
use Rattle.host_calls.specs.Volume.{Names}
use Rattle.host_calls.specs.Names.{MayName}
use Rattle.host_calls.specs.Story.{Story, Files, IsLeft, volume_now}
use Rattle.mem_host.specs.Cuts.{AreLeft}
use Rattle.mem_host.specs.Holding.{Holding, IsSettled}
use Rattle.mem_host.proofs.Keeping.{story_of, can_hold_left, is_left}
use Rattle.mem_host.proofs.host.MemHost.power_cut.Goals as goal

pub holding-requires-clause-fits : goal.holding-requires-clause-fits
holding-requires-clause-fits c =
    let a = c.self.inside in
    can_hold_left a.top a.files c.in_ok-files.files (story_of a.naming a.files a.doubt a.diary.log a.unnoted) c.in_ok-names.names c.self.invariant
    c.in_ok-names.ensures c.in_ok-files.ensures.settled c.in_ok-files.ensures.filing c.in_ok-files.ensures.count

volume_left : {E : Type 0} (r : Result Holding E) (story : Story) (names : Names) (files : Files) → MayName story.base story.naming names → AreLeft story.files files
    → IfOk r (λ h. h.story.base ≡ names) → IfOk r (λ h. h.story.files ≡ files) → IfOk r (λ h. IsSettled h.story) → IfOk r (λ h. IsLeft story (volume_now h.story))
volume_left (Ok h) story names files may left base held settled = is_left story h.story names files may left base settled.names held
volume_left (Err e) story names files may left base held settled = base

pub returns-clause-left : goal.returns-clause-left
returns-clause-left c =
    let a = c.self.inside in
    subst (λ (h : Holding). IfOk c.holding.result (λ host. IsLeft h.story (volume_now host.story))) c.self.view_is
    (volume_left c.holding.result (story_of a.naming a.files a.doubt a.diary.log a.unnoted) c.in_ok-names.names c.in_ok-files.files.held
    c.in_ok-names.ensures c.in_ok-files.ensures.left c.holding.ensures.names c.holding.ensures.files c.holding.ensures.settled)
