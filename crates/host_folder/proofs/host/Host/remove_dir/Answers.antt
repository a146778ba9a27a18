use Rattle.std.proofs.Common.{◌≡◌, None, subst}
use Rattle.outside.specs.Disk.{Path}
use Rattle.outside.specs.Changes.{RemoveDir, CanDo}
use Rattle.host_calls.specs.declared.found.Found.{Found}
use Rattle.host_calls.specs.Volume.{entry_at}
use Rattle.host_calls.specs.Names.{HasFolder}
use Rattle.host_calls.specs.Story.{names_now, disk_now}
use Rattle.host_calls.specs.Calls.{IsFound}
use Rattle.host_folder.specs.Behind.{story_of}
use Rattle.host_folder.proofs.Keeping.{held_tree}
use Rattle.host_folder.proofs.Since.{answered_since, misfit_found, misfit_here, kept_found, composed_found}
use Rattle.host_folder.proofs.Misfits.{no_remove_top, no_remove_dir}
use Rattle.host_folder.proofs.host.Host.remove_dir.Goals as goal

pub returns-then-is_empty-clause-answer : goal.returns-then-is_empty-clause-answer
returns-then-is_empty-clause-answer g c =
    let old = c.args.self.now in
    misfit_here g.H.HostCalls.story g.H.HostCalls.top old (RemoveDir c.args.path.now)
    (λ s kept can. no_remove_top s (held_tree s old.touched.paths.items old.moved.paths.items old.flush_failed kept.held)
    (subst (λ (p : Path). CanDo (RemoveDir p) (disk_now s)) (c.is_empty.ensures.0 c.if-is_empty.true) can)) c.requires

pub drop_dir-requires : goal.drop_dir-requires
drop_dir-requires g c =
    let path = c.args.path.now in
    composed_found g.H.HostCalls.story g.H.HostCalls.top c.reach_inside.new.self path (λ s. IsFound c.in_ok-reach_inside.field-0 s path) (λ s. HasFolder (names_now s) path)
    (λ s there. (subst (λ (f : Found). IsFound f s path) c.in-Dir.is there)) c.in_ok-reach_inside.ensures.composed

pub keep_no_dir-requires : goal.keep_no_dir-requires
keep_no_dir-requires g c =
    let path = c.args.path.now in
    kept_found g.H.HostCalls.story g.H.HostCalls.top c.reach_inside.new.self path (λ s. IsFound c.in_ok-reach_inside.field-0 s path) (λ s. entry_at (names_now s) path ≡ None)
    (λ s there. (subst (λ (f : Found). IsFound f s path) c.in-Nothing.is there)) c.in_ok-reach_inside.ensures.composed

pub returns-in-Dir-clause-answer : goal.returns-in-Dir-clause-answer
returns-in-Dir-clause-answer g c =
    answered_since (story_of g.H.HostCalls.story c.args.self.now) (story_of g.H.HostCalls.story c.reach_inside.new.self) (story_of g.H.HostCalls.story c.drop_dir.new.self) (RemoveDir c.args.path.now) c.drop_dir.result
    c.reach_inside.ensures.log c.drop_dir.ensures.answer

pub returns-in-Nothing-clause-answer : goal.returns-in-Nothing-clause-answer
returns-in-Nothing-clause-answer g c =
    answered_since (story_of g.H.HostCalls.story c.args.self.now) (story_of g.H.HostCalls.story c.reach_inside.new.self) (story_of g.H.HostCalls.story c.keep_no_dir.new.self) (RemoveDir c.args.path.now) c.keep_no_dir.result
    c.reach_inside.ensures.log c.keep_no_dir.ensures.answer

pub returns-in_default-clause-answer : goal.returns-in_default-clause-answer
returns-in_default-clause-answer g c =
    misfit_found g.H.HostCalls.story g.H.HostCalls.top c.args.self.now c.reach_inside.new.self c.args.path.now (RemoveDir c.args.path.now) (λ s. IsFound c.in_ok-reach_inside.field-0 s c.args.path.now)
    (λ s there. no_remove_dir c.in_ok-reach_inside.field-0 c.args.path.now s c.in_default.not-Nothing c.in_default.not-Dir there) c.reach_inside.ensures.log c.in_ok-reach_inside.ensures.composed
