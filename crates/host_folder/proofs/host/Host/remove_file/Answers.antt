use Rattle.std.proofs.Common.{◌≡◌, None, subst}
use Rattle.outside.specs.Changes.{RemoveFile}
use Rattle.host_calls.specs.declared.found.Found.{Found}
use Rattle.host_calls.specs.Volume.{entry_at}
use Rattle.host_calls.specs.Names.{HasFile}
use Rattle.host_calls.specs.Story.{names_now}
use Rattle.host_calls.specs.Calls.{IsFound}
use Rattle.host_folder.specs.Behind.{story_of}
use Rattle.host_folder.proofs.Since.{answered_since, misfit_found, kept_found, composed_found}
use Rattle.host_folder.proofs.Misfits.{no_remove_file}
use Rattle.host_folder.proofs.host.Host.remove_file.Goals as goal

pub drop_file-requires : goal.drop_file-requires
drop_file-requires g c =
    let path = c.args.path.now in
    composed_found g.H.HostCalls.story g.H.HostCalls.top c.reach_inside.new.self path (λ s. IsFound c.in_ok-reach_inside.field-0 s path) (λ s. HasFile (names_now s) path)
    (λ s there. (c.in-File.field-0, (subst (λ (f : Found). IsFound f s path) c.in-File.is there).0)) c.in_ok-reach_inside.ensures.composed

pub keep_no_file-requires : goal.keep_no_file-requires
keep_no_file-requires g c =
    let path = c.args.path.now in
    kept_found g.H.HostCalls.story g.H.HostCalls.top c.reach_inside.new.self path (λ s. IsFound c.in_ok-reach_inside.field-0 s path) (λ s. entry_at (names_now s) path ≡ None)
    (λ s there. (subst (λ (f : Found). IsFound f s path) c.in-Nothing.is there)) c.in_ok-reach_inside.ensures.composed

pub returns-in-File-clause-answer : goal.returns-in-File-clause-answer
returns-in-File-clause-answer g c =
    answered_since (story_of g.H.HostCalls.story c.args.self.now) (story_of g.H.HostCalls.story c.reach_inside.new.self) (story_of g.H.HostCalls.story c.drop_file.new.self) (RemoveFile c.args.path.now) c.drop_file.result
    c.reach_inside.ensures.log c.drop_file.ensures.answer

pub returns-in-Nothing-clause-answer : goal.returns-in-Nothing-clause-answer
returns-in-Nothing-clause-answer g c =
    answered_since (story_of g.H.HostCalls.story c.args.self.now) (story_of g.H.HostCalls.story c.reach_inside.new.self) (story_of g.H.HostCalls.story c.keep_no_file.new.self) (RemoveFile c.args.path.now) c.keep_no_file.result
    c.reach_inside.ensures.log c.keep_no_file.ensures.answer

pub returns-in_default-clause-answer : goal.returns-in_default-clause-answer
returns-in_default-clause-answer g c =
    misfit_found g.H.HostCalls.story g.H.HostCalls.top c.args.self.now c.reach_inside.new.self c.args.path.now (RemoveFile c.args.path.now) (λ s. IsFound c.in_ok-reach_inside.field-0 s c.args.path.now)
    (λ s there. no_remove_file c.in_ok-reach_inside.field-0 c.args.path.now s c.in_default.not-Nothing c.in_default.not-File there) c.reach_inside.ensures.log c.in_ok-reach_inside.ensures.composed
