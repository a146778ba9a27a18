use Rattle.std.proofs.Common.{◌≡◌, None, subst}
use Rattle.outside.specs.Changes.{MakeDir}
use Rattle.host_calls.specs.declared.found.Found.{Found}
use Rattle.host_calls.specs.Volume.{entry_at}
use Rattle.host_calls.specs.Names.{HasFolder}
use Rattle.host_calls.specs.Story.{names_now}
use Rattle.host_calls.specs.Calls.{IsFound}
use Rattle.host_folder.specs.Behind.{story_of}
use Rattle.host_folder.proofs.Since.{answered_since, misfit_found, kept_found, composed_found}
use Rattle.host_folder.proofs.Misfits.{no_make_dir}
use Rattle.host_folder.proofs.host.Host.make_dir.Goals as goal

pub make_new_dir-requires : goal.make_new_dir-requires
make_new_dir-requires g c =
    let path = c.args.path.now in
    composed_found g.H.HostCalls.story g.H.HostCalls.top c.reach.new.self path (λ s. IsFound c.in_ok-reach.field-0 s path) (λ s. entry_at (names_now s) path ≡ None)
    (λ s there. (subst (λ (f : Found). IsFound f s path) c.in-Nothing.is there)) c.in_ok-reach.ensures.composed

pub keep_dir-requires : goal.keep_dir-requires
keep_dir-requires g c =
    let path = c.args.path.now in
    kept_found g.H.HostCalls.story g.H.HostCalls.top c.reach.new.self path (λ s. IsFound c.in_ok-reach.field-0 s path) (λ s. HasFolder (names_now s) path)
    (λ s there. (subst (λ (f : Found). IsFound f s path) c.in-Dir.is there)) c.in_ok-reach.ensures.composed

pub returns-in-Nothing-clause-answer : goal.returns-in-Nothing-clause-answer
returns-in-Nothing-clause-answer g c =
    answered_since (story_of g.H.HostCalls.story c.args.self.now) (story_of g.H.HostCalls.story c.reach.new.self) (story_of g.H.HostCalls.story c.make_new_dir.new.self) (MakeDir c.args.path.now) c.make_new_dir.result
    c.reach.ensures.log c.make_new_dir.ensures.answer

pub returns-in-Dir-clause-answer : goal.returns-in-Dir-clause-answer
returns-in-Dir-clause-answer g c =
    answered_since (story_of g.H.HostCalls.story c.args.self.now) (story_of g.H.HostCalls.story c.reach.new.self) (story_of g.H.HostCalls.story c.keep_dir.new.self) (MakeDir c.args.path.now) c.keep_dir.result
    c.reach.ensures.log c.keep_dir.ensures.answer

pub returns-in_default-clause-answer : goal.returns-in_default-clause-answer
returns-in_default-clause-answer g c =
    misfit_found g.H.HostCalls.story g.H.HostCalls.top c.args.self.now c.reach.new.self c.args.path.now (MakeDir c.args.path.now) (λ s. IsFound c.in_ok-reach.field-0 s c.args.path.now)
    (λ s there. no_make_dir c.in_ok-reach.field-0 c.args.path.now s c.in_default.not-Nothing c.in_default.not-Dir there) c.reach.ensures.log c.in_ok-reach.ensures.composed
