use Rattle.std.proofs.Common.{◌≡◌, None, Some, subst}
use Rattle.outside.specs.Changes.{Put}
use Rattle.host_calls.specs.declared.found.Found.{Found}
use Rattle.host_calls.specs.Volume.{File, entry_at}
use Rattle.host_calls.specs.Story.{names_now}
use Rattle.host_calls.specs.Calls.{IsFound}
use Rattle.host_folder.specs.Behind.{story_of}
use Rattle.host_folder.proofs.Since.{answered_since, misfit_found, composed_found}
use Rattle.host_folder.proofs.Misfits.{no_put}
use Rattle.host_folder.proofs.host.Host.put.Goals as goal

pub make_file-requires : goal.make_file-requires
make_file-requires g c =
    let path = c.args.path.now in
    composed_found g.H.HostCalls.story g.H.HostCalls.top c.reach_bytes.new.self path (λ s. IsFound c.in_ok-reach_bytes.field-0 s path) (λ s. entry_at (names_now s) path ≡ None)
    (λ s there. (subst (λ (f : Found). IsFound f s path) c.in-Nothing.is there)) c.in_ok-reach_bytes.ensures.composed

pub replace-requires-clause-there : goal.replace-requires-clause-there
replace-requires-clause-there g c =
    let path = c.args.path.now in
    composed_found g.H.HostCalls.story g.H.HostCalls.top c.reach_bytes.new.self path (λ s. IsFound c.in_ok-reach_bytes.field-0 s path) (λ s. entry_at (names_now s) path ≡ Some (File c.in-File.inode))
    (λ s there. (subst (λ (f : Found). IsFound f s path) c.in-File.is there).0) c.in_ok-reach_bytes.ensures.composed

pub returns-in-Nothing-clause-answer : goal.returns-in-Nothing-clause-answer
returns-in-Nothing-clause-answer g c =
    answered_since (story_of g.H.HostCalls.story c.args.self.now) (story_of g.H.HostCalls.story c.reach_bytes.new.self) (story_of g.H.HostCalls.story c.make_file.new.self) (Put c.args.path.now c.args.bytes.now) c.make_file.result
    c.reach_bytes.ensures.log c.make_file.ensures.answer

pub returns-in-File-clause-answer : goal.returns-in-File-clause-answer
returns-in-File-clause-answer g c =
    answered_since (story_of g.H.HostCalls.story c.args.self.now) (story_of g.H.HostCalls.story c.reach_bytes.new.self) (story_of g.H.HostCalls.story c.replace.new.self) (Put c.args.path.now c.args.bytes.now) c.replace.result
    c.reach_bytes.ensures.log c.replace.ensures.answer

pub returns-in_default-clause-answer : goal.returns-in_default-clause-answer
returns-in_default-clause-answer g c =
    misfit_found g.H.HostCalls.story g.H.HostCalls.top c.args.self.now c.reach_bytes.new.self c.args.path.now (Put c.args.path.now c.args.bytes.now) (λ s. IsFound c.in_ok-reach_bytes.field-0 s c.args.path.now)
    (λ s there. no_put c.in_ok-reach_bytes.field-0 c.args.path.now c.args.bytes.now s c.in_default.not-Nothing c.in_default.not-File there) c.reach_bytes.ensures.log c.in_ok-reach_bytes.ensures.composed
