use Rattle.outside.specs.Changes.{SetLen}
use Rattle.host_calls.specs.Calls.{IsFound}
use Rattle.host_folder.specs.Behind.{story_of}
use Rattle.host_folder.proofs.Since.{answered_since, misfit_found}
use Rattle.host_folder.proofs.Misfits.{short_of, no_cut}
use Rattle.host_folder.proofs.host.Host.set_len.Goals as goal

pub returns-in_default-clause-answer : goal.returns-in_default-clause-answer
returns-in_default-clause-answer g c =
    misfit_found g.H.HostCalls.story g.H.HostCalls.top c.args.self.now c.reach_bytes.new.self c.args.path.now (SetLen c.args.path.now c.args.len) (λ s. IsFound c.in_ok-inode.field-0 s c.args.path.now)
    (λ s there. no_cut c.in_ok-inode.field-0 c.args.path.now c.args.len s (λ i n is. absurd (c.in_default.not-File i n is)) there) c.reach_bytes.ensures.log c.in_ok-inode.ensures.composed

pub returns-then-len-length-clause-answer : goal.returns-then-len-length-clause-answer
returns-then-len-length-clause-answer g c =
    misfit_found g.H.HostCalls.story g.H.HostCalls.top c.args.self.now c.reach_bytes.new.self c.args.path.now (SetLen c.args.path.now c.args.len) (λ s. IsFound c.in_ok-inode.field-0 s c.args.path.now)
    (λ s there. no_cut c.in_ok-inode.field-0 c.args.path.now c.args.len s (short_of c.in_ok-inode.field-0 c.in-File.inode c.in-File.length c.args.len c.in-File.is c.if-len-length.true) there) c.reach_bytes.ensures.log c.in_ok-inode.ensures.composed

pub returns-clause-answer : goal.returns-clause-answer
returns-clause-answer g c =
    answered_since (story_of g.H.HostCalls.story c.args.self.now) (story_of g.H.HostCalls.story c.reach_bytes.new.self) (story_of g.H.HostCalls.story c.cut.new.self) (SetLen c.args.path.now c.args.len) c.cut.result
    c.reach_bytes.ensures.log c.cut.ensures.answer
