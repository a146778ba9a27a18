use Rattle.outside.specs.Changes.{Write}
use Rattle.host_calls.specs.Calls.{IsFound}
use Rattle.host_folder.specs.Behind.{story_of}
use Rattle.host_folder.proofs.Since.{answered_since, misfit_found}
use Rattle.host_folder.proofs.Misfits.{short_of, no_write}
use Rattle.host_folder.proofs.host.Host.write.Goals as goal

pub returns-in_default-clause-answer : goal.returns-in_default-clause-answer
returns-in_default-clause-answer g c =
    misfit_found g.H.HostCalls.story g.H.HostCalls.top c.args.self.now c.reach_bytes.new.self c.args.path.now (Write c.args.path.now c.args.at c.args.bytes.now) (λ s. IsFound c.in_ok-inode.field-0 s c.args.path.now)
    (λ s there. no_write c.in_ok-inode.field-0 c.args.path.now c.args.at c.args.bytes.now s (λ i n is. absurd (c.in_default.not-File i n is)) there) c.reach_bytes.ensures.log c.in_ok-inode.ensures.composed

pub returns-then-at-length-clause-answer : goal.returns-then-at-length-clause-answer
returns-then-at-length-clause-answer g c =
    misfit_found g.H.HostCalls.story g.H.HostCalls.top c.args.self.now c.reach_bytes.new.self c.args.path.now (Write c.args.path.now c.args.at c.args.bytes.now) (λ s. IsFound c.in_ok-inode.field-0 s c.args.path.now)
    (λ s there. no_write c.in_ok-inode.field-0 c.args.path.now c.args.at c.args.bytes.now s (short_of c.in_ok-inode.field-0 c.in-File.inode c.in-File.length c.args.at c.in-File.is c.if-at-length.true) there) c.reach_bytes.ensures.log c.in_ok-inode.ensures.composed

pub returns-clause-answer : goal.returns-clause-answer
returns-clause-answer g c =
    answered_since (story_of g.H.HostCalls.story c.args.self.now) (story_of g.H.HostCalls.story c.reach_bytes.new.self) (story_of g.H.HostCalls.story c.write_bytes.new.self) (Write c.args.path.now c.args.at c.args.bytes.now) c.write_bytes.result
    c.reach_bytes.ensures.log c.write_bytes.ensures.answer
