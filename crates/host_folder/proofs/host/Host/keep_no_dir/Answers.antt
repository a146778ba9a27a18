use Rattle.std.proofs.Common.{inl}
use Rattle.outside.specs.Changes.{RemoveDir}
use Rattle.host_folder.proofs.Gone.{kept_gone, found_gone}
use Rattle.host_folder.proofs.host.Host.keep_no_dir.Goals as goal

pub returns-in_err-touch-clause-kept : goal.returns-in_err-touch-clause-kept
returns-in_err-touch-clause-kept g c = kept_gone g.H.HostCalls.story g.H.HostCalls.top c.args.self.now c.touch.new.self c.args.path.now c.touch.ensures.more c.touch.ensures.rest c.requires

pub returns : goal.returns
returns g c =
    found_gone g.H.HostCalls.story g.H.HostCalls.top c.args.self.now c.touch.new.self c.did.new.self c.args.path.now (RemoveDir c.args.path.now) (λ s none. inl none) (λ s is. is) c.touch.ensures.more c.touch.ensures.rest c.requires c.did.ensures
