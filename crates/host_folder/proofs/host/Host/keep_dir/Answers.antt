use Rattle.outside.specs.Changes.{MakeDir}
use Rattle.host_calls.specs.Names.{HasFolder}
use Rattle.host_calls.specs.Story.{names_now}
use Rattle.host_folder.proofs.Answering.{dir_there}
use Rattle.host_folder.proofs.Changing.{kept_alone, found_at}
use Rattle.host_folder.proofs.host.Host.keep_dir.Goals as goal

pub returns-in_err-touch_name-clause-kept : goal.returns-in_err-touch_name-clause-kept
returns-in_err-touch_name-clause-kept g c =
    kept_alone g.H.HostCalls.story g.H.HostCalls.top c.args.self.now c.touch_name.new.self (λ s. HasFolder (names_now s) c.args.path.now) c.touch_name.ensures.more c.touch_name.ensures.rest c.requires

pub returns : goal.returns
returns g c =
    let host = c.touch_name.new.self in
    found_at g.H.HostCalls.story g.H.HostCalls.top c.args.self.now host c.did.new.self (MakeDir c.args.path.now) (λ s. HasFolder (names_now s) c.args.path.now) c.touch_name.ensures.more c.touch_name.ensures.rest c.requires
    c.did.ensures (λ s held there. dir_there c.args.path.now s host.touched.paths.items host.moved.paths.items host.flush_failed held there)
