use Rattle.std.proofs.Common.{◌≡◌, None}
use Rattle.outside.specs.Changes.{Put}
use Rattle.host_calls.specs.Volume.{entry_at}
use Rattle.host_calls.specs.Names.{CanMake}
use Rattle.host_calls.specs.Story.{names_now}
use Rattle.host_calls.specs.Calls.{HasCreated, MayHaveCreated}
use Rattle.host_folder.proofs.Answering.{file_made}
use Rattle.host_folder.proofs.Changing.{changed_at, composed_alone, touched_alone}
use Rattle.host_folder.proofs.host.Host.make_file.Goals as goal

pub returns-in_err-touch_name-clause-kept : goal.returns-in_err-touch_name-clause-kept
returns-in_err-touch_name-clause-kept g c =
    composed_alone g.H.HostCalls.story g.H.HostCalls.top c.args.self.now c.touch_name.new.self c.args.path.now (λ s. entry_at (names_now s) c.args.path.now ≡ None) c.touch_name.ensures.more c.touch_name.ensures.rest c.requires

pub returns : goal.returns
returns g c =
    let path = c.args.path.now in
    let old = c.args.self.now in
    let host = c.touch_name.new.self in
    let answer = c.create-answer in
    changed_at g.H.HostCalls.story g.H.HostCalls.top (Put path c.args.bytes.now) answer.result old host c.note.new.host path
    (λ s. entry_at (names_now s) path ≡ None) (λ p. HasCreated p c.args.bytes.now) (λ p s t. (t ≡ s) × ¬ CanMake (names_now s) p)
    (λ p. MayHaveCreated p c.args.bytes.now) (record {
      next = answer.new.self;
      text = c.text.result.now;
      touched = touched_alone old host c.touch_name.ensures.more c.touch_name.ensures.rest;
      composed = c.text.ensures;
      told = c.requires;
      called = answer.ensures;
      noted = c.note.ensures;
      done = λ s t u held there took noted.
          file_made path c.args.bytes.now answer.result s t u host.touched.paths.items host.moved.paths.items host.flush_failed held there
          c.in_ok-touch_name.ensures.touched c.in_ok-touch_name.ensures.above took noted;
    })
