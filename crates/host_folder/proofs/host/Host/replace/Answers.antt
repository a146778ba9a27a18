use Rattle.std.proofs.Common.{◌≡◌, true, Some}
use Rattle.outside.specs.Changes.{Put}
use Rattle.host_calls.specs.Volume.{File, entry_at}
use Rattle.host_calls.specs.Story.{names_now}
use Rattle.host_calls.specs.Calls.{IsLongFile, HasWritten, MayHaveWritten, written}
use Rattle.host_folder.proofs.Answering.{file_put}
use Rattle.host_folder.proofs.Bytes.{to_replace}
use Rattle.host_folder.proofs.Changing.{changed_at, composed_alone, touched_alone, unmoved_still}
use Rattle.host_folder.proofs.host.Host.replace.Goals as goal

pub returns-in_err-touch_name-clause-kept : goal.returns-in_err-touch_name-clause-kept
returns-in_err-touch_name-clause-kept g c =
    composed_alone g.H.HostCalls.story g.H.HostCalls.top c.args.self.now c.touch_name.new.self c.args.path.now (λ s. entry_at (names_now s) c.args.path.now ≡ Some (File c.args.inode)) c.touch_name.ensures.more c.touch_name.ensures.rest c.requires.there

pub returns : goal.returns
returns g c =
    let path = c.args.path.now in
    let old = c.args.self.now in
    let host = c.touch_name.new.self in
    let answer = c.write_at-answer in
    changed_at g.H.HostCalls.story g.H.HostCalls.top (Put path c.args.bytes.now) answer.result old host c.note.new.host path
    (λ s. entry_at (names_now s) path ≡ Some (File c.args.inode)) (λ p. HasWritten p c.args.inode 0 (written 0 c.args.bytes.now true))
    (λ p s t. (t ≡ s) × ¬ IsLongFile p c.args.inode 0 s) (λ p. MayHaveWritten p c.args.inode 0 c.args.bytes.now true) (record {
      next = answer.new.self;
      text = c.text.result.now;
      touched = touched_alone old host c.touch_name.ensures.more c.touch_name.ensures.rest;
      composed = c.text.ensures;
      told = c.requires.there;
      called = answer.ensures;
      noted = c.note.ensures;
      done = λ s t u held there took noted.
          file_put path c.args.inode c.args.bytes.now answer.result s t u host.touched.paths.items host.moved.paths.items host.flush_failed
          (to_replace path c.args.inode c.args.bytes.now s host.touched.paths.items host.moved.paths.items host.flush_failed held there
          (unmoved_still old host path c.touch_name.ensures.rest c.requires.unmoved) c.in_ok-touch_name.ensures.touched) took noted;
    })
