use Rattle.std.proofs.Common.{◌≡◌, false}
use Rattle.outside.specs.Changes.{Write}
use Rattle.host_calls.specs.Calls.{IsLongFile, HasWritten, MayHaveWritten, written}
use Rattle.host_folder.proofs.Answering.{file_written}
use Rattle.host_folder.proofs.Bytes.{to_write}
use Rattle.host_folder.proofs.Changing.{changed_at, composed_alone, touched_alone, unmoved_still}
use Rattle.host_folder.proofs.host.Host.write_bytes.Goals as goal

pub returns-in_err-touch-clause-kept : goal.returns-in_err-touch-clause-kept
returns-in_err-touch-clause-kept g c =
    composed_alone g.H.HostCalls.story g.H.HostCalls.top c.args.self.now c.touch.new.self c.args.path.now (IsLongFile c.args.path.now c.args.inode c.args.at) c.touch.ensures.more c.touch.ensures.rest c.requires.long

pub returns : goal.returns
returns g c =
    let path = c.args.path.now in
    let old = c.args.self.now in
    let host = c.touch.new.self in
    let answer = c.write_at-answer in
    changed_at g.H.HostCalls.story g.H.HostCalls.top (Write path c.args.at c.args.bytes.now) answer.result old host c.note.new.host path
    (IsLongFile path c.args.inode c.args.at) (λ p. HasWritten p c.args.inode c.args.at (written c.args.at c.args.bytes.now false))
    (λ p s t. (t ≡ s) × ¬ IsLongFile p c.args.inode c.args.at s) (λ p. MayHaveWritten p c.args.inode c.args.at c.args.bytes.now false)
    (record {
      next = answer.new.self;
      text = c.text.result.now;
      touched = touched_alone old host c.touch.ensures.more c.touch.ensures.rest;
      composed = c.text.ensures;
      told = c.requires.long;
      called = answer.ensures;
      noted = c.note.ensures;
      done = λ s t u held there took noted.
          file_written path c.args.inode c.args.at c.args.bytes.now answer.result s t u
          host.touched.paths.items host.moved.paths.items host.flush_failed
          (to_write path c.args.inode c.args.at c.args.bytes.now s host.touched.paths.items host.moved.paths.items host.flush_failed
          held there
          (unmoved_still old host path c.touch.ensures.rest c.requires.unmoved) c.in_ok-touch.ensures.touched) there.long took noted;
    })
