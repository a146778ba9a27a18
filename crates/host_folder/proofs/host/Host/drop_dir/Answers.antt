use Rattle.std.proofs.Common.{◌≡◌, Contains, subst}
use Rattle.outside.specs.Disk.{Path}
use Rattle.outside.specs.Changes.{RemoveDir}
use Rattle.host_calls.specs.Names.{Dropped, HasFolder, IsEmptyFolder}
use Rattle.host_calls.specs.Story.{names_now}
use Rattle.host_calls.specs.Calls.{HasTaken, MayHaveTaken}
use Rattle.host_folder.proofs.Answering.{dir_removed}
use Rattle.host_folder.proofs.Changing.{changed_at, composed_alone, touched_alone}
use Rattle.host_folder.proofs.host.Host.drop_dir.Goals as goal

pub returns-in_err-touch-clause-kept : goal.returns-in_err-touch-clause-kept
returns-in_err-touch-clause-kept g c =
    composed_alone g.H.HostCalls.story g.H.HostCalls.top c.args.self.now c.touch.new.self c.args.path.now (λ s. HasFolder (names_now s) c.args.path.now) c.touch.ensures.more c.touch.ensures.rest c.requires

pub returns : goal.returns
returns g c =
    let path = c.args.path.now in
    let old = c.args.self.now in
    let host = c.touch.new.self in
    let answer = c.rmdir-answer in
    changed_at g.H.HostCalls.story g.H.HostCalls.top (RemoveDir path) answer.result old host c.note.new.host path
    (λ s. HasFolder (names_now s) path) (λ p. HasTaken (Dropped p)) (λ p s t. (t ≡ s) × ¬ IsEmptyFolder (names_now s) p)
    (λ p. MayHaveTaken (Dropped p)) (record {
      next = answer.new.self;
      text = c.text.result.now;
      touched = touched_alone old host c.touch.ensures.more c.touch.ensures.rest;
      composed = c.text.ensures;
      told = c.requires;
      called = answer.ensures;
      noted = c.note.ensures;
      done = λ s t u held there took noted.
          dir_removed path answer.result s t u host.touched.paths.items host.moved.paths.items host.flush_failed held there
          (subst (λ (p : Path). Contains host.touched.paths.items p) c.parent.ensures c.in_ok-touch.ensures.touched) took noted;
    })
