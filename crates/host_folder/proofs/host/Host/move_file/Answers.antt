use Rattle.std.proofs.Common.{◌≡◌, ℕ, List, string_bytes, sym, subst}
use Rattle.outside.specs.Changes.{Move}
use Rattle.host_calls.specs.Names.{Moved, CanMoveTo}
use Rattle.host_calls.specs.Story.{names_now}
use Rattle.host_calls.specs.Calls.{IsTextOf, AtPath, HasTaken, MayHaveTaken}
use Rattle.host_folder.proofs.Answering.{file_moved}
use Rattle.host_folder.proofs.Changing.{IsTouched, told_composed, target_still, took_at, changed_at}
use Rattle.host_folder.proofs.host.Host.move_file.Goals as goal

pub returns-in_err-touch_move-clause-kept : goal.returns-in_err-touch_move-clause-kept
returns-in_err-touch_move-clause-kept g c =
    told_composed g.H.HostCalls.story g.H.HostCalls.top c.args.self.now c.touch_move.new.self c.args.from.now
    (λ s. IsTextOf (g.H.HostCalls.top c.args.self.now.host) (string_bytes c.args.self.now.target.room) c.args.to.now)
    (record { touched = c.touch_move.ensures.more; moved = c.touch_move.ensures.more_moved; rest = c.touch_move.ensures.rest }) c.requires

pub returns : goal.returns
returns g c =
    let from = c.args.from.now in
    let to = c.args.to.now in
    let old = c.args.self.now in
    let host = c.touch_move.new.self in
    let answer = c.rename-answer in
    let top = g.H.HostCalls.top in
    let text = c.text-2.result.now in
    let kept = c.in_ok-touch_move.ensures in
    let is : IsTouched old host = record { touched = c.touch_move.ensures.more; moved = c.touch_move.ensures.more_moved; rest = c.touch_move.ensures.rest } in
    changed_at g.H.HostCalls.story top (Move from to) answer.result old host c.note.new.host from
    (λ s. IsTextOf (top old.host) (string_bytes old.target.room) to)
    (λ p s t. AtPath (top host.host) text (λ q. HasTaken (Moved p q) s t))
    (λ p s t. AtPath (top host.host) text (λ q. (t ≡ s) × ¬ CanMoveTo (names_now s) p q))
    (λ p s t. AtPath (top host.host) text (λ q. MayHaveTaken (Moved p q) s t))
    (record {
      next = answer.new.self;
      text = c.text.result.now;
      touched = is;
      composed = c.text.ensures;
      told = c.requires;
      called = answer.ensures;
      noted = c.note.ensures;
      done = λ s t u held there took noted.
          file_moved from to answer.result s t u host.touched.paths.items host.moved.paths.items host.flush_failed held
          kept.left kept.touched kept.above kept.moved
          (took_at answer.result (top host.host) text to (λ q. HasTaken (Moved from q))
          (λ q a b. (b ≡ a) × ¬ CanMoveTo (names_now a) from q) (λ q. MayHaveTaken (Moved from q)) s t
          (subst (λ (l : List ℕ). IsTextOf (top host.host) l to) (sym c.text-2.ensures) (target_still top old host to is there)) took)
          noted;
    })
