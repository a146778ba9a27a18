use Rattle.std.proofs.lemmas.Result.{err_from_is_err_and}
use Rattle.outside.specs.Changes.{Move}
use Rattle.host_calls.specs.Calls.{IsFound}
use Rattle.host_folder.specs.Answers.{IsSameLog}
use Rattle.host_folder.specs.Behind.{story_of}
use Rattle.host_folder.proofs.Shown.{kept_looked}
use Rattle.host_folder.proofs.Since.{answered_since, failed_since, misfit_since, texts_kept, told_looked, changed_looked, kept_and, to_move}
use Rattle.host_folder.proofs.Misfits.{no_move_to, no_move_from}
use Rattle.host_folder.proofs.Links.{no_link}
use Rattle.host_folder.proofs.host.Host.rename.Goals as goal

pub find_target-requires : goal.find_target-requires
find_target-requires g c = texts_kept g.H.HostCalls.story g.H.HostCalls.top c.make_room.new.self c.make_room.ensures.kept

pub returns-in_err-there-clause-kept : goal.returns-in_err-there-clause-kept
returns-in_err-there-clause-kept g c =
    kept_looked g.H.HostCalls.story g.H.HostCalls.top c.make_room.new.self c.find_target.new.self c.find_target.ensures.looked c.make_room.ensures.kept

pub returns-in_err-there-clause-answer : goal.returns-in_err-there-clause-answer
returns-in_err-there-clause-answer g c =
    let story = g.H.HostCalls.story in
    let first = story_of story c.args.self.now in
    let q = err_from_is_err_and c.from_residual-in_err-there.result c.from_residual-in_err-there.ensures.1 in
    rw (q.1, q.2) (failed_since first (story_of story c.find_target.new.self) (Move c.args.from.now c.args.to.now) c.in_err-there.field-0.0 c.in_err-there.ensures.failed
    (changed_looked story g.H.HostCalls.top first c.make_room.new.self c.find_target.new.self IsSameLog c.find_target.ensures.looked c.make_room.ensures.log))

pub returns-in_default-clause-kept : goal.returns-in_default-clause-kept
returns-in_default-clause-kept g c =
    kept_looked g.H.HostCalls.story g.H.HostCalls.top c.make_room.new.self c.find_target.new.self c.find_target.ensures.looked c.make_room.ensures.kept

pub returns-in_default-clause-answer : goal.returns-in_default-clause-answer
returns-in_default-clause-answer g c =
    let story = g.H.HostCalls.story in
    let top = g.H.HostCalls.top in
    misfit_since story top c.args.self.now c.find_target.new.self (Move c.args.from.now c.args.to.now) (λ s. IsFound c.in_ok-there.there s c.args.to.now)
    (λ s kept there. no_move_to c.in_ok-there.there c.args.from.now c.args.to.now s c.in_default.not-Nothing c.in_default.not-File there)
    (changed_looked story top (story_of story c.args.self.now) c.make_room.new.self c.find_target.new.self IsSameLog c.find_target.ensures.looked c.make_room.ensures.log)
    (kept_and story top c.find_target.new.self (λ s. IsFound c.in_ok-there.there s c.args.to.now)
    (kept_looked story top c.make_room.new.self c.find_target.new.self c.find_target.ensures.looked c.make_room.ensures.kept) c.in_ok-there.ensures.found)

pub find-requires : goal.find-requires
find-requires g c =
    texts_kept g.H.HostCalls.story g.H.HostCalls.top c.find_target.new.self
    (kept_looked g.H.HostCalls.story g.H.HostCalls.top c.make_room.new.self c.find_target.new.self c.find_target.ensures.looked c.make_room.ensures.kept)

pub returns-in_err-found-clause-kept : goal.returns-in_err-found-clause-kept
returns-in_err-found-clause-kept g c =
    let story = g.H.HostCalls.story in
    let top = g.H.HostCalls.top in
    kept_looked story top c.find_target.new.self c.find.new.self c.find.ensures.looked
    (kept_looked story top c.make_room.new.self c.find_target.new.self c.find_target.ensures.looked c.make_room.ensures.kept)

pub returns-in_err-found-clause-answer : goal.returns-in_err-found-clause-answer
returns-in_err-found-clause-answer g c =
    let story = g.H.HostCalls.story in
    let top = g.H.HostCalls.top in
    let first = story_of story c.args.self.now in
    let q = err_from_is_err_and c.from_residual-in_err-found.result c.from_residual-in_err-found.ensures.1 in
    rw (q.1, q.2) (failed_since first (story_of story c.find.new.self) (Move c.args.from.now c.args.to.now) c.in_err-found.field-0.0 c.in_err-found.ensures.failed
    (changed_looked story top first c.find_target.new.self c.find.new.self IsSameLog c.find.ensures.looked
    (changed_looked story top first c.make_room.new.self c.find_target.new.self IsSameLog c.find_target.ensures.looked c.make_room.ensures.log)))

pub move_file-requires : goal.move_file-requires
move_file-requires g c =
    let story = g.H.HostCalls.story in
    let top = g.H.HostCalls.top in
    to_move story top c.find_target.new.self c.find.new.self c.args.from.now c.args.to.now c.find.ensures.looked c.find.ensures.target
    (kept_looked story top c.make_room.new.self c.find_target.new.self c.find_target.ensures.looked c.make_room.ensures.kept) c.find_target.ensures.text c.find.ensures.text

pub drop_link-requires : goal.drop_link-requires
drop_link-requires g c =
    let story = g.H.HostCalls.story in
    let top = g.H.HostCalls.top in
    let target = c.find_target.new.self in
    let host = c.find.new.self in
    no_link story top host c.in_ok-found.found c.in_ok-there.there c.in-File.field-0 c.in-File.field-1 c.args.from.now c.args.to.now c.in-File.is
    (c.differ.ensures.0 c.if-differ.true) (c.is_same.ensures.0 c.if-is_same.true)
    (kept_looked story top target host c.find.ensures.looked (kept_looked story top c.make_room.new.self target c.find_target.ensures.looked c.make_room.ensures.kept))
    c.in_ok-found.ensures.found
    (told_looked story top target host (λ s. IsFound c.in_ok-there.there s c.args.to.now) c.find.ensures.looked c.in_ok-there.ensures.found)

pub returns-in-File-clause-answer : goal.returns-in-File-clause-answer
returns-in-File-clause-answer g c =
    let story = g.H.HostCalls.story in
    let top = g.H.HostCalls.top in
    let first = story_of story c.args.self.now in
    answered_since first (story_of story c.find.new.self) (story_of story c.drop_link.new.self) (Move c.args.from.now c.args.to.now) c.drop_link.result
    (changed_looked story top first c.find_target.new.self c.find.new.self IsSameLog c.find.ensures.looked
    (changed_looked story top first c.make_room.new.self c.find_target.new.self IsSameLog c.find_target.ensures.looked c.make_room.ensures.log)) c.drop_link.ensures.answer

pub returns-in-File-2-clause-answer : goal.returns-in-File-2-clause-answer
returns-in-File-2-clause-answer g c =
    let story = g.H.HostCalls.story in
    let top = g.H.HostCalls.top in
    let first = story_of story c.args.self.now in
    answered_since first (story_of story c.find.new.self) (story_of story c.move_file.new.self) (Move c.args.from.now c.args.to.now) c.move_file.result
    (changed_looked story top first c.find_target.new.self c.find.new.self IsSameLog c.find.ensures.looked
    (changed_looked story top first c.make_room.new.self c.find_target.new.self IsSameLog c.find_target.ensures.looked c.make_room.ensures.log)) c.move_file.ensures.answer

pub returns-in_default-found-clause-kept : goal.returns-in_default-found-clause-kept
returns-in_default-found-clause-kept g c =
    let story = g.H.HostCalls.story in
    let top = g.H.HostCalls.top in
    kept_looked story top c.find_target.new.self c.find.new.self c.find.ensures.looked
    (kept_looked story top c.make_room.new.self c.find_target.new.self c.find_target.ensures.looked c.make_room.ensures.kept)

pub returns-in_default-found-clause-answer : goal.returns-in_default-found-clause-answer
returns-in_default-found-clause-answer g c =
    let story = g.H.HostCalls.story in
    let top = g.H.HostCalls.top in
    let first = c.make_room.new.self in
    let target = c.find_target.new.self in
    misfit_since story top c.args.self.now c.find.new.self (Move c.args.from.now c.args.to.now) (λ s. IsFound c.in_ok-found.found s c.args.from.now)
    (λ s kept there. no_move_from c.in_ok-found.found c.args.from.now c.args.to.now s c.in_default-found.not-File there)
    (changed_looked story top (story_of story c.args.self.now) target c.find.new.self IsSameLog c.find.ensures.looked
    (changed_looked story top (story_of story c.args.self.now) first target IsSameLog c.find_target.ensures.looked c.make_room.ensures.log))
    (kept_and story top c.find.new.self (λ s. IsFound c.in_ok-found.found s c.args.from.now)
    (kept_looked story top target c.find.new.self c.find.ensures.looked (kept_looked story top first target c.find_target.ensures.looked c.make_room.ensures.kept)) c.in_ok-found.ensures.found)
