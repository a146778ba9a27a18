use Rattle.file_changes.proofs.Behind.{room_after, flushed_after, never_flushed}
use Rattle.file_changes.proofs.waiting.make_room.Goals as goal

pub returns-then-room-clause-flushed : goal.returns-then-room-clause-flushed
returns-then-room-clause-flushed g c = never_flushed c.args.back.now.waiting (g.D.Reads.log c.args.back.now.folder)

pub returns-clause-room : goal.returns-clause-room
returns-clause-room g c = room_after c.flush.result c.flush.new.self.waiting c.args.path.now c.args.chunks c.flush.ensures.none c.requires.inside c.requires.few

pub returns-clause-flushed : goal.returns-clause-flushed
returns-clause-flushed g c =
    flushed_after c.flush.result c.args.back.now.waiting c.flush.new.self.waiting (g.D.Reads.log c.args.back.now.folder) (g.D.Reads.log c.flush.new.self.folder) c.flush.ensures.none
    c.flush.ensures.committed c.flush.ensures.any_moment
