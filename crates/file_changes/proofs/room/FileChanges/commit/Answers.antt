use Rattle.std.proofs.Common.{ap, ◌∙◌}
use Rattle.write_back.specs.Deeds.{deeds_of}
use Rattle.content_writer.specs.Sealed.{chunks_of}
use Rattle.file_chunks.specs.declared.size.TheConstants.{SEALED_LENGTH}
use Rattle.file_changes.proofs.Putting.{same_rewriting, can_be_done}
use Rattle.file_changes.proofs.room.FileChanges.commit.Goals as goal

pub commit-done-requires-clause-can : goal.commit-done-requires-clause-can
commit-done-requires-clause-can g c =
    let r = c.args.self.now.writer in
    let same = same_rewriting r c.first.result c.size.result (chunks_of SEALED_LENGTH c.sealed.result.now) c.first.ensures c.sealed.ensures c.size.ensures in
    rw c.still_fit.ensures.log (
    can_be_done (g.D.Reads.log c.args.journal.now) c.args.file.now.path c.args.file.now.size r _ c.deeds_rewrite.ensures c.requires.inside c.requires.puttable c.requires.can
    (c.deeds-2.ensures.deeds ∙ c.put_chunks.ensures.deeds ∙ ap (deeds_of c.args.file.now.path) same))
