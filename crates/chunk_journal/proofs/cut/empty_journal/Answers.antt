use Rattle.outside.proofs.Told.{told_same}
use Rattle.chunk_journal.specs.Journal.{IsQuiet, StaysShut}
use Rattle.chunk_journal.proofs.Commits.{quiet_stays}
use Rattle.chunk_journal.proofs.CutJournal.{told_alone, told_leaves, told_quiet}
use Rattle.chunk_journal.proofs.cut.empty_journal.Goals as goal

pub returns-in_err-has_more-clause-any_moment : goal.returns-in_err-has_more-clause-any_moment
returns-in_err-has_more-clause-any_moment g c = told_same (g.D.Reads.log c.args.folder.now) (g.D.Reads.log c.has_more.new.folder) IsQuiet StaysShut c.in_err-has_more.ensures.log quiet_stays c.requires.quiet

pub returns-then-not-branch-clause-any_moment : goal.returns-then-not-branch-clause-any_moment
returns-then-not-branch-clause-any_moment g c = told_same (g.D.Reads.log c.args.folder.now) (g.D.Reads.log c.has_more.new.folder) IsQuiet StaysShut c.in_ok-has_more.ensures.log quiet_stays c.requires.quiet

pub returns-in_err-cut_synced-clause-any_moment : goal.returns-in_err-cut_synced-clause-any_moment
returns-in_err-cut_synced-clause-any_moment g c = told_leaves c.journal_path-journal.result c.journal_path-journal.ensures
    (g.D.Reads.log c.args.folder.now) (g.D.Reads.log c.has_more.new.folder) (g.D.Reads.log c.cut_synced.new.folder) c.requires.quiet c.in_ok-has_more.ensures.log c.in_err-cut_synced.ensures.any_moment

pub returns-clause-any_moment : goal.returns-clause-any_moment
returns-clause-any_moment g c = told_leaves c.journal_path-journal.result c.journal_path-journal.ensures
    (g.D.Reads.log c.args.folder.now) (g.D.Reads.log c.has_more.new.folder) (g.D.Reads.log c.cut_synced.new.folder) c.requires.quiet c.in_ok-has_more.ensures.log c.in_ok-cut_synced.ensures.any_moment

pub returns-clause-quiet : goal.returns-clause-quiet
returns-clause-quiet g c = told_quiet c.journal_path-journal.result c.journal_path-journal.ensures
    (g.D.Reads.log c.args.folder.now) (g.D.Reads.log c.has_more.new.folder) (g.D.Reads.log c.cut_synced.new.folder) c.requires.quiet c.in_ok-has_more.ensures.log c.in_ok-cut_synced.ensures.cut

pub returns-clause-alone : goal.returns-clause-alone
returns-clause-alone g c = told_alone c.journal_path-journal.result (g.D.Reads.log c.has_more.new.folder) (g.D.Reads.log c.cut_synced.new.folder) c.journal_path-journal.ensures c.in_ok-cut_synced.ensures.cut
