use Rattle.std.proofs.Common.{◌∷◌, [], subst, sym, refl, arith}
use Rattle.outside.specs.Disk.{Path, node_at}
use Rattle.outside.specs.Images.{now, IsSteady}
use Rattle.outside.specs.Changes.{Put, Move, CanDo}
use Rattle.outside.specs.Calls.{Told, Changes}
use Rattle.outside.proofs.Told.{told_new, told_then}
use Rattle.deeds.proofs.Growing.{steady_of}
use Rattle.deeds.proofs.Phases.{cause_then}
use Rattle.chunk_journal.specs.Journal.{journal_file, new_file, IsQuiet}
use Rattle.chunk_journal.specs.Stages.{IsKept}
use Rattle.chunk_journal.proofs.Faults.{free_put}
use Rattle.chunk_journal.proofs.FirstJournal.{HasNew, told_new_leaves, told_has_new, told_move_leaves, told_at_rest, can_move}
use Rattle.chunk_journal.proofs.first.make_first.Given.{Over}
use Rattle.chunk_journal.proofs.first.make_first.Goals as goal
use Rattle.chunk_journal.proofs.first.make_first.Goals.{In_ok-put_synced}

-- the new journal is there
has_new : (g : Over) (c : In_ok-put_synced g) → Changes (g.D.Reads.log c.args.folder.now) (g.D.Reads.log c.put_synced.new.folder) HasNew
has_new g c = told_has_new c.args.beside.now c.requires.beside (g.D.Reads.log c.args.folder.now) (g.D.Reads.log c.put_synced.new.folder) c.requires.quiet c.in_ok-put_synced.ensures.put c.in_ok-put_synced.ensures.any_moment

pub put_synced-requires-clause-steady : goal.put_synced-requires-clause-steady
put_synced-requires-clause-steady g c = told_then (g.D.Reads.log c.args.folder.now) IsQuiet IsSteady c.requires.quiet (λ x r. steady_of x r.steady)

pub put_synced-requires-clause-can : goal.put_synced-requires-clause-can
put_synced-requires-clause-can g c =
    subst (λ (p : Path). Told (g.D.Reads.log c.args.folder.now) (λ log. CanDo (Put p (0 ∷ [])) (now log))) (sym c.requires.beside)
    (told_then (g.D.Reads.log c.args.folder.now) IsQuiet (λ log. CanDo (Put new_file (0 ∷ [])) (now log)) c.requires.quiet (λ x r. record { inside = r.steady.tree.top; free = free_put (node_at (now x) new_file) r.no_folder }))

pub move_synced-requires-clause-steady : goal.move_synced-requires-clause-steady
move_synced-requires-clause-steady g c = told_new (g.D.Reads.log c.args.folder.now) (g.D.Reads.log c.put_synced.new.folder) (IsKept (Put c.args.beside.now (0 ∷ []))) IsSteady (λ x y k. steady_of y k.steady) c.in_ok-put_synced.ensures.put

pub move_synced-requires-clause-can : goal.move_synced-requires-clause-can
move_synced-requires-clause-can g c =
    let l1 = g.D.Reads.log c.put_synced.new.folder in
    let at = goal.at.move_synced-requires-clause-can g c in
    subst (λ (p : Path). Told l1 (λ log. CanDo (Move p c.args.journal.now) (now log))) (sym c.requires.beside)
    (subst (λ (p : Path). Told l1 (λ log. CanDo (Move new_file p) (now log))) (sym c.requires.journal)
    (told_new (g.D.Reads.log c.args.folder.now) l1 HasNew (λ log. CanDo (Move new_file journal_file) (now log)) can_move (has_new g at.In_ok-put_synced)))

pub returns-in_err-put_synced-clause-any_moment : goal.returns-in_err-put_synced-clause-any_moment
returns-in_err-put_synced-clause-any_moment g c =
    told_new_leaves c.args.beside.now c.requires.beside (g.D.Reads.log c.args.folder.now) (g.D.Reads.log c.put_synced.new.folder) c.requires.quiet c.in_err-put_synced.ensures.any_moment

pub returns-in_err-move_synced-clause-any_moment : goal.returns-in_err-move_synced-clause-any_moment
returns-in_err-move_synced-clause-any_moment g c =
    told_move_leaves c.args.beside.now c.requires.beside c.args.journal.now c.requires.journal (g.D.Reads.log c.args.folder.now) (g.D.Reads.log c.put_synced.new.folder) (g.D.Reads.log c.move_synced.new.folder) (has_new g (goal.at.returns-in_err-move_synced-clause-any_moment g c).In_ok-put_synced) c.in_err-move_synced.ensures.any_moment

pub returns-in_err-move_synced-clause-cause : goal.returns-in_err-move_synced-clause-cause
returns-in_err-move_synced-clause-cause g c =
    cause_then (g.D.Reads.faults c.args.folder.now) (g.D.Reads.faults c.put_synced.new.folder) (g.D.Reads.faults c.move_synced.new.folder) _ c.in_ok-put_synced.ensures.cause.later
    (record { later = c.in_err-move_synced.ensures.cause.later; rose = λ failed. c.in_err-move_synced.ensures.cause.rose refl })

pub returns-clause-any_moment : goal.returns-clause-any_moment
returns-clause-any_moment g c =
    told_move_leaves c.args.beside.now c.requires.beside c.args.journal.now c.requires.journal (g.D.Reads.log c.args.folder.now) (g.D.Reads.log c.put_synced.new.folder) (g.D.Reads.log c.move_synced.new.folder) (has_new g (goal.at.returns-clause-any_moment g c).In_ok-put_synced) c.in_ok-move_synced.ensures.any_moment

pub returns-clause-made : goal.returns-clause-made
returns-clause-made g c =
    told_at_rest c.args.beside.now c.requires.beside c.args.journal.now c.requires.journal (g.D.Reads.log c.args.folder.now) (g.D.Reads.log c.put_synced.new.folder) (g.D.Reads.log c.move_synced.new.folder) (has_new g (goal.at.returns-clause-made g c).In_ok-put_synced) c.in_ok-move_synced.ensures.moved

pub returns-clause-cause : goal.returns-clause-cause
returns-clause-cause g c = record { later = omega (arith, c.in_ok-put_synced.ensures.cause.later, c.in_ok-move_synced.ensures.cause.later); rose = λ failed. absurd cc }
