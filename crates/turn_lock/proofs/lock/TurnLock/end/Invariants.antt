use Rattle.turn_lock.proofs.lock.TurnLock.end.Given as goal

abbrev pub ghosts-end_as : goal.ghosts-end_as
ghosts-end_as g a = record { is = g.N.Note.tells a.note.now }
