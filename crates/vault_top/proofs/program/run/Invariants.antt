use Rattle.outside.specs.Calls.{next_of}
use Rattle.outside.specs.Views.{folder_in}
use Rattle.vault_top.specs.Span.{source_in, views_of}
use Rattle.vault_top.specs.Sharing.{Begins, IsBegun}
use Rattle.vault_top.proofs.program.run.Given as goal

abbrev pub ghosts-serve-B-Start : goal.ghosts-serve-B-Start
ghosts-serve-B-Start g a = record {
  is = λ rows origin. Begins
      (views_of g.D.Reads g.N.Listener g.N.Conn.Link g.E.Entropy g.K.Clock)
      a.folder a.workers.now.items rows origin;
}

abbrev pub ghosts-serve-B-Since : goal.ghosts-serve-B-Since
ghosts-serve-B-Since g a = record {
  since = λ start keys rows. IsBegun a.service.kind (folder_in g.D.Reads a.folder)
      (source_in g.S.Source a.secret.now) (next_of (g.K.Clock.to_give a.clock.now)) start keys rows;
}

abbrev pub ghosts-serve_to_read-B-Start : goal.ghosts-serve_to_read-B-Start
ghosts-serve_to_read-B-Start g a = record {
  is = λ rows origin. Begins
      (views_of g.D.Reads g.N.Listener g.N.Conn.Link g.E.Entropy g.K.Clock)
      a.folder a.workers.now.items rows origin;
}

abbrev pub ghosts-serve_to_read-B-Since : goal.ghosts-serve_to_read-B-Since
ghosts-serve_to_read-B-Since g a = record {
  since = λ start keys rows. IsBegun a.service.kind (folder_in g.D.Reads a.folder)
      (source_in g.S.Source a.secret.now) (next_of (g.K.Clock.to_give a.clock.now)) start keys rows;
}
