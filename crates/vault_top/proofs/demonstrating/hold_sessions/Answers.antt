use Rattle.std.proofs.lemmas.Option.{IfSome_then}
use Rattle.vault_top.proofs.Begun.{begun, begun_since}
use Rattle.vault_top.proofs.Demonstrations.{served_whole}
use Rattle.vault_top.proofs.demonstrating.hold_sessions.Goals as goal

pub serve_workers-requires-clause-right : goal.serve_workers-requires-clause-right
serve_workers-requires-clause-right g c κs within = begun c.requires.start c.requires.since c.in-Ok.ensures.opened

pub serve_workers-requires-clause-since : goal.serve_workers-requires-clause-since
serve_workers-requires-clause-since g c κs within = begun_since c.requires.start

pub returns-in-Ok : goal.returns-in-Ok
returns-in-Ok g c = record {
  whole = IfSome_then c.kept_of.result c.kept_of.ensures (λ kept is words.
      served_whole (record { starts = c.requires.start; alone = c.requires.since; line = c.in-Ok.ensures.opened.unlocked.line }) is words c.serve_workers.ensures.served.1);
}
