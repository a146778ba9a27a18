use Rattle.std.proofs.Common.{refl, inr}
use Rattle.vault_top.proofs.Begun.{begun_since, begun_to_read}
use Rattle.vault_top.proofs.Readings.{run_read}
use Rattle.vault_top.proofs.Reasons.{run_unserved}
use Rattle.vault_top.proofs.program.serve_to_read.Goals as goal

pub serve_view-requires-clause-right : goal.serve_view-requires-clause-right
serve_view-requires-clause-right g c κs within = begun_to_read c.requires.start c.requires.since c.in-Ok.ensures.opened

pub serve_view-requires-clause-since : goal.serve_view-requires-clause-since
serve_view-requires-clause-since g c κs within = begun_since c.requires.start

pub returns-in-Ok : goal.returns-in-Ok
returns-in-Ok g c = λ words serving asked read_only same.
    run_read (record {
      asked = record {
        serving = serving;
        words_are = asked;
        same = same;
        beginning = record { starts = c.requires.start; alone = c.requires.since; line = c.in-Ok.ensures.opened.unlocked.line };
      };
      read_only = read_only;
      vault = c.in-Ok.store;
      unlocked = c.in-Ok.ensures.opened;
    }) c.serve_view.ensures.served

pub returns-in-Err : goal.returns-in-Err
returns-in-Err g c = λ words serving asked read_only same.
    run_unserved (record {
      serving = serving;
      service = _;
      kept = _;
      cause = _;
      asked = asked;
      same = same;
      folder_is = refl;
      store_is = refl;
      unopened = inr (read_only, c.in-Err.ensures.unread);
      reported = c.refuse.ensures;
    })
