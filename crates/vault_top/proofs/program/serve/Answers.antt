use Rattle.std.proofs.Common.{refl, inl}
use Rattle.vault_top.proofs.Begun.{begun, begun_since}
use Rattle.vault_top.proofs.Reasons.{run_served, run_unserved}
use Rattle.vault_top.proofs.program.serve.Goals as goal

pub serve_vault-requires-clause-right : goal.serve_vault-requires-clause-right
serve_vault-requires-clause-right g c κs within = begun c.requires.start c.requires.since c.in-Ok.ensures.opened

pub serve_vault-requires-clause-since : goal.serve_vault-requires-clause-since
serve_vault-requires-clause-since g c κs within = begun_since c.requires.start

pub returns-in-Ok : goal.returns-in-Ok
returns-in-Ok g c = λ words serving asked writes same.
    run_served (record {
      asked = record {
        serving = serving;
        words_are = asked;
        same = same;
        beginning = record { starts = c.requires.start; alone = c.requires.since; line = c.in-Ok.ensures.opened.unlocked.line };
      };
      writes = writes;
      store = c.in-Ok.store;
      unlocked = c.in-Ok.ensures.opened;
    }) c.serve_vault.ensures.served

pub returns-in-Err : goal.returns-in-Err
returns-in-Err g c = λ words serving asked writes same.
    run_unserved (record {
      serving = serving;
      service = _;
      kept = _;
      cause = _;
      asked = asked;
      same = same;
      folder_is = refl;
      store_is = refl;
      unopened = inl (writes, c.in-Err.ensures.unopened);
      reported = c.refuse.ensures;
    })
