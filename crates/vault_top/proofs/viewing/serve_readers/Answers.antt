use Rattle.std.proofs.Common.{◌≡◌, ℕ, [], length, min, Some, refl, ap, ◌∙◌, inr, arith}
use Rattle.outside.specs.Views.{folder_in}
use Rattle.vault_top.specs.Span.{views_of}
use Rattle.vault_top.proofs.Handed.{unasked_view, viewed_all}
use Rattle.vault_top.proofs.viewing.serve_readers.Goals as goal

pub returns-in-Ok : goal.returns-in-Ok
returns-in-Ok g c =
    let views = views_of g.D.Reads g.N.Listener g.N.Conn.Link g.E.Entropy g.K.Clock in
    let many : c.len.result ≡ length c.args.workers.now.items = (let len = c.len.ensures in let ok = c.args.workers.now.ok in omega arith) in
    record {
      served = viewed_all (record {
        tree = _;
        vault = c.in-Ok.field-0.tree.store;
        counts = _;
        at_once = _;
        few = c.sharers-at_once.ensures ∙ ap (λ (n : ℕ). min c.args.service.at_once n) many;
        joined = c.in-Ok.ensures.joined;
        shared = λ rows origin history h. h;
        folder_is = ap Some c.into_folder.ensures;
        outcome = c.read_outcome.ensures;
      });
    }

pub returns-in-Err : goal.returns-in-Err
returns-in-Err g c =
    let view = folder_in g.D.Reads in
    record {
      served = (
        [],
        inr (record {
          outcome = refl;
          same = c.in-Err.ensures.err.0;
          folder = unasked_view (λ vault. vault.store) view g.B.Start.is g.B.Since.since c.in-Err.left c.folder_left.result c.folder_left.ensures c.in-Err.ensures.err.1;
        }),
      );
    }
