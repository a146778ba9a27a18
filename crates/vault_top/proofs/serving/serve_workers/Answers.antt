use Rattle.std.proofs.Common.{◌≡◌, ℕ, [], length, min, Result, refl, sym, ap, subst, ◌∙◌, inr, arith}
use Rattle.outside.specs.declared.stream.Failed.{Failed}
use Rattle.outside.specs.Views.{folder_in}
use Rattle.vault_store.specs.Open.{OpenVault}
use Rattle.vault_top.specs.Span.{views_of}
use Rattle.vault_top.specs.Sharing.{IsSharedStore}
use Rattle.vault_top.specs.Serving.{HasOutcome}
use Rattle.vault_top.proofs.Handed.{closing_of, unasked, served_all}
use Rattle.vault_top.proofs.serving.serve_workers.Goals as goal

pub returns-in-Ok : goal.returns-in-Ok
returns-in-Ok g c =
    let views = views_of g.D.Reads g.N.Listener g.N.Conn.Link g.E.Entropy g.K.Clock in
    let many : c.len.result ≡ length c.args.workers.now.items = (let len = c.len.ensures in let ok = c.args.workers.now.ok in omega arith) in
    let store = c.into_store.result in
    let close = c.close-folder in
    record {
      served = served_all (record {
        tree = _;
        store = store;
        counts = _;
        at_once = _;
        few = c.sharers-at_once.ensures ∙ ap (λ (n : ℕ). min c.args.service.at_once n) many;
        joined = c.in-Ok.ensures.joined;
        shared = λ rows origin history h.
            subst (λ (s : OpenVault _). IsSharedStore views.folder g.B.Since.since s rows origin history) (sym c.into_store.ensures) h;
        folder = _;
        folder_is = refl;
        closed = _;
        closed_is = refl;
        closing = closing_of views.folder store close.result.1 close.result.0 close.ensures.later close.ensures.idle close.ensures.flushed
            close.ensures.stopped close.ensures.moments close.ensures.cause;
        outcome = subst (λ (r : Result (Unit {0}) Failed). HasOutcome c.in-Ok.field-0.counts r c.outcome_of.result) c.committed.ensures
            c.outcome_of.ensures;
      });
    }

pub returns-in-Err : goal.returns-in-Err
returns-in-Err g c =
    let view = folder_in g.D.Reads in
    record {
      served = (
        [],
        inr (record {
          outcome = refl;
          store = refl;
          same = c.in-Err.ensures.err.0;
          folder = unasked (λ vault. vault.store) view g.B.Start.is g.B.Since.since c.in-Err.left c.folder_of.result c.folder_of.ensures c.in-Err.ensures.err.1;
        }),
      );
    }
