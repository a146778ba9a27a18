use Rattle.std.proofs.Common.{refl, rules}
use Rattle.vaultd.proofs.starting.run_over_streams.Goals as goal

pub returns : goal.returns
returns g c = record {
  run = record {
    folder = c.args.folder;
    opened = refl;
    secret = _;
    second = _;
    workers = _;
    many = search rules;
    new = search rules;
    workers_after = _;
    before = _;
    after = _;
    ended = c.run-ended.result;
    run = c.run-ended.ensures.run;
    status_is = c.closed_status.ensures;
  };
  removed = refl;
}
