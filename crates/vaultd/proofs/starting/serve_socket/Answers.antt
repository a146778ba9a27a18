use Rattle.std.proofs.Common.{refl, arith}
use Rattle.vaultd.proofs.starting.serve_socket.Goals as goal

pub returns : goal.returns
returns g c = record {
  folder = c.args.folder;
  opened = refl;
  secret = _;
  second = _;
  workers = _;
  many = (let count = c.in_ok-workers.ensures.count in let ok = c.in_ok-workers.workers.ok in let at_once = c.clamp-at_once.ensures in omega arith);
  new = c.in_ok-workers.ensures.listening;
  workers_after = _;
  before = _;
  after = _;
  ended = c.run-ended.result;
  run = c.run-ended.ensures.run;
  status_is = c.closed_status.ensures;
}
