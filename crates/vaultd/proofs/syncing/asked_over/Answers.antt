use Rattle.vaultd.proofs.syncing.asked_over.Goals as goal

pub returns : goal.returns
returns g c = record {
  before = c.args.link;
  after = c.sync_root-answer.new.link;
  result = _;
  talked = c.sync_root-answer.ensures;
  is = c.end_of.ensures;
}
