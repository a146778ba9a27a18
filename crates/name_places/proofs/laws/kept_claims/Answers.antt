use Rattle.name_places.proofs.Texts.{kept_claim}
use Rattle.name_places.proofs.laws.kept_claims.Goals as goal

pub returns : goal.returns
returns c = kept_claim c.args.keys.now
