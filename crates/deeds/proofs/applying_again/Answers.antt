use Rattle.deeds.proofs.Applying.{applied_again, applies_one, applies_whole}
use Rattle.deeds.proofs.applying_again.Goals as goal

pub returns : goal.returns
returns c = record { one = applies_one; whole = applies_whole; again = applied_again }
