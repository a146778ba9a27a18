use Rattle.name_places.proofs.Lowest.{making_keeps, removing_keeps, renaming_keeps, writing_keeps, dating_keeps}
use Rattle.name_places.proofs.laws.changes_keep_claims.Goals as goal

pub returns : goal.returns
returns c = record {
  making = making_keeps;
  removing = removing_keeps;
  renaming = renaming_keeps;
  writing = writing_keeps;
  dating = dating_keeps;
}
