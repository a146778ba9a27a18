use Rattle.live_tree_laws.proofs.Contents.{dating_keeps_contents, making_keeps_contents, removing_keeps_contents, renaming_keeps_contents, writing_keeps_contents}
use Rattle.live_tree_laws.proofs.contents_stay.Goals as goal

pub returns-clause-made : goal.returns-clause-made
returns-clause-made c = making_keeps_contents

pub returns-clause-removed : goal.returns-clause-removed
returns-clause-removed c = removing_keeps_contents

pub returns-clause-renamed : goal.returns-clause-renamed
returns-clause-renamed c = renaming_keeps_contents

pub returns-clause-written : goal.returns-clause-written
returns-clause-written c = writing_keeps_contents

pub returns-clause-dated : goal.returns-clause-dated
returns-clause-dated c = dating_keeps_contents
