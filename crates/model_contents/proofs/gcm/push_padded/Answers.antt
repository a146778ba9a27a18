use Rattle.std.proofs.Common.{rules}
use Rattle.std.proofs.lemmas.List.{append_assoc}
use Rattle.model_contents.proofs.GcmTexts.{zero_padded_by_part}
use Rattle.model_contents.proofs.gcm.push_padded.Goals as goal

pub returns : goal.returns
returns c = rw (← zero_padded_by_part c.args.text.now) (search (rules, append_assoc))
