use Rattle.crash_laws.proofs.Trees.{stops_are_sound, wholes_are_sound}
use Rattle.crash_laws.proofs.laws.stops_are_sound.Goals as goal

pub returns-clause-prefix : goal.returns-clause-prefix
returns-clause-prefix c start = stops_are_sound _

pub returns-clause-whole : goal.returns-clause-whole
returns-clause-whole c start = wholes_are_sound _
