-- What a folder tells of what its host tells.
use Rattle.std.specs.Prelude.{Bool, true, false, Option, None}
use Rattle.outside.specs.Images.{Log}
use Rattle.host_calls.specs.Story.{Story}

-- what is told, if it is to be
abbrev pub told_if : {X : Type 0} → Bool → Option X → Option X
told_if true told = told
told_if false told = None

-- the log that a story holds
abbrev pub diary_of : Story → Log
diary_of story = story.diary
