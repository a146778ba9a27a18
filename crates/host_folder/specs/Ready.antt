-- When what is at a path can be flushed.
use Rattle.std.specs.Prelude.{◌≡◌, ℕ, List}
use Rattle.host_calls.specs.Story.{Story, IsSoundStory}

-- a sound story, and a folder whose text is the host's own
pub record IsReady (base top : List ℕ) (story : Story) : Type 0 where
  pub sound : IsSoundStory story
  pub text : base ≡ top

-- P of a flush in such a folder
abbrev pub IfReady : List ℕ → List ℕ → (Story → Story → Type 0) → Story → Story → Type 0
IfReady base top P old new = IsReady base top old → P old new
