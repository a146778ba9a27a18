-- A window of a text that is written from its beginning.
use Rattle.std.specs.Prelude.{◌≡◌, ℕ, ◌-◌, List, ◌++◌, length, take, drop, min}
use Rattle.deeds.specs.declared.window.Window.{Window}

-- The text so far is passed, but for what the window shows: its bytes from an offset on, as many as there are and have room.
pub record IsWindow (from : ℕ) (text : List ℕ) (window : Window) (out : List ℕ) : Type 0 where
  pub skip : window.skip ≡ from - length text
  pub used : window.used ≡ min (length out) (length text - from)
  pub filled : take window.used out ≡ take (length out) (drop from text)

-- whatever was passed before, these bytes are passed after it
pub record Passes (bytes : List ℕ) (old new : Window) (before after : List ℕ) : Type 0 where
  pub room : length after ≡ length before
  pub passed : (from : ℕ) (text : List ℕ) → IsWindow from text old before → IsWindow from (text ++ bytes) new after
