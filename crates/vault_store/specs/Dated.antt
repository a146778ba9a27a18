-- The tree in memory after the mtime was set that a change asks for, if it asks for one.
use Rattle.std.specs.Prelude.{◌≡◌, ℕ, Option, Some, None}
use Rattle.live_tree.specs.Held.{HeldTree}
use Rattle.live_tree.specs.Changes.{dated, RowsAreDated}

abbrev pub IsDated : HeldTree → HeldTree → ℕ → Option ℕ → Type 0
IsDated old new number None = new ≡ old
IsDated old new number (Some modified) = (new ≡ dated old number modified) × RowsAreDated old new number modified
