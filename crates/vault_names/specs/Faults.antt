-- The errors of `clear_name` as the faults of names.
use Rattle.std.specs.Prelude.{◌≡◌, ℕ, List, Result, Err}
use Rattle.tree_model.specs.Names.{NameFault, not_utf8, empty, dots, forbidden, too_long}
use Rattle.vault_names.specs.declared.name.BadName.{BadName}
use Rattle.vault_names.specs.declared.name.BadName.TheVariants.{NotUtf8, Empty, Dots, Forbidden, TooLong, Memory}

-- the error is the fault that a check gives; running out of memory says nothing
abbrev pub IsFault : BadName → Result (List ℕ) NameFault → Type 0
IsFault NotUtf8 checked = checked ≡ Err not_utf8
IsFault Empty checked = checked ≡ Err empty
IsFault Dots checked = checked ≡ Err dots
IsFault Forbidden checked = checked ≡ Err forbidden
IsFault (TooLong n) checked = checked ≡ Err (too_long n)
IsFault Memory checked = Unit {0}
